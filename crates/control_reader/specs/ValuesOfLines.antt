-- What the lines of a control file say, as values.
use Rattle.std.specs.Prelude.{ℕ, ◌*◌, List, [], map, flat_map, count_by, Option, pos, codes}
use Rattle.kernel_table.specs.declared.kernels.Shape.TheVariants.{Gauss}
use Rattle.node_boxes.specs.Grid.{node_count}
use Rattle.node_boxes.specs.declared.frame.Frame.{Frame}
use Rattle.control_reader.specs.declared.values.Files.{Files}
use Rattle.control_reader.specs.declared.values.Method.{Method}
use Rattle.control_reader.specs.ControlFile.{is_passed, value_or}
use Rattle.control_reader.specs.ControlLines.{ControlLine, statement_with, statements_with}
use Rattle.control_reader.specs.ControlValues.{ControlValues}
use Rattle.control_reader.specs.Values.{files_of, frame_of, method_of, sigma_of, cells_of, phase_ids_of, exclude_of, delay_of, alias_of, seed_of, count_of, shape_of}

-- what a needed statement says
abbrev pub needed : {V : Type 0} → (List (List ℕ) → V) → Option (List (List ℕ)) → V
needed value found = value_or (value []) value found

-- the values of the lines of a control file that has a reading
unfoldable pub values_in : List ControlLine → ControlValues
values_in lines =
    let files : Files = needed files_of (statement_with (codes "LOCFILES") lines) in
    let frame : Frame = needed frame_of (statement_with (codes "LOCGRID") lines) in
    let method : Method = needed method_of (statement_with (codes "LOCMETH") lines) in
    record {
      obs_file = files.obs_file;
      time_root = files.time_root;
      swap = files.swap;
      frame = frame;
      max_dist = method.max_dist;
      min_dist = method.min_dist;
      min_phases = method.min_phases;
      max_phases = method.max_phases;
      min_s = method.min_s;
      vpvs = method.vpvs;
      reject_duplicates = method.reject_duplicates;
      sigma = needed sigma_of (statement_with (codes "LOCGAU") lines);
      cells = value_or (1, 1, 1) cells_of (statement_with (codes "LOCSEARCH") lines);
      phase_ids = flat_map phase_ids_of (statements_with (codes "LOCPHASEID") lines);
      excludes = map exclude_of (statements_with (codes "LOCEXCLUDE") lines);
      delays = map delay_of (statements_with (codes "LOCDELAY") lines);
      aliases = map alias_of (statements_with (codes "LOCALIAS") lines);
      seed = value_or (pos 0) seed_of (statement_with (codes "CONTROL") lines);
      margin = value_or 0 count_of (statement_with (codes "EDTNEAR") lines);
      budget = value_or (2 * node_count frame.grid) count_of (statement_with (codes "EDTBUDGET") lines);
      shape = value_or Gauss shape_of (statement_with (codes "EDTKERNEL") lines);
      lanes = value_or 1 count_of (statement_with (codes "EDTLANES") lines);
      passed = count_by is_passed lines;
    }
