-- The values of a control file are those of its lines.
use Rattle.std.proofs.Common.{◌≡◌, ℕ, ◌*◌, List, Option, Some, None, ◌∙◌, ap}
use Rattle.std.specs.Prelude.{codes}
use Rattle.std.specs.Option.{option_map}
use Rattle.node_boxes.specs.Grid.{node_count}
use Rattle.node_boxes.specs.declared.frame.Frame.{Frame}
use Rattle.control_reader.specs.declared.control.Control.{Control}
use Rattle.control_reader.specs.declared.values.Files.{Files}
use Rattle.control_reader.specs.declared.values.Method.{Method}
use Rattle.control_reader.specs.ControlFile.{IsControlOf, files_in, method_in, value_or}
use Rattle.control_reader.specs.ControlLines.{ControlLine, statement_with}
use Rattle.control_reader.specs.ControlValues.{values_of}
use Rattle.control_reader.specs.Values.{files_of, frame_of, method_of, sigma_of, count_of}
use Rattle.control_reader.specs.ValuesOfLines.{needed, values_in}

-- a needed statement that stands there
needed_is : {V : Type 0} (value : List (List ℕ) → V) (found : Option (List (List ℕ))) (x : V) → Some x ≡ option_map value found → x ≡ needed value found
needed_is value None x is = absurd cc
needed_is value (Some words) x is = cc

pub says_values : (lines : List ControlLine) (control : Control) → IsControlOf lines control → values_of control ≡ values_in lines
unfolding values_in
says_values lines control says =
    let files = needed_is files_of (statement_with (codes "LOCFILES") lines) (files_in control) says.files in
    let frame = needed_is frame_of (statement_with (codes "LOCGRID") lines) control.frame says.frame in
    let method = needed_is method_of (statement_with (codes "LOCMETH") lines) (method_in control) says.method in
    let sigma = needed_is sigma_of (statement_with (codes "LOCGAU") lines) control.sigma says.sigma in
    let budget =
    says.budget ∙ ap (λ (f : Frame). value_or (2 * node_count f.grid) count_of (statement_with (codes "EDTBUDGET") lines)) frame in
    λ i. record {
      obs_file = ap (λ (f : Files). f.obs_file) files i;
      time_root = ap (λ (f : Files). f.time_root) files i;
      swap = ap (λ (f : Files). f.swap) files i;
      frame = frame i;
      max_dist = ap (λ (m : Method). m.max_dist) method i;
      min_dist = ap (λ (m : Method). m.min_dist) method i;
      min_phases = ap (λ (m : Method). m.min_phases) method i;
      max_phases = ap (λ (m : Method). m.max_phases) method i;
      min_s = ap (λ (m : Method). m.min_s) method i;
      vpvs = ap (λ (m : Method). m.vpvs) method i;
      reject_duplicates = ap (λ (m : Method). m.reject_duplicates) method i;
      sigma = sigma i;
      cells = says.cells i;
      phase_ids = says.phase_ids i;
      excludes = says.excludes i;
      delays = says.delays i;
      aliases = says.aliases i;
      seed = says.seed i;
      margin = says.margin i;
      budget = budget i;
      shape = says.shape i;
      lanes = says.lanes i;
      passed = says.passed i;
    }
