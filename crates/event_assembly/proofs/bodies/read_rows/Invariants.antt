use Rattle.std.proofs.Common.{◌≡◌, ◌≤◌, [], IfSome, OnSome, Some, length, vec_len}
use Rattle.control_reader.specs.ControlValues.{values_of}
use Rattle.event_assembly.specs.Assembling.{keys_at, roots_for}
use Rattle.event_assembly.specs.Rows.{row_fault, row_times}
use Rattle.event_assembly.proofs.ReadLaws.{AreMade}
use Rattle.event_assembly.proofs.bodies.read_rows.Given as goal

abbrev pub invariant-loop-row : goal.invariant-loop-row
invariant-loop-row g l = record {
  told : IfSome (g.S.Shelf.files l.initial.shelf) (λ files.
      AreMade (row_fault files (values_of l.control)) (row_times files (values_of l.control)) l.row-index (keys_at l.keys l.rows) l.field.rows);
  grid : l.field.grid ≡ l.control.frame.grid;
  roots : l.field.roots ≡ roots_for (values_of l.control);
  long : length l.field.rows ≡ l.row-index;
  buffer : vec_len l.buffer ≡ 65536;
  ended : OnSome (g.S.Shelf.files l.initial.shelf) (g.S.Shelf.left l.initial.shelf ≡ Some [] → g.S.Shelf.left l.shelf ≡ Some []);
  same_files : g.S.Shelf.files l.shelf ≡ g.S.Shelf.files l.initial.shelf;
  faults : g.S.Shelf.faults l.shelf ≡ g.S.Shelf.faults l.initial.shelf;
  misses : g.S.Shelf.misses l.shelf ≡ g.S.Shelf.misses l.initial.shelf;
  lacks : g.S.Shelf.lacks l.shelf ≡ g.S.Shelf.lacks l.initial.shelf;
  calls : g.S.Shelf.calls l.initial.shelf ≤ g.S.Shelf.calls l.shelf;
}
