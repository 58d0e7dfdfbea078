use Rattle.std.proofs.Common.{◌≡◌, ◌≤◌, [], IfSome, OnSome, All, Some, false, length}
use Rattle.std.specs.Prelude.{is_none}
use Rattle.std.specs.List.{list_any}
use Rattle.edt_outside.specs.Counts.{RisesExactly}
use Rattle.grid_header.specs.Reading.{IsValidHeader}
use Rattle.control_reader.specs.ControlValues.{values_of}
use Rattle.event_assembly.specs.Headers.{header_fault, lacks_a_header}
use Rattle.event_assembly.specs.Inside.Reads.{header_in}
use Rattle.event_assembly.proofs.ReadLaws.{AreMade}
use Rattle.event_assembly.proofs.headers.read_headers.Given as goal

abbrev pub invariant-loop-key : goal.invariant-loop-key
invariant-loop-key g l = record {
  told : IfSome (g.S.Shelf.files l.initial.shelf) (λ files.
      AreMade (header_fault files (values_of l.control)) (header_in files (values_of l.control)) l.key-index l.keys l.headers.items);
  long : length l.headers.items ≡ l.key-index;
  valid : All (λ header. IfSome header IsValidHeader) l.headers.items;
  ended : OnSome (g.S.Shelf.files l.initial.shelf) (g.S.Shelf.left l.initial.shelf ≡ Some [] → g.S.Shelf.left l.shelf ≡ Some []);
  same_files : g.S.Shelf.files l.shelf ≡ g.S.Shelf.files l.initial.shelf;
  faults : g.S.Shelf.faults l.shelf ≡ g.S.Shelf.faults l.initial.shelf;
  misses : g.S.Shelf.misses l.shelf ≡ g.S.Shelf.misses l.initial.shelf;
  lacks_stay : g.S.Shelf.lacks l.initial.shelf ≤ g.S.Shelf.lacks l.shelf;
  lacks : RisesExactly (list_any is_none l.headers.items) (g.S.Shelf.lacks l.initial.shelf) (g.S.Shelf.lacks l.shelf);
  no_lacks : IfSome (g.S.Shelf.files l.initial.shelf) (λ files.
      lacks_a_header files (values_of l.control) l.keys ≡ false → g.S.Shelf.lacks l.shelf ≡ g.S.Shelf.lacks l.initial.shelf);
  calls : g.S.Shelf.calls l.initial.shelf ≤ g.S.Shelf.calls l.shelf;
}
