use Rattle.std.proofs.Common.{◌≡◌, ◌≤◌, take, map, IfSome, All, vec_len, None}
use Rattle.run_input.specs.FilesUnder.{bytes_under}
use Rattle.text_terms.specs.Faults.{first_cause}
use Rattle.run_input.specs.FirstRefusals.{included_refusals}
use Rattle.run_input.proofs.reading.read_included.Given as goal

abbrev pub invariant-loop-name : goal.invariant-loop-name
invariant-loop-name g l = record {
  number : l.number ≡ l.name-index;
  told : IfSome (g.S.Shelf.files l.fn.shelf) (λ files.
      (first_cause (included_refusals files (take l.name-index l.names)) ≡ None)
      × (map (λ bytes. bytes.items) l.included.items ≡ map (bytes_under files) (take l.name-index l.names)));
  one_each : vec_len l.included ≡ l.name-index;
  sizes : All (λ bytes. vec_len bytes ≤ 1048576) l.included.items;
  same_files : g.S.Shelf.files l.shelf ≡ g.S.Shelf.files l.fn.shelf;
  faults : g.S.Shelf.faults l.shelf ≡ g.S.Shelf.faults l.fn.shelf;
  misses : g.S.Shelf.misses l.shelf ≡ g.S.Shelf.misses l.fn.shelf;
  lacks : g.S.Shelf.lacks l.shelf ≡ g.S.Shelf.lacks l.fn.shelf;
  calls : g.S.Shelf.calls l.fn.shelf ≤ g.S.Shelf.calls l.shelf;
}
