use Rattle.std.proofs.Common.{◌≡◌, ◌+◌, ◌-◌, ◌≤◌, vec_len, IfSome}
use Rattle.edt_outside.proofs.ReadLemmas.{Came}
use Rattle.edt_outside.proofs.reading.read_rest.Given as goal

abbrev pub invariant-loop-len : goal.invariant-loop-len
invariant-loop-len g l = record {
  filled : l.len ≤ vec_len l.all;
  bound : vec_len l.all ≤ l.limit + 1;
  same_files : g.S.Shelf.files l.shelf ≡ g.S.Shelf.files l.initial.shelf;
  told : IfSome (g.S.Shelf.left l.initial.shelf) (λ bytes. Came bytes l.len l.all.items (g.S.Shelf.left l.shelf));
  faults : g.S.Shelf.faults l.shelf ≡ g.S.Shelf.faults l.initial.shelf;
  misses : g.S.Shelf.misses l.shelf ≡ g.S.Shelf.misses l.initial.shelf;
  lacks : g.S.Shelf.lacks l.shelf ≡ g.S.Shelf.lacks l.initial.shelf;
  calls_stay : g.S.Shelf.calls l.initial.shelf ≤ g.S.Shelf.calls l.shelf;
  calls : g.S.Shelf.calls l.shelf ≤ g.S.Shelf.calls l.initial.shelf + l.len;
}

abbrev pub decreases-loop-len : goal.decreases-loop-len
decreases-loop-len g l = l.limit + 1 - l.len
