use Rattle.std.proofs.Common.{◌≡◌, ℕ, ◌+◌, ◌-◌, ◌*◌, ◌<◌, ◌≤◌, length, slice_index, IfSome, None}
use Rattle.time_grid.specs.Inside.Cursors.{IsAhead, IsCursor}
use Rattle.time_grid.specs.Numbers.{IsTime}
use Rattle.time_grid.proofs.BodyLaws.{Came}
use Rattle.time_grid.proofs.body.read_open.Given as goal

abbrev pub invariant-loop-passed : goal.invariant-loop-passed
invariant-loop-passed g l = record {
  held : l.held < 4;
  few : 4 * l.passed + l.held ≤ 4 * l.nodes + length l.buffer;
  cursor : IsCursor l.nodes l.cursor;
  selection : l.cursor.selection ≡ l.fn.selection;
  ahead : IsAhead l.passed l.cursor;
  over : IfSome l.over (λ k. k < l.passed);
  limit : l.over ≡ None → (k : ℕ) → k < l.cursor.done → IsTime (slice_index l.into k);
  told : IfSome (g.S.Shelf.left l.initial.shelf) (λ bytes.
      Came l.order bytes l.fn.selection l.passed l.held l.cursor.done l.buffer l.into l.over (g.S.Shelf.left l.shelf));
  same_files : g.S.Shelf.files l.shelf ≡ g.S.Shelf.files l.initial.shelf;
  faults : g.S.Shelf.faults l.shelf ≡ g.S.Shelf.faults l.initial.shelf;
  misses : g.S.Shelf.misses l.shelf ≡ g.S.Shelf.misses l.initial.shelf;
  lacks : g.S.Shelf.lacks l.shelf ≡ g.S.Shelf.lacks l.initial.shelf;
  calls_stay : g.S.Shelf.calls l.initial.shelf ≤ g.S.Shelf.calls l.shelf;
  calls : g.S.Shelf.calls l.shelf ≤ g.S.Shelf.calls l.initial.shelf + (4 * l.passed + l.held);
  calls_few : g.S.Shelf.calls l.shelf ≤ g.S.Shelf.calls l.initial.shelf + (4 * l.nodes + 1);
}

abbrev pub decreases-loop-passed : goal.decreases-loop-passed
decreases-loop-passed g l = 4 * l.nodes + 1 - (4 * l.passed + l.held)
