use Rattle.std.proofs.Common.{◌≡◌, ℕ, ◌-◌, ◌<◌, ◌≤◌, length, slice_index}
use Rattle.time_grid.specs.Inside.Cursors.{IsAhead, IsCursor, IsTaken}
use Rattle.time_grid.specs.Inside.Selections.{selected_node}
use Rattle.time_grid.proofs.cursors.Cursor.take.Given as goal

abbrev pub invariant-loop-self : goal.invariant-loop-self
invariant-loop-self l = record {
  cursor : (nodes : ℕ) → IsCursor nodes l.initial.self → IsCursor nodes l.self;
  selection : l.self.selection ≡ l.initial.self.selection;
  ahead : IsAhead l.first l.self;
  on : l.initial.self.done ≤ l.self.done;
  kept : (k : ℕ) → k < l.initial.self.done → slice_index l.into k ≡ slice_index l.initial.into k;
  taken : (k : ℕ) → l.initial.self.done ≤ k → k < l.self.done
      → IsTaken l.order l.first l.piece (selected_node l.initial.self.selection k) (slice_index l.into k);
}

abbrev pub decreases-loop-self : goal.decreases-loop-self
decreases-loop-self l = length l.into - l.self.done
