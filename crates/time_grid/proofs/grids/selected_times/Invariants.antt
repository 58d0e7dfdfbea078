use Rattle.std.proofs.Common.{◌≡◌, ℕ, ◌<◌, length, slice_index}
use Rattle.time_grid.specs.Inside.Cursors.{IsCursor}
use Rattle.time_grid.specs.Inside.Selections.{selected_node}
use Rattle.time_grid.proofs.grids.selected_times.Given as goal

abbrev pub invariant-loop : goal.invariant-loop
invariant-loop l = record {
  cursor : IsCursor (length l.times) l.cursor;
  selection : l.cursor.selection ≡ l.fn.selection;
  done : l.cursor.done ≡ l.counter;
  long : length l.taken.items ≡ l.counter;
  taken : (k : ℕ) → k < l.counter → slice_index l.taken.items k ≡ slice_index l.times (selected_node l.fn.selection k);
}
