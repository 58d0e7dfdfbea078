use Rattle.std.proofs.Common.{◌≡◌, ℕ, ◌+◌, ◌*◌, ◌<◌, ◌≤◌, length, map, slice_index}
use Rattle.edt_score.specs.Inside.Ends.{table_total}
use Rattle.edt_score.specs.Inside.Lanes.{lane}
use Rattle.edt_score.specs.Inside.Pairs.{pair_count}
use Rattle.edt_score.proofs.lanes.table_totals.Given as goal

abbrev pub invariant-loop-first : goal.invariant-loop-first
invariant-loop-first g l =
    let shape = g.V.Values.shape l.values in
    record {
      few : length l.rest ≤ 256;
      lengths : length l.left ≡ pair_count (length l.rest);
      total : (k : ℕ) → k < 8 → slice_index l.sums k + table_total shape (map (lane k) l.rest) l.left ≡ table_total shape (map (lane k) l.ends) l.pairs;
      bound : (k : ℕ) → k < 8 → slice_index l.sums k + length l.left * 274877906944000 ≤ length l.pairs * 274877906944000;
    }

abbrev pub decreases-loop-first : goal.decreases-loop-first
decreases-loop-first g l = length l.rest
