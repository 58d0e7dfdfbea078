use Rattle.std.proofs.Common.{◌≡◌, ℕ, ◌+◌, ◌*◌, ◌<◌, ◌≤◌, drop, map, slice_index}
use Rattle.edt_score.specs.Inside.Ends.{row_total}
use Rattle.edt_score.specs.Inside.Lanes.{lane}
use Rattle.edt_score.proofs.lanes.add_row.Given as goal

abbrev pub invariant-loop-i : goal.invariant-loop-i
invariant-loop-i g l =
    let shape = g.V.Values.shape l.values in
    record {
      total : (k : ℕ) → k < 8 → slice_index l.sums k + row_total shape (lane k l.first) (map (lane k) (drop l.i l.others)) (drop l.i l.pairs)
          ≡ slice_index l.fn.sums k + row_total shape (lane k l.first) (map (lane k) l.others) l.pairs;
      bound : (k : ℕ) → k < 8 → slice_index l.sums k ≤ slice_index l.fn.sums k + l.i * 274877906944000;
    }
