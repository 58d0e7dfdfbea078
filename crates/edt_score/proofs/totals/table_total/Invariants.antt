use Rattle.std.proofs.Common.{◌≡◌, ◌+◌, ◌*◌, ◌≤◌, length}
use Rattle.edt_score.specs.Inside.Ends.{table_total}
use Rattle.edt_score.specs.Inside.Pairs.{pair_count}
use Rattle.edt_score.proofs.totals.table_total.Given as goal

abbrev pub invariant-loop-first : goal.invariant-loop-first
invariant-loop-first g l =
    let shape = g.V.Values.shape l.values in
    record {
      few : length l.rest ≤ 256;
      lengths : length l.left ≡ pair_count (length l.rest);
      total : l.sum + table_total shape l.rest l.left ≡ table_total shape l.ends l.pairs;
      bound : l.sum + length l.left * 274877906944000 ≤ length l.pairs * 274877906944000;
    }

abbrev pub decreases-loop-first : goal.decreases-loop-first
decreases-loop-first g l = length l.rest
