use Rattle.std.proofs.Common.{◌≡◌, ◌+◌, ◌*◌, ◌≤◌, drop}
use Rattle.edt_score.specs.Inside.Ends.{row_total}
use Rattle.edt_score.proofs.totals.row_total.Given as goal

abbrev pub invariant-loop-i : goal.invariant-loop-i
invariant-loop-i g l =
    let shape = g.V.Values.shape l.values in
    record {
      total : l.sum + row_total shape l.first (drop l.i l.others) (drop l.i l.pairs) ≡ row_total shape l.first l.others l.pairs;
      bound : l.sum ≤ l.i * 274877906944000;
    }
