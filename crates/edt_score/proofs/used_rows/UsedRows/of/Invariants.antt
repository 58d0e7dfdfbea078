use Rattle.std.proofs.Common.{take}
use Rattle.edt_score.specs.Inside.UsedRows.{AreRowsOf}
use Rattle.edt_score.proofs.used_rows.UsedRows.of.Given as goal

abbrev pub invariant-loop-pick : goal.invariant-loop-pick
invariant-loop-pick l = AreRowsOf (take l.pick-index l.picks) l.rows.items l.places.items
