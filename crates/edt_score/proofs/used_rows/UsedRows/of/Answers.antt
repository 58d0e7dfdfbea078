use Rattle.std.proofs.Common.{rules, ◌<◌, length}
use Rattle.std.proofs.lemmas.List.{take_more}
use Rattle.edt_score.specs.Inside.Families.{no_pick}
use Rattle.edt_score.proofs.RowsInUse.{rows_more}
use Rattle.edt_score.proofs.used_rows.UsedRows.of.Goals as goal

pub loop-pick-preserved : goal.loop-pick-preserved
loop-pick-preserved c =
    let within : c.loop-pick.pick-index < length c.args.picks.now = search rules in
    rw (take_more c.args.picks.now c.loop-pick.pick-index no_pick within, c.in_ok-push.ensures.items)
    (rows_more _ _ _ _ _ _ c.loop-pick.invariant (c.in_ok-place.ensures))
