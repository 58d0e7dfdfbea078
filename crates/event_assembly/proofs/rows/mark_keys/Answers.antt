use Rattle.event_assembly.specs.Inside.Deciding.{AreUsed}
use Rattle.event_assembly.proofs.ListLaws.{at_item}
use Rattle.event_assembly.proofs.rows.mark_keys.Goals as goal

pub mark_if_ready-requires : goal.mark_if_ready-requires
mark_if_ready-requires c =
    let used = at_item (AreUsed c.args.keys) c.args.decided.now c.loop-picks.picks-index c.picks-item.result c.loop-picks-test.true c.picks-item.is c.requires in
    rw (c.deref.ensures.value, c.deref_mut.ensures.value, c.loop-picks.invariant.long) used.limits
