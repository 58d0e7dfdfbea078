use Rattle.std.proofs.Common.{sym, subst}
use Rattle.phase_reader.specs.declared.phases.Event.{Event}
use Rattle.station_table.specs.Limits.{HoldsKeysOf}
use Rattle.event_trials.proofs.used_picks.decided_by.Goals as goal

pub use_picks-requires-clause-holds : goal.use_picks-requires-clause-holds
use_picks-requires-clause-holds c =
    let table = c.args.table.now in
    let held = c.requires.holds c.loop-event.event-index c.event-item.result c.loop-event-test.true in
    rw c.loop-event.invariant (subst (λ (event : Event). HoldsKeysOf table.control table.keys event.picks.items) (sym c.event-item.is) held)
