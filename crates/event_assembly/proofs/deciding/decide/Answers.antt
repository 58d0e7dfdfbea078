use Rattle.std.proofs.Common.{◌∙◌}
use Rattle.control_reader.specs.ControlValues.{values_of}
use Rattle.phase_reader.specs.declared.phases.Event.{Event}
use Rattle.station_table.specs.Limits.{HoldsKeysOf}
use Rattle.event_assembly.proofs.DecideLaws.{AreDecided-more}
use Rattle.event_assembly.proofs.ListLaws.{at_item}
use Rattle.event_assembly.proofs.deciding.decide.Goals as goal

pub use_picks-requires-clause-holds : goal.use_picks-requires-clause-holds
use_picks-requires-clause-holds c =
    rw c.loop-event.invariant.table
    (at_item (λ (event : Event). HoldsKeysOf (values_of c.args.control.now) c.args.keys.now event.picks.items) c.args.events.now
    c.loop-event.event-index c.event-item.result c.loop-event-test.true c.event-item.is c.requires.holds)

pub loop-event-preserved : goal.loop-event-preserved
loop-event-preserved c =
    let table = c.loop-event.invariant.table in
    let picks = c.in_ok-picks.ensures in
    record {
      table = c.use_picks.ensures.same ∙ table;
      decided = rw c.in_ok-push.ensures.items
          (AreDecided-more (values_of c.args.control.now) c.args.keys.now c.args.places.now c.args.events.now c.loop-event.event-index c.event-item.result
          c.loop-event.decided.items c.in_ok-picks.picks c.loop-event-test.true c.event-item.is c.loop-event.invariant.decided
          (rw table at picks.value) picks.near (rw table at picks.limits));
    }
