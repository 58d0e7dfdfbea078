use Rattle.std.proofs.Common.{◌≡◌, ◌<◌, length, get_or, sym, subst, ap, ◌∙◌, arith}
use Rattle.control_reader.specs.ControlValues.{values_of}
use Rattle.phase_reader.specs.declared.phases.Event.{Event}
use Rattle.station_table.specs.Limits.{HoldsKeysOf}
use Rattle.event_trials.proofs.used_picks.decided.Goals as goal

pub use_picks-requires-clause-keys : goal.use_picks-requires-clause-keys
use_picks-requires-clause-keys c =
    let control = values_of c.args.control.now in
    let keys = c.in_ok-keys.keys in
    let places = c.loop-key.places.items in
    let event = c.index.result.now in
    let events = c.deref.ensures.value in
    let some : 0 < length c.deref.result.now = omega (arith, ap length events, ap length c.in_ok-events.ensures.items) in
    let first : get_or c.deref.result.now 0 event ≡ event = ap (λ es. get_or es 0 event) events ∙ sym c.index.ensures in
    let holds = subst (λ (e : Event). HoldsKeysOf control keys.items e.picks.items) first (c.in_ok-keys.ensures.holds 0 event some) in
    let ends = c.loop-key.invariant.count in
    rw (c.deref-2.ensures.value, c.deref-3.ensures.value)
    (record {
      one_each = omega (arith, ends, ap length c.deref-key-items.ensures.value);
      few = omega (arith, c.len.ensures);
      differ = c.in_ok-keys.ensures.differ;
      holds = holds;
      near = c.loop-key.invariant.near;
    })
