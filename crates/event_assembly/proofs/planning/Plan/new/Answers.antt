use Rattle.std.proofs.Common.{◌≡◌, ◌∙◌, ap, sym, length, map, arith}
use Rattle.std.proofs.lemmas.List.Elements.{All-map, All-same}
use Rattle.control_reader.specs.ControlValues.{values_of}
use Rattle.phase_reader.specs.declared.phases.Event.{Event}
use Rattle.phase_reader.specs.PhaseFile.{picks_of_events}
use Rattle.station_table.specs.Limits.{HoldsKeysOf}
use Rattle.event_assembly.specs.Inside.Deciding.{AreDecided}
use Rattle.event_assembly.specs.Inside.Numbering.{AreNumbered}
use Rattle.event_assembly.specs.Inside.Planning.{places_of_headers}
use Rattle.event_assembly.specs.AssemblyValues.{event_value}
use Rattle.event_assembly.specs.Inside.Problems.{event_by}
use Rattle.event_assembly.specs.Inside.Reads.{IsRowKey}
use Rattle.event_assembly.proofs.PlanLaws.{AreMarks, places_near, places_one_each, keys_below, marked_is, prepared_is, prepared_by, rows_have_headers, lacks_by, prepared_one_each}
use Rattle.event_assembly.specs.Inside.Numbering.{marked_keys}
use Rattle.event_assembly.proofs.planning.Plan.new.Goals as goal

pub decide-requires-clause-one_each : goal.decide-requires-clause-one_each
decide-requires-clause-one_each c =
    sym (places_one_each c.deref.result.now c.args.headers.now (c.deref.ensures.value ∙ c.in_ok-places.ensures) ∙ c.requires.one_each)

pub decide-requires-clause-near : goal.decide-requires-clause-near
decide-requires-clause-near c =
    places_near c.deref.result.now c.args.headers.now (c.deref.ensures.value ∙ c.in_ok-places.ensures) c.requires.valid

pub mark_keys-requires : goal.mark_keys-requires
mark_keys-requires c = rw c.deref-2.ensures.value c.in_ok-decided.ensures.limits

pub prepare-requires : goal.prepare-requires
prepare-requires c =
    let rows = c.deref-4.ensures.value in
    let marks = c.deref-3.ensures.value in
    let numbered = c.in_ok-rows.ensures in
    let long : length c.args.keys.now ≡ length c.deref-4.result.now =
    sym c.in_ok-marks.ensures.long ∙ ap length (sym marks) ∙ sym numbered.long ∙ ap length (sym rows) in
    keys_below (length c.args.keys.now) (length c.deref-4.result.now) c.in_ok-decided.decided.items c.in_ok-decided.ensures.limits long

pub returns : goal.returns
returns c =
    let control = values_of c.args.control.now in
    let keys = c.args.keys.now in
    let headers = c.args.headers.now in
    let events = picks_of_events c.args.events.now in
    let decided = c.in_ok-decided.decided.items in
    let marks = c.in_ok-marks.marks.items in
    let rows = c.in_ok-rows.rows in
    let prepared = c.in_ok-events.events.items in
    let places = c.deref.ensures.value ∙ c.in_ok-places.ensures in
    let settled : AreDecided (values_of c.args.control.now) c.args.keys.now (places_of_headers c.args.headers.now) (picks_of_events c.args.events.now) c.in_ok-decided.decided.items =
    rw places at c.in_ok-decided.ensures in
    let long = c.in_ok-marks.ensures.long in
    let marked : AreMarks (values_of c.args.control.now) c.in_ok-decided.decided.items c.in_ok-marks.marks.items = rw c.deref-2.ensures.value at c.in_ok-marks.ensures.marks in
    let numbered : AreNumbered c.in_ok-marks.marks.items c.in_ok-rows.rows = rw c.deref-3.ensures.value at c.in_ok-rows.ensures in
    let by : map event_value c.in_ok-events.events.items ≡ map (event_by (values_of c.args.control.now) c.in_ok-rows.rows.row_of_key.items) c.in_ok-decided.decided.items =
    rw c.deref-4.ensures.value at c.in_ok-events.ensures in
    let ready = prepared_is control keys (places_of_headers headers) events decided settled marks long marked rows numbered prepared by in
    let few = numbered.few in
    let most = c.requires.few in
    let held = All-map (HoldsKeysOf (values_of c.args.control.now) c.args.keys.now) (λ (event : Event). event.picks.items) c.args.events.now c.requires.holds in
    record {
      rows = numbered.keys ∙ marked_is control keys (places_of_headers headers) events decided settled marks long marked;
      events = ready;
      few = omega arith;
      ready = All-same (IsRowKey keys headers) rows.keys.items (marked_keys marks (length marks)) numbered.keys
          (rows_have_headers control keys headers events decided settled marks long marked c.requires.valid);
      prepared = λ field one_each. prepared_by control keys (places_of_headers headers) events decided settled marks long marked rows numbered prepared by field one_each;
      lacks = lacks_by control keys headers rows.keys.items events prepared (sym c.requires.one_each) held ready;
      one_each = prepared_one_each control keys headers rows.keys.items events prepared (sym c.requires.one_each) held ready;
    }
