use Rattle.std.proofs.Common.{◌≡◌, ◌≤◌, ◌*◌, All, List, [], length, take, sym, subst, ap, ◌∙◌, arith}
use Rattle.std.specs.List.{flat_map}
use Rattle.std.proofs.lemmas.List.{take_all}
use Rattle.std.proofs.lemmas.Result.{IfOk-weaker}
use Rattle.control_reader.specs.ControlValues.{values_of}
use Rattle.indexmap.specs.IndexSet.{insert_all}
use Rattle.phase_reader.specs.PhaseFile.{picks_of_events}
use Rattle.phase_reader.specs.declared.phases.Event.{Event}
use Rattle.station_table.specs.Keys.{same_key, keys_of, wanted_keys}
use Rattle.station_table.specs.Limits.{HoldsKeysOf, KeysDiffer, IsKey}
use Rattle.station_table.proofs.CountLaws.{wanted_few}
use Rattle.station_table.proofs.NameLaws.{wanted_named}
use Rattle.station_table.proofs.SeenLaws.{wanted_is, wanted_differ, wanted_held}
use Rattle.station_table.proofs.wanting.wanted.Goals as goal

pub returns-clause-value : goal.returns-clause-value
returns-clause-value c =
    let control = values_of c.args.control.now in
    let events = c.args.events.now in
    let all : take c.loop-event.event-index events ≡ events = take_all c.loop-event.event-index events (omega arith) in
    let index : c.loop-event.index ≡ wanted_keys control (picks_of_events events) =
    wanted_is control (picks_of_events events) c.loop-event.index
    (c.loop-event.invariant ∙ ap (λ (es : List Event). insert_all same_key [] (keys_of control (flat_map (λ picks. picks) (picks_of_events es)))) all) in
    IfOk-weaker c.to_keys.result _ _ (λ keys is. is ∙ index) c.to_keys.ensures

pub returns-clause-holds : goal.returns-clause-holds
returns-clause-holds c =
    let control = values_of c.args.control.now in
    let events = c.args.events.now in
    let all : take c.loop-event.event-index events ≡ events = take_all c.loop-event.event-index events (omega arith) in
    let index : c.loop-event.index ≡ wanted_keys control (picks_of_events events) =
    wanted_is control (picks_of_events events) c.loop-event.index
    (c.loop-event.invariant ∙ ap (λ (es : List Event). insert_all same_key [] (keys_of control (flat_map (λ picks. picks) (picks_of_events es)))) all) in
    IfOk-weaker c.to_keys.result _ _
    (λ keys is. subst (λ ks. All (λ (event : Event). HoldsKeysOf control ks event.picks.items) events) (sym (is ∙ index)) (wanted_held control events)) c.to_keys.ensures

pub returns-clause-differ : goal.returns-clause-differ
returns-clause-differ c =
    let control = values_of c.args.control.now in
    let events = c.args.events.now in
    let all : take c.loop-event.event-index events ≡ events = take_all c.loop-event.event-index events (omega arith) in
    let index : c.loop-event.index ≡ wanted_keys control (picks_of_events events) =
    wanted_is control (picks_of_events events) c.loop-event.index
    (c.loop-event.invariant ∙ ap (λ (es : List Event). insert_all same_key [] (keys_of control (flat_map (λ picks. picks) (picks_of_events es)))) all) in
    IfOk-weaker c.to_keys.result _ _ (λ keys is. subst KeysDiffer (sym (is ∙ index)) (wanted_differ control (picks_of_events events))) c.to_keys.ensures

pub returns-clause-limits : goal.returns-clause-limits
returns-clause-limits c =
    let control = values_of c.args.control.now in
    let events = c.args.events.now in
    let all : take c.loop-event.event-index events ≡ events = take_all c.loop-event.event-index events (omega arith) in
    let index : c.loop-event.index ≡ wanted_keys control (picks_of_events events) =
    wanted_is control (picks_of_events events) c.loop-event.index
    (c.loop-event.invariant ∙ ap (λ (es : List Event). insert_all same_key [] (keys_of control (flat_map (λ picks. picks) (picks_of_events es)))) all) in
    IfOk-weaker c.to_keys.result _ _
    (λ keys is. subst (All IsKey) (sym (is ∙ index)) (wanted_named c.args.control.now c.requires.control events c.requires.events)) c.to_keys.ensures

pub returns-clause-count : goal.returns-clause-count
returns-clause-count c =
    let control = values_of c.args.control.now in
    let events = c.args.events.now in
    let all : take c.loop-event.event-index events ≡ events = take_all c.loop-event.event-index events (omega arith) in
    let index : c.loop-event.index ≡ wanted_keys control (picks_of_events events) =
    wanted_is control (picks_of_events events) c.loop-event.index
    (c.loop-event.invariant ∙ ap (λ (es : List Event). insert_all same_key [] (keys_of control (flat_map (λ picks. picks) (picks_of_events es)))) all) in
    IfOk-weaker c.to_keys.result _ _
    (λ keys is. subst (λ ks. length ks ≤ 4096 * length events) (sym (is ∙ index)) (wanted_few control events c.requires.events)) c.to_keys.ensures
