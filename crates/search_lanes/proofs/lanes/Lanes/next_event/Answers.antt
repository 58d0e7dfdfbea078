use Rattle.std.proofs.Common.{◌≡◌, ◌≤◌, length, true, false, ap, subst, sym}
use Rattle.std.specs.Prelude.{MatchOption}
use Rattle.search_lanes.specs.LaneViews.{LanesView}
use Rattle.search_lanes.specs.Lanes.{is_finished}
use Rattle.search_lanes.specs.Schedule.{first_ready, live_from, next_event}
use Rattle.search_lanes.specs.Inside.Passing.{IsPassed}
use Rattle.search_lanes.specs.Inside.Slots.{state_of}
use Rattle.search_lanes.proofs.NextChoices.{choice_is_next, first_found, passed_found}
use Rattle.search_lanes.proofs.lanes.Lanes.next_event.Goals as goal

pub returns-clause-event : goal.returns-clause-event
returns-clause-event c =
    let kept = c.self.inside in
    let first : c.first_ready-ready.result ≡ first_ready kept.margin (state_of kept.waiting.items kept.slots.items (length kept.met.items) kept.over) =
    first_found kept.margin kept.waiting.items kept.slots.items (length kept.met.items) kept.over kept.upper c.threshold-least.result
    c.first_ready-ready.result c.args.passed.now c.deref.result.now c.deref.ensures.value c.self.invariant.upper_is c.threshold-least.ensures
    c.first_ready-ready.ensures
    (subst (λ (v : LanesView). IsPassed v.margin v.state c.args.passed.now) (sym c.self.view_is) c.requires.passed) in
    subst (λ (v : LanesView). MatchOption c.next_choice.result (is_finished v.margin v.state ≡ true)
    (λ event. (is_finished v.margin v.state ≡ false) × (event ≡ next_event v.margin v.state c.args.state.now))) c.self.view_is
    (choice_is_next kept.margin kept.waiting.items kept.slots.items (length kept.met.items) kept.over
    c.first_ready-ready.result c.args.state.now c.next_choice.result c.deref-3.result.now c.deref-3.ensures.value c.if-self.false first
    (subst (λ (v : LanesView). 1 ≤ length (live_from 0 v.state.lanes)) (sym c.self.view_is) c.requires.some)
    c.next_choice.ensures.none c.next_choice.ensures.some)

pub returns-clause-passed : goal.returns-clause-passed
returns-clause-passed c =
    let kept = c.self.inside in
    let first : c.first_ready-ready.result ≡ first_ready kept.margin (state_of kept.waiting.items kept.slots.items (length kept.met.items) kept.over) =
    first_found kept.margin kept.waiting.items kept.slots.items (length kept.met.items) kept.over kept.upper c.threshold-least.result
    c.first_ready-ready.result c.args.passed.now c.deref.result.now c.deref.ensures.value c.self.invariant.upper_is c.threshold-least.ensures
    c.first_ready-ready.ensures
    (subst (λ (v : LanesView). IsPassed v.margin v.state c.args.passed.now) (sym c.self.view_is) c.requires.passed) in
    subst (λ (v : LanesView). IsPassed v.margin v.state c.count_before.result) c.self.view_is
    (passed_found kept.margin kept.waiting.items kept.slots.items (length kept.met.items) kept.over c.first_ready-ready.result
    c.count_before.result (length c.deref-2.result.now) first (ap length c.deref-2.ensures.value) c.count_before.ensures)
