use Rattle.std.proofs.Common.{◌≡◌, ℕ, arith, sym, ap, ◌∙◌, subst}
use Rattle.std.specs.Int.{cast_signed, cast_unsigned, w64}
use Rattle.std.proofs.lemmas.Int.{to_z-of_z}
use Rattle.std.proofs.lemmas.Option.{MatchOption-at_some}
use Rattle.node_boxes.specs.declared.node_box.NodeBox.{NodeBox}
use Rattle.octree_search.specs.Outcomes.{found_value, outcome_of}
use Rattle.search_lanes.specs.LaneViews.{LanesView}
use Rattle.search_lanes.specs.Schedule.{schedule}
use Rattle.search_lanes.specs.Inside.Passing.{IsPassed}
use Rattle.search_lanes.proofs.LaneOver.{falls_same}
use Rattle.search_lanes.proofs.Passed.{passed_after, passed_none}
use Rattle.search_lanes.proofs.Seeds.{seed_read}
use Rattle.search_lanes.proofs.Searches.{IsSearching, search_begun, chosen_possible, chosen_gone, finished_seen, live_left, search_whole, search_asks}
use Rattle.search_lanes.proofs.searching.search_lanes.Goals as goal

pub loop-event-init : goal.loop-event-init
loop-event-init g c =
    let grid = c.args.grid.now in
    let roots = c.args.roots.now in
    let bound = g.J.Judge.bound_of c.args.judge.now in
    let falls = falls_same grid _ roots _ bound c.requires.grid c.requires.judge_roots (g.met.J.Judge.falls c.args.judge.now) in
    let begun = c.in_ok-shared.ensures in
    record {
      still = begun.still;
      same_grid = begun.same_grid;
      same_roots = begun.same_roots;
      same_bounds = begun.same_bounds;
      asked = begun.asked;
      fits = begun.fits;
      seen = begun.value ∙ sym (ap (λ (v : LanesView). record { state = v.state; grid = grid; roots = roots; margin = c.args.margin; budget = c.args.budget }) begun.value);
      search =
          subst (λ seed. IsSearching grid roots bound c.args.margin c.args.budget c.args.lanes seed c.new-events.result.items c.cast_unsigned-state.result c.in_ok-shared.shared.state)
          (sym (to_z-of_z w64 c.args.seed c.ranges.seed))
          (search_begun grid roots bound c.args.margin c.args.budget c.requires.roots falls c.args.lanes c.args.seed
          c.new-events.result.items c.cast_unsigned-state.result c.in_ok-shared.shared c.requires.some c.new-events.ensures.items
          (seed_read c.args.seed c.cast_unsigned-state.result c.ranges.seed c.cast_unsigned-state.ensures) begun.value);
      passed = passed_none c.in_ok-shared.shared.margin c.in_ok-shared.shared.state;
    }

pub next_event-requires-clause-some : goal.next_event-requires-clause-some
next_event-requires-clause-some g c =
    let grid = c.args.grid.now in
    let roots = c.args.roots.now in
    let bound = g.J.Judge.bound_of c.args.judge.now in
    let falls = falls_same grid _ roots _ bound c.requires.grid c.requires.judge_roots (g.met.J.Judge.falls c.args.judge.now) in
    live_left grid roots bound c.args.margin c.args.budget c.requires.roots falls c.args.lanes (cast_signed w64 (cast_unsigned w64 c.args.seed))
    c.loop-event.events.items c.loop-event.state c.loop-event.shared.state c.loop-event.invariant.search

pub unreachable-requires : goal.unreachable-requires
unreachable-requires g c =
    let grid = c.args.grid.now in
    let roots = c.args.roots.now in
    let bound = g.J.Judge.bound_of c.args.judge.now in
    let falls = falls_same grid _ roots _ bound c.requires.grid c.requires.judge_roots (g.met.J.Judge.falls c.args.judge.now) in
    let kept = c.loop-event.invariant in
    chosen_possible grid roots bound c.args.margin c.args.budget c.requires.roots falls c.args.lanes (cast_signed w64 (cast_unsigned w64 c.args.seed))
    c.loop-event.events.items c.loop-event.state c.in-Some.event c.loop-event.shared (g.J.Judge.bound_of c.loop-event.judge)
    kept.same_bounds kept.seen kept.search c.in-Some.ensures.event (rw c.in-Err-Impossible.field-0-is at c.in-Err-Impossible.ensures.done).0

pub loop-event-smaller : goal.loop-event-smaller
loop-event-smaller g c =
    let grid = c.args.grid.now in
    let roots = c.args.roots.now in
    let bound = g.J.Judge.bound_of c.args.judge.now in
    let falls = falls_same grid _ roots _ bound c.requires.grid c.requires.judge_roots (g.met.J.Judge.falls c.args.judge.now) in
    let kept = c.loop-event.invariant in
    (chosen_gone grid roots bound c.args.margin c.args.budget c.requires.roots falls c.args.lanes (cast_signed w64 (cast_unsigned w64 c.args.seed))
    c.loop-event.events.items c.loop-event.state c.next_event.new.state c.in-Some.event c.loop-event.shared c.step.new.self (g.J.Judge.bound_of c.loop-event.judge)
    kept.same_bounds kept.seen kept.search c.in-Some.ensures.event c.in-Some.ensures.drawn c.in-Ok.ensures.done).less

pub loop-event-preserved : goal.loop-event-preserved
loop-event-preserved g c =
    let grid = c.args.grid.now in
    let roots = c.args.roots.now in
    let bound = g.J.Judge.bound_of c.args.judge.now in
    let falls = falls_same grid _ roots _ bound c.requires.grid c.requires.judge_roots (g.met.J.Judge.falls c.args.judge.now) in
    let kept = c.loop-event.invariant in
    let done = c.in-Ok.ensures in
    let gone = chosen_gone grid roots bound c.args.margin c.args.budget c.requires.roots falls c.args.lanes (cast_signed w64 (cast_unsigned w64 c.args.seed))
    c.loop-event.events.items c.loop-event.state c.next_event.new.state c.in-Some.event c.loop-event.shared c.step.new.self (g.J.Judge.bound_of c.loop-event.judge)
    kept.same_bounds kept.seen kept.search c.in-Some.ensures.event c.in-Some.ensures.drawn done.done in
    record {
      still = done.still;
      same_grid = done.same_grid ∙ kept.same_grid;
      same_roots = done.same_roots ∙ kept.same_roots;
      same_bounds = done.same_bounds ∙ kept.same_bounds;
      asked = omega (arith, done.asked, kept.asked);
      fits = done.fits;
      seen = gone.seen;
      search = rw c.in_ok-push.ensures.items gone.search;
      passed =
          subst (λ (v : LanesView). IsPassed v.margin c.step.new.self.state c.still_passed-passed.result) (sym done.done.1)
          (passed_after c.loop-event.shared.margin (g.J.Judge.bound_of c.loop-event.judge) c.loop-event.shared.budget c.next_event.new.passed
          c.loop-event.shared.state c.step.new.self.state c.in-Some.event c.upper-upper.result c.upper.result c.still_passed-passed.result
          done.done.0 c.upper-upper.ensures c.upper.ensures c.still_passed-passed.ensures c.in-Some.ensures.passed);
    }

pub returns-clause-asked : goal.returns-clause-asked
returns-clause-asked g c =
    let grid = c.args.grid.now in
    let roots = c.args.roots.now in
    let bound = g.J.Judge.bound_of c.args.judge.now in
    let falls = falls_same grid _ roots _ bound c.requires.grid c.requires.judge_roots (g.met.J.Judge.falls c.args.judge.now) in
    let kept = c.loop-event.invariant in
    let finished = finished_seen c.loop-event.shared _ kept.seen c.in_default.ensures.event in
    let outcome = MatchOption-at_some _ _ c.in-Some-2.found c.in-Some-2.is c.in_ok-found.ensures.value in
    search_asks grid roots bound c.args.margin c.args.budget c.requires.roots falls c.args.lanes (cast_signed w64 (cast_unsigned w64 c.args.seed))
    c.loop-event.events.items c.loop-event.state c.loop-event.shared.state (g.J.Judge.count c.args.judge.now) (g.J.Judge.count c.loop-event.judge) c.in-Some-2.found
    kept.search finished kept.asked
    (subst (λ (v : LanesView). found_value c.in-Some-2.found ≡ outcome_of v.grid v.roots bound v.margin v.budget) kept.seen
    (subst (λ (b : NodeBox → ℕ). found_value c.in-Some-2.found ≡ outcome_of c.loop-event.shared.grid c.loop-event.shared.roots b c.loop-event.shared.margin c.loop-event.shared.budget)
    kept.same_bounds outcome.1))

pub returns-clause-events : goal.returns-clause-events
returns-clause-events g c =
    let grid = c.args.grid.now in
    let roots = c.args.roots.now in
    let bound = g.J.Judge.bound_of c.args.judge.now in
    let falls = falls_same grid _ roots _ bound c.requires.grid c.requires.judge_roots (g.met.J.Judge.falls c.args.judge.now) in
    let kept = c.loop-event.invariant in
    let finished = finished_seen c.loop-event.shared _ kept.seen c.in_default.ensures.event in
    subst (λ seed. c.loop-event.events.items ≡ schedule bound c.args.margin c.args.budget c.args.lanes seed roots) (to_z-of_z w64 c.args.seed c.ranges.seed)
    (search_whole grid roots bound c.args.margin c.args.budget c.requires.roots falls c.args.lanes (cast_signed w64 (cast_unsigned w64 c.args.seed))
    c.loop-event.events.items c.loop-event.state c.loop-event.shared.state kept.search finished)

pub returns-clause-finished : goal.returns-clause-finished
returns-clause-finished g c =
    let bound = g.J.Judge.bound_of c.args.judge.now in
    let kept = c.loop-event.invariant in
    let finished = finished_seen c.loop-event.shared _ kept.seen c.in_default.ensures.event in
    (record { end = c.loop-event.shared.state; run = kept.search.run; finished = finished }, kept.asked)
