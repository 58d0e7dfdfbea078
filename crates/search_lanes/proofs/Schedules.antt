-- The schedule of a seed is a finished run.
use Rattle.std.proofs.Common.{◌≡◌, inl, inr, ℕ, ℤ, zero, suc, ◌+◌, ◌*◌, ◌≤◌, ◌<◌, arith, true, false, List, [], ◌∷◌, length, refl, ap, sym, ◌∙◌, subst, sum_by}
use Rattle.std.specs.Prelude.{Option, Some, None, unwrap_or}
use Rattle.std.specs.List.{AllByRecursion}
use Rattle.std.proofs.lemmas.Bool.{cond-false}
use Rattle.node_boxes.specs.declared.node_box.NodeBox.{NodeBox}
use Rattle.node_boxes.specs.Boxes.{is_single}
use Rattle.node_boxes.specs.Grid.{GridSize}
use Rattle.node_boxes.specs.Roots.{AreRoots}
use Rattle.node_boxes.proofs.ChildBoxes.{children_count}
use Rattle.edt_score.specs.Judging.{BoundsFall}
use Rattle.octree_search.proofs.Choices.{all-both, by_test, neither}
use Rattle.search_lanes.specs.declared.lane_events.LaneEvent.{LaneEvent}
use Rattle.search_lanes.specs.Lanes.{LaneState, held, is_finished, start, step, step_open}
use Rattle.search_lanes.specs.LaneRuns.{IsFinishedRun, Run}
use Rattle.search_lanes.specs.Schedule.{next_event, schedule, schedule_from, seed_after, seed_state}
use Rattle.search_lanes.proofs.BoxBags.{IsKnown, known_nonempty}
use Rattle.search_lanes.proofs.LaneRuns.{IsGoing, IsKept, IsOpening, all-last, start_kept, step_keeps}
use Rattle.search_lanes.proofs.NextEvents.{alive, alive_start, next_possible}
use Rattle.search_lanes.proofs.Ranks.{HasSeveral, rank, rank_start, step_less}

-- a schedule isn't longer than is asked for
pub schedule_few : (bound : NodeBox → ℕ) (margin budget left seed : ℕ) (s : LaneState) → length (schedule_from bound margin budget left seed s) ≤ left
unfolding schedule_from
schedule_few bound margin budget zero seed s = omega arith
schedule_few bound margin budget (suc left) seed s = elim (by_test (is_finished margin s)) [
  | inl finished ↦ rw finished (omega arith)
  | inr going ↦
      let event : LaneEvent = next_event margin s seed in
      let rest = schedule_few bound margin budget left (seed_after s seed) (unwrap_or (step bound margin budget s event) s) in
      rw going (omega (arith, rest))
]

-- a schedule ends where a run is finished
pub schedule_end : (bound : NodeBox → ℕ) (margin budget left seed : ℕ) (s : LaneState) → is_finished margin s ≡ true
    → schedule_from bound margin budget left seed s ≡ []
unfolding schedule_from
schedule_end bound margin budget zero seed s finished = refl
schedule_end bound margin budget (suc left) seed s finished = rw finished refl

-- and goes on with its next event where it isn't
pub schedule_more : (bound : NodeBox → ℕ) (margin budget left seed : ℕ) (s mid : LaneState) → is_finished margin s ≡ false
    → step bound margin budget s (next_event margin s seed) ≡ Some mid
    → schedule_from bound margin budget (suc left) seed s ≡ next_event margin s seed ∷ schedule_from bound margin budget left (seed_after s seed) mid
unfolding schedule_from
schedule_more bound margin budget left seed s mid going is =
    rw going (ap (λ (o : Option LaneState). next_event margin s seed ∷ schedule_from bound margin budget left (seed_after s seed) (unwrap_or o s)) is)

-- a run that isn't finished isn't over
pub going_open : (margin : ℕ) (s : LaneState) → is_finished margin s ≡ false → s.over ≡ false
going_open margin s going = (neither s.over _ going).0

module _ (g : GridSize) (roots : List NodeBox) (bound : NodeBox → ℕ) (margin budget : ℕ) (are : AreRoots g roots)
    (falls : BoundsFall g roots bound) where
  -- a box that a lane holds has several children
  pub held_several : (s : LaneState) → IsGoing g roots bound margin s → AllByRecursion HasSeveral (held s.lanes)
  held_several s going =
      all-both (IsKnown roots bound) (IsOpening g bound margin) HasSeveral
      (λ b known opens. (children_count b.area (record {
        nonempty = known_nonempty g roots bound margin are b known;
        several = (neither (is_single b.area) _ opens).0;
      })).0)
      (held s.lanes) (all-last (IsKnown roots bound) s.waiting (held s.lanes) going.bag.known) going.opens

  -- the next event of a schedule leads to a state, with a lesser rank, of which the same is known and where a lane is left
  pub record IsNext (s : LaneState) (event : LaneEvent) (mid : LaneState) : Type 0 where
    pub is : step bound margin budget s event ≡ Some mid
    pub kept : IsKept g roots bound margin budget mid
    pub some : 1 ≤ sum_by alive mid.lanes
    pub less : rank budget mid < rank budget s
    pub lanes : length mid.lanes ≡ length s.lanes

  pub next_is : (s : LaneState) (seed : ℕ) → IsKept g roots bound margin budget s → 1 ≤ sum_by alive s.lanes
      → is_finished margin s ≡ false → (mid : LaneState) × IsNext s (next_event margin s seed) mid
  next_is s seed kept some unfinished = from_possible (next_possible bound margin budget s seed some open' unfinished)
    where
      open' : s.over ≡ false
      open' = going_open margin s unfinished

      going : IsGoing g roots bound margin s
      going = kept.going open'

      event : LaneEvent
      event = next_event margin s seed

      from_possible : (mid : LaneState) × (step_open bound margin budget s event ≡ Some mid) × (1 ≤ sum_by alive mid.lanes) × (length mid.lanes ≡ length s.lanes)
          → (mid : LaneState) × IsNext s event mid
      from_possible (mid, is, left, same) =
          let next : step bound margin budget s event ≡ Some mid =
          cond-false s.over None (step_open bound margin budget s event) open' ∙ is in (
            mid,
            record {
              is = next;
              kept = step_keeps g roots bound margin budget are falls s mid event next kept;
              some = left;
              less = step_less bound margin budget s mid event is open' kept.within (held_several s going);
              lanes = same;
            },
          )

  -- the schedule from a state on is a run, and finished, where it may be as long as the rank
  pub scheduled : (left seed : ℕ) (s : LaneState) → IsKept g roots bound margin budget s → 1 ≤ sum_by alive s.lanes → rank budget s ≤ left
      → (end : LaneState) × Run bound margin budget s (schedule_from bound margin budget left seed s) end × (is_finished margin end ≡ true)
  scheduled zero seed s kept some long = elim (by_test (is_finished margin s)) [
    | inl finished ↦
        (s, subst (λ events. Run bound margin budget s events s) (sym (schedule_end bound margin budget zero seed s finished)) refl, finished)
    | inr unfinished ↦
        let next = next_is s seed kept some unfinished in
        let less = next.1.less in
        absurd (omega (arith, less, long))
  ]
  scheduled (suc left) seed s kept some long = elim (by_test (is_finished margin s)) [
    | inl finished ↦
        (s, subst (λ events. Run bound margin budget s events s) (sym (schedule_end bound margin budget (suc left) seed s finished)) refl, finished)
    | inr unfinished ↦
        let next = next_is s seed kept some unfinished in
        let less = next.1.less in
        let rest = scheduled left (seed_after s seed) next.0 next.1.kept next.1.some (omega (arith, less, long)) in (
          rest.0,
          subst (λ events. Run bound margin budget s events rest.0)
              (sym (schedule_more bound margin budget left seed s next.0 unfinished next.1.is)) (next.0, next.1.is, rest.1),
          rest.2,
        )
  ]

  -- the schedule of a seed is a finished run
  pub schedule_finished : (lanes : ℕ) (seed : ℤ) → 1 ≤ lanes → IsFinishedRun bound margin budget lanes roots (schedule bound margin budget lanes seed roots)
  unfolding schedule
  schedule_finished lanes seed some =
      let run = scheduled (budget + 3 * lanes) (seed_state seed) (start bound budget lanes roots)
      (start_kept g roots bound margin budget are falls lanes) (omega (arith, some, alive_start bound budget lanes roots))
      (omega (arith, rank_start bound margin budget lanes roots)) in
      record { end = run.0; run = run.1; finished = run.2 }

-- it has at most as many events as the budget and three for each lane
pub schedule_length : (bound : NodeBox → ℕ) (margin budget lanes : ℕ) (seed : ℤ) (roots : List NodeBox)
    → length (schedule bound margin budget lanes seed roots) ≤ budget + 3 * lanes
unfolding schedule
schedule_length bound margin budget lanes seed roots =
    schedule_few bound margin budget (budget + 3 * lanes) (seed_state seed) (start bound budget lanes roots)
