-- A search by a schedule, from its start to its end.
use Rattle.std.proofs.Common.{◌≡◌, ℕ, ℤ, zero, suc, ◌+◌, ◌*◌, ◌≤◌, ◌<◌, arith, Bool, true, false, List, [], ◌∷◌, ◌++◌, length, refl, ap, sym, ◌∙◌, subst, sum_by}
use Rattle.std.specs.Prelude.{nat_lt, Some, None}
use Rattle.std.proofs.lemmas.Bool.Decides.{nat_tests}
use Rattle.std.proofs.lemmas.List.{append-nil, append_assoc}
use Rattle.node_boxes.specs.declared.node_box.NodeBox.{NodeBox}
use Rattle.node_boxes.specs.Grid.{GridSize}
use Rattle.node_boxes.specs.Roots.{AreRoots}
use Rattle.edt_score.specs.Judging.{BoundsFall}
use Rattle.octree_search.specs.declared.found.Found.{Found}
use Rattle.octree_search.specs.declared.found.Found.TheVariants.{Located, NoFit, Budget, NearLimit}
use Rattle.octree_search.specs.Outcomes.{Asks, PassesBudget, event_met, found_value, outcome_of}
use Rattle.octree_search.proofs.Findings.{asks_all, outcome_past}
use Rattle.search_lanes.specs.declared.lane_events.LaneEvent.{LaneEvent}
use Rattle.search_lanes.specs.Lanes.{LaneState, is_finished, start, step}
use Rattle.search_lanes.specs.LaneViews.{LanesView}
use Rattle.search_lanes.specs.LaneRuns.{IsEndOf, IsFinishedRun, Run}
use Rattle.search_lanes.specs.Schedule.{live_from, next_event, schedule, schedule_from, seed_after, seed_state}
use Rattle.search_lanes.proofs.LaneRuns.{IsKept, start_kept}
use Rattle.search_lanes.proofs.NextEvents.{alive, alive_start, lanes_start, live_count}
use Rattle.search_lanes.proofs.Ranks.{rank, rank_start}
use Rattle.search_lanes.proofs.RunEnds.{end_of}
use Rattle.search_lanes.proofs.Schedules.{IsNext, next_is, schedule_end, schedule_more}

-- events that happened lead from the start to a state, and with those that the schedule still has are the whole schedule
pub record IsSearching (g : GridSize) (roots : List NodeBox) (bound : NodeBox → ℕ) (margin budget lanes : ℕ) (seed : ℤ)
    (events : List LaneEvent) (state : ℕ) (s : LaneState) : Type 0 where
  pub kept : IsKept g roots bound margin budget s
  pub some : 1 ≤ sum_by alive s.lanes
  pub lanes_are : length s.lanes ≡ lanes
  pub run : Run bound margin budget (start bound budget lanes roots) events s
  pub left : ℕ
  pub long : rank budget s ≤ left
  pub plan : events ++ schedule_from bound margin budget left state s ≡ schedule bound margin budget lanes seed roots

-- lanes that are finished by their own margin are so by that of the search
pub finished_seen : (v w : LanesView) → v ≡ w → is_finished v.margin v.state ≡ true → is_finished w.margin v.state ≡ true
finished_seen v w seen over = subst (λ (u : LanesView). is_finished u.margin v.state ≡ true) seen over

-- one more event of a run
pub run_more : (bound : NodeBox → ℕ) (margin budget : ℕ) (events : List LaneEvent) (s mid end : LaneState) (event : LaneEvent)
    → Run bound margin budget s events mid → step bound margin budget mid event ≡ Some end → Run bound margin budget s (events ++ event ∷ []) end
run_more bound margin budget [] s mid end event run is = (end, subst (λ t. step bound margin budget t event ≡ Some end) (sym run) is, refl)
run_more bound margin budget (first ∷ events) s mid end event (next, at, run) is =
    (next, at, run_more bound margin budget events next mid end event run is)

module _ (g : GridSize) (roots : List NodeBox) (bound : NodeBox → ℕ) (margin budget : ℕ) (are : AreRoots g roots)
    (falls : BoundsFall g roots bound) (lanes : ℕ) (seed : ℤ) where
  abbrev Searching : List LaneEvent → ℕ → LaneState → Type 0
  Searching events state s = IsSearching g roots bound margin budget lanes seed events state s

  -- at the start nothing has happened
  pub search_start : 1 ≤ lanes → Searching [] (seed_state seed) (start bound budget lanes roots)
  unfolding schedule
  search_start some = record {
    kept = start_kept g roots bound margin budget are falls lanes;
    some = omega (arith, some, alive_start bound budget lanes roots);
    lanes_are = lanes_start bound budget lanes roots;
    run = refl;
    left = budget + 3 * lanes;
    long = omega (arith, rank_start bound margin budget lanes roots);
    plan = refl;
  }

  -- the next event leads on
  pub record IsLater (events : List LaneEvent) (state : ℕ) (s mid : LaneState) : Type 0 where
    pub is : step bound margin budget s (next_event margin s state) ≡ Some mid
    pub less : rank budget mid < rank budget s
    pub search : Searching (events ++ next_event margin s state ∷ []) (seed_after s state) mid

  pub search_next : (events : List LaneEvent) (state : ℕ) (s : LaneState) → Searching events state s → is_finished margin s ≡ false
      → (mid : LaneState) × IsLater events state s mid
  search_next events state s search unfinished =
      go search.left search.long search.plan (next_is g roots bound margin budget are falls s state search.kept search.some unfinished)
    where
      event : LaneEvent
      event = next_event margin s state

      go : (left : ℕ) → rank budget s ≤ left → events ++ schedule_from bound margin budget left state s ≡ schedule bound margin budget lanes seed roots
          → (mid : LaneState) × IsNext g roots bound margin budget are falls s event mid → (mid : LaneState) × IsLater events state s mid
      go zero long plan (mid, next) = absurd (let less = next.less in omega (arith, less, long))
      go (suc left) long plan (mid, next) = (
        mid,
        record {
          is = next.is;
          less = next.less;
          search = record {
            kept = next.kept;
            some = next.some;
            lanes_are = next.lanes ∙ search.lanes_are;
            run = run_more bound margin budget events (start bound budget lanes roots) s mid event search.run next.is;
            left = left;
            long = let less = next.less in omega (arith, less, long);
            plan =
                append_assoc events (event ∷ []) (schedule_from bound margin budget left (seed_after s state) mid)
                ∙ ap (λ rest. events ++ rest) (sym (schedule_more bound margin budget left state s mid unfinished next.is))
                ∙ plan;
          };
        },
      )

  -- what is seen of lanes that search this
  abbrev pub seen_at : LaneState → LanesView
  seen_at s = record { state = s; grid = g; roots = roots; margin = margin; budget = budget }

  -- what the code begins with
  pub search_begun : (events : List LaneEvent) (state : ℕ) (v : LanesView) → 1 ≤ lanes → events ≡ [] → state ≡ seed_state seed
      → v ≡ seen_at (start bound budget lanes roots) → Searching events state v.state
  search_begun events state v some none at is =
      subst (λ (w : LanesView). Searching events state w.state) (sym is)
      (subst (λ es. Searching es state (start bound budget lanes roots)) (sym none)
      (subst (λ n. Searching [] n (start bound budget lanes roots)) (sym at) (search_start some)))

  -- what the code knows of the next event
  abbrev pub IsChosen : LanesView → ℕ → LaneEvent → Type 0
  IsChosen v state event = (is_finished v.margin v.state ≡ false) × (event ≡ next_event v.margin v.state state)

  -- what it does leads on
  pub record IsGone (events : List LaneEvent) (state : ℕ) (before after : LanesView) : Type 0 where
    pub less : rank budget after.state < rank budget before.state
    pub seen : after ≡ seen_at after.state
    pub search : Searching events state after.state

  -- the next event is possible
  pub chosen_next : (events : List LaneEvent) (state : ℕ) (event : LaneEvent) (v : LanesView) (judged : NodeBox → ℕ) → judged ≡ bound
      → v ≡ seen_at v.state → Searching events state v.state → IsChosen v state event
      → (mid : LaneState) × (step judged v.margin v.budget v.state event ≡ Some mid) × IsLater events state v.state mid
  chosen_next events state event v judged same seen search (unfinished, chosen) = (later.0, is, later.1)
    where
      margin_is : v.margin ≡ margin
      margin_is = ap (λ (w : LanesView). w.margin) seen

      budget_is : v.budget ≡ budget
      budget_is = ap (λ (w : LanesView). w.budget) seen

      later : (mid : LaneState) × IsLater events state v.state mid
      later = search_next events state v.state search (subst (λ m. is_finished m v.state ≡ false) margin_is unfinished)

      event_is : event ≡ next_event margin v.state state
      event_is = subst (λ m. event ≡ next_event m v.state state) margin_is chosen

      is : step judged v.margin v.budget v.state event ≡ Some later.0
      is =
          ap (λ (b : NodeBox → ℕ). step b v.margin v.budget v.state event) same
          ∙ ap (λ m. step bound m v.budget v.state event) margin_is
          ∙ ap (λ n. step bound margin n v.state event) budget_is
          ∙ ap (λ e. step bound margin budget v.state e) event_is
          ∙ later.1.is

  pub chosen_possible : (events : List LaneEvent) (state : ℕ) (event : LaneEvent) (v : LanesView) (judged : NodeBox → ℕ) → judged ≡ bound
      → v ≡ seen_at v.state → Searching events state v.state → IsChosen v state event → step judged v.margin v.budget v.state event ≡ None → ⊥
  chosen_possible events state event v judged same seen search chosen none =
      let next = chosen_next events state event v judged same seen search chosen in
      some_none (sym next.1 ∙ none)
    where
      some_none : {s : LaneState} → Some s ≡ None → ⊥
      some_none e = absurd cc

  pub chosen_gone : (events : List LaneEvent) (state now : ℕ) (event : LaneEvent) (v w : LanesView) (judged : NodeBox → ℕ) → judged ≡ bound
      → v ≡ seen_at v.state → Searching events state v.state → IsChosen v state event → now ≡ seed_after v.state state
      → (step judged v.margin v.budget v.state event ≡ Some w.state) × (w ≡ record v { state = w.state })
      → IsGone (events ++ event ∷ []) now v w
  chosen_gone events state now event v w judged same seen search chosen drawn (done, left) =
      let next = chosen_next events state event v judged same seen search chosen in
      let mid_is : next.0 ≡ w.state = some_is (sym next.1 ∙ done) in
      let margin_is : v.margin ≡ margin = ap (λ (u : LanesView). u.margin) seen in
      let event_is : event ≡ next_event margin v.state state = subst (λ m. event ≡ next_event m v.state state) margin_is chosen.1 in
      record {
        less = subst (λ s. rank budget s < rank budget v.state) mid_is next.2.less;
        seen = left ∙ ap (λ (u : LanesView). record u { state = w.state }) seen;
        search =
            subst (λ s. Searching (events ++ event ∷ []) now s) mid_is
            (subst (λ n. Searching (events ++ event ∷ []) n next.0) (sym drawn)
            (subst (λ e. Searching (events ++ e ∷ []) (seed_after v.state state) next.0) (sym event_is) next.2.search));
      }
    where
      some_is : {s t : LaneState} → Some s ≡ Some t → s ≡ t
      some_is e = cc

  -- there is a lane left, of at most 64, and the open boxes can be counted
  pub live_left : (events : List LaneEvent) (state : ℕ) (s : LaneState) → Searching events state s → 1 ≤ length (live_from 0 s.lanes)
  live_left events state s search = let some = search.some in omega (arith, some, live_count s.lanes 0)

  pub open_few : (events : List LaneEvent) (state : ℕ) (s : LaneState) → Searching events state s → length s.waiting ≤ budget
  open_few events state s search = let few = search.kept.few in let within = search.kept.within in omega (arith, few, within)

  -- at the end the whole schedule has happened, and it is a finished run
  pub search_whole : (events : List LaneEvent) (state : ℕ) (s : LaneState) → Searching events state s → is_finished margin s ≡ true
      → events ≡ schedule bound margin budget lanes seed roots
  search_whole events state s search finished =
      sym (append-nil events) ∙ ap (λ rest. events ++ rest) (sym (schedule_end bound margin budget search.left state s finished)) ∙ search.plan

  pub search_finished : (events : List LaneEvent) (state : ℕ) (s : LaneState) → Searching events state s → is_finished margin s ≡ true
      → IsFinishedRun bound margin budget lanes roots events
  search_finished events state s search finished = record { end = s; run = search.run; finished = finished }

  -- the judge was asked once for each box that was met
  pub search_asks : (events : List LaneEvent) (state : ℕ) (s : LaneState) (before after : ℕ) (found : Found) → Searching events state s
      → is_finished margin s ≡ true → after ≡ before + s.met → found_value found ≡ outcome_of g roots bound margin budget
      → Asks before after budget (event_met g roots bound margin) found
  search_asks events state s before after found search finished asked value = by_over s.over refl
    where
      end : IsEndOf g roots bound margin budget s
      end = end_of g roots bound margin budget are falls s search.kept finished

      passed : s.over ≡ true → budget < event_met g roots bound margin
      passed over = let is = sym end.over ∙ over in past is
        where
          past : nat_lt budget (event_met g roots bound margin) ≡ true → budget < event_met g roots bound margin
          past is = grind (arith, nat_tests)

      within : s.over ≡ false → event_met g roots bound margin ≤ budget
      within open' = let kept = search.kept.within in let met = end.met open' in omega (arith, kept, met)

      few : after ≤ before + budget
      few = let kept = search.kept.within in omega (arith, kept, asked)

      over_asks : (f : Found) → found_value f ≡ PassesBudget → Asks before after budget (event_met g roots bound margin) f
      over_asks (Located _) is = absurd cc
      over_asks (NoFit _ _) is = absurd cc
      over_asks Budget is = few
      over_asks NearLimit is = absurd cc

      by_over : (b : Bool) → s.over ≡ b → Asks before after budget (event_met g roots bound margin) found
      by_over true over = over_asks found (value ∙ sym (outcome_past g roots bound margin budget (passed over)))
      by_over false open' =
          asks_all before after budget (event_met g roots bound margin) (let met = end.met open' in omega (arith, asked, met)) (within open') found
