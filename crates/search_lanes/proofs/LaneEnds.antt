-- What a finished run of lanes has found.
use Rattle.std.proofs.Common.{◌≡◌, inl, inr, ℕ, zero, suc, ◌+◌, ◌-◌, ◌≤◌, ◌<◌, arith, Bool, true, false, cond, List, [], ◌∷◌, ◌++◌, length, map, get_or, refl, ap, sym, ◌∙◌, subst, Contains, Option, Some, None}
use Rattle.std.specs.Prelude.{◌||◌, ◌&&◌, not, nat_lt, MatchOption}
use Rattle.std.specs.List.{list_all, AllByRecursion}
use Rattle.std.proofs.lemmas.Bool.{cases_lt}
use Rattle.std.proofs.lemmas.Bool.Decides.{nat_tests}
use Rattle.std.proofs.lemmas.List.{append-nil}
use Rattle.std.proofs.lemmas.List.Elements.{Contains-append_right}
use Rattle.node_boxes.specs.declared.node_box.NodeBox.{NodeBox}
use Rattle.node_boxes.specs.declared.node_box.BoxBound.{BoxBound}
use Rattle.node_boxes.specs.Grid.{GridSize, node_count}
use Rattle.node_boxes.specs.GridOrder.{IsInside, place_of}
use Rattle.node_boxes.specs.Boxes.{contains, is_single}
use Rattle.node_boxes.specs.Children.{children_of}
use Rattle.node_boxes.specs.Roots.{AreRoots, holders}
use Rattle.node_boxes.proofs.Lists.{all-weaker, sum_by-map}
use Rattle.node_boxes.proofs.OctreeBoxes.{in_nonempty, octree_inside}
use Rattle.node_boxes.proofs.Order.{place_of-inside}
use Rattle.edt_score.specs.Best.{best_score}
use Rattle.edt_score.specs.Judging.{BoundsFall, judged_score, node_box}
use Rattle.edt_score.proofs.BestNodes.{best_score-is, IsFirstBest-exists}
use Rattle.octree_search.specs.declared.arena.Met.{Met}
use Rattle.octree_search.specs.declared.queue.Waiting.{Waiting}
use Rattle.octree_search.specs.Arena.{areas_met, IsExplored, IsLinked}
use Rattle.octree_search.specs.Cover.{stops, threshold_of}
use Rattle.octree_search.specs.Near.{best_of}
use Rattle.octree_search.specs.Outcomes.{PassesBudget, event_met, event_threshold, outcome_of}
use Rattle.octree_search.proofs.Choices.{or_cases}
use Rattle.octree_search.proofs.Covers.{below_stop}
use Rattle.octree_search.proofs.Findings.{not_lt_test, outcome_past}
use Rattle.octree_search.proofs.Frontiers.{state_map}
use Rattle.octree_search.proofs.Goes.{past_roots, sum_zeros}
use Rattle.octree_search.proofs.Scores.{best_single, dominated, reach, unit_at, IsUnder}
use Rattle.octree_search.proofs.Thresholds.{threshold_le, threshold_up}
use Rattle.search_lanes.specs.declared.lane_slots.Slot.{Slot}
use Rattle.search_lanes.specs.declared.lane_slots.Slot.TheVariants.{Free, Busy, Dead}
use Rattle.search_lanes.specs.Lanes.{is_finished, is_free, is_ready}
use Rattle.search_lanes.specs.Inside.Bags.{entry_of, left_below, AllOpened, IsBagOf, IsPlaced}
use Rattle.search_lanes.specs.Inside.Slots.{boxed, busy, greatest_bound, is_low, lane_of, state_of}
use Rattle.search_lanes.specs.Inside.Whole.{ByBox, ByRoots, IsPast, IsWhole}
use Rattle.search_lanes.proofs.LaneFits.{upper_seen, IsJudged}
use Rattle.search_lanes.proofs.LaneOver.{all_under, greatest_under, past_budget, ready_box}
use Rattle.search_lanes.proofs.OpenedBoxes.{all_at, began}

best_none : (n : ℕ) (score : ℕ → ℕ) (u : ℕ) → n ≤ 0 → best_score n score ≤ u
unfolding best_score
best_none zero score u none = omega arith
best_none (suc n) score u none = absurd (omega arith)

-- no node scores more than u where every node lies in some box that has no node that does
pub best_within : (g : GridSize) (bound : NodeBox → ℕ) (u : ℕ) (areas : List NodeBox)
    → ((ix iy iz : ℕ) → IsInside g ix iy iz → 1 ≤ holders ix iy iz areas) → AllByRecursion (λ a. IsUnder bound a u) areas → best_of g bound ≤ u
best_within g bound u areas held all = elim (cases_lt 0 (node_count g)) [
  | inl some ↦
      let best = IsFirstBest-exists (node_count g) (judged_score g bound) some in
      let is = best_score-is (node_count g) (judged_score g bound) best.0 best.1 in
      let place = place_of g best.0 in
      let inside = place_of-inside g best.0 best.1.inside in
      let under : bound (node_box g best.0) ≤ u =
      reach place.0 place.1 place.2 (bound (unit_at place.0 place.1 place.2) ≤ u) areas (held place.0 place.1 place.2 inside)
      (all-weaker (λ c. IsUnder bound c u) (λ c. contains c place.0 place.1 place.2 ≡ true → bound (unit_at place.0 place.1 place.2) ≤ u)
      (λ c low at. low place.0 place.1 place.2 at) areas all) in
      omega (arith, is, under)
  | inr none ↦ best_none (node_count g) (judged_score g bound) u none
]

-- what two facts say of a box, by whether it was opened
both_states : (o : Option ℕ) (A B C D : Type 0) (P : ℕ → Type 0) → (A → C) → ((k : ℕ) → P k → B → D)
    → MatchOption o A P → MatchOption o (Unit {0}) (λ _. B) → MatchOption o C (λ _. D)
both_states None A B C D P f h a b = f a
both_states (Some k) A B C D P f h a b = h k a b

opens : (bound : NodeBox → ℕ) (t u : ℕ) (a : NodeBox) → t ≤ u → is_single a ≡ false → u ≤ bound a → stops bound t a ≡ false
opens bound t u a low several high =
    let far : nat_lt (bound a) t ≡ false = not_lt_test (bound a) t (omega (arith, low, high)) in rw (several, far) refl

module _ (g : GridSize) (roots : List NodeBox) (margin budget : ℕ) (met : List Met) (boxes : List Waiting) (bound : NodeBox → ℕ)
    (are : AreRoots g roots) (falls : BoundsFall g roots bound) (bag : IsBagOf g roots budget met boxes) (some : 0 < length met)
    (judged : IsJudged bound margin met boxes) where
  -- the greatest bound of all open and held boxes
  abbrev upper : ℕ
  upper = greatest_bound boxes

  under_all : (ws : List Waiting) → ((w : Waiting) → Contains ws w → IsPlaced roots (areas_met met) w)
      → AllByRecursion (λ (w : Waiting). w.bound ≡ bound w.area) ws → AllByRecursion (λ (w : Waiting). w.bound ≤ upper) ws
      → AllByRecursion (λ a. IsUnder bound a upper) (map (λ (w : Waiting). w.area) ws)
  under_all [] placed bounds low = tt
  under_all (w ∷ ws) placed (is, bounds) (here, low) = (
    λ ix iy iz at.
        let under = dominated g roots bound are falls w.area (placed w (0, omega arith, refl)).tree ix iy iz at in
        omega (arith, under, is, here),
    under_all ws (λ v (k, below, there). placed v (suc k, omega (arith, below), there)) bounds low,
  )

  -- isn't below the best score
  pub best_covered : best_of g bound ≤ upper
  best_covered =
      best_within g bound upper (map (λ (w : Waiting). w.area) boxes)
      (λ ix iy iz inside.
      let once = bag.once ix iy iz inside some in
      let same = sum_by-map (λ (c : NodeBox). cond {A = ℕ} (contains c ix iy iz) 1 0) (λ (w : Waiting). w.area) boxes in
      omega (arith, once, same))
      (under_all boxes (λ w at. all_at (IsPlaced roots (areas_met met)) boxes w bag.arena.queued at) judged.bounds (all_under boxes upper (omega arith)))

  -- nor is its threshold below that of the event
  threshold_covered : event_threshold g bound margin ≤ threshold_of margin upper
  threshold_covered = threshold_up margin (best_of g bound) upper best_covered

  -- so the cover opens every box that was opened
  pub opened_open : AllOpened (λ a. stops bound (event_threshold g bound margin) a ≡ false) met
  opened_open i d below =
      let entry = bag.arena.entries i d below in
      let a : NodeBox = (get_or met i d).area in
      both_states (get_or met i d).first_child (Contains boxes (entry_of i (get_or met i d))) (threshold_of margin upper ≤ bound a)
      (Unit {0}) (stops bound (event_threshold g bound margin) a ≡ false)
      (λ k. (is_single a ≡ false) × (1 ≤ length (children_of a)) × IsLinked (areas_met met) a k)
      (λ _. tt)
      (λ k linked high. opens bound (event_threshold g bound margin) (threshold_of margin upper) a threshold_covered linked.0 high)
      entry.state (judged.opened i d below)

  -- more boxes are met than the budget allows where the children of a ready box are too many
  pub past_by_box : (w : Waiting) → Contains boxes w → is_low margin upper w ≡ false → budget < length met + length (children_of w.area)
      → budget < event_met g roots bound margin
  past_by_box w at ready past =
      let placed = all_at (IsPlaced roots (areas_met met)) boxes w bag.arena.queued at in
      let is : w.bound ≡ bound w.area = bound_at boxes w judged.bounds at in
      let parts = ready_box margin upper w ready in
      let high : threshold_of margin upper ≤ bound w.area = omega (arith, is, parts.reaches) in
      past_budget g roots budget met boxes bound (event_threshold g bound margin) w bag some opened_open at
      (in_nonempty g w.area (octree_inside g roots w.area are placed.tree))
      (opens bound (event_threshold g bound margin) (threshold_of margin upper) w.area threshold_covered parts.several high) past
    where
      bound_at : (ws : List Waiting) (w : Waiting) → AllByRecursion (λ (v : Waiting). v.bound ≡ bound v.area) ws → Contains ws w → w.bound ≡ bound w.area
      bound_at [] w all (k, below, there) = absurd (omega arith)
      bound_at (v ∷ ws) w (here, all) (zero, below, there) = subst (λ (u : Waiting). u.bound ≡ bound u.area) there here
      bound_at (v ∷ ws) w (here, all) (suc k, below, there) = bound_at ws w all (k, omega (arith, below), there)

  module _ (low : AllByRecursion (λ w. is_low margin upper w ≡ true) boxes) where
    -- where no box is ready, the greatest bound is the best score
    bound_less : (ws : List Waiting) → ((w : Waiting) → Contains ws w → IsPlaced roots (areas_met met) w)
        → AllByRecursion (λ (w : Waiting). w.bound ≡ bound w.area) ws → AllByRecursion (λ w. is_low margin upper w ≡ true) ws
        → best_of g bound < upper → AllByRecursion (λ (w : Waiting). w.bound ≤ upper - 1) ws
    bound_less [] placed bounds lows less = tt
    bound_less (w ∷ ws) placed (is, bounds) (here, lows) less = (
      elim (or_cases (is_single w.area) (nat_lt w.bound (threshold_of margin upper)) here) [
        | inl single ↦
            let score = best_single g bound w.area (octree_inside g roots w.area are (placed w (0, omega arith, refl)).tree) single in
            omega (arith, is, score, less)
        | inr under ↦
            let below : w.bound < threshold_of margin upper = grind (arith, nat_tests) in
            omega (arith, below, threshold_le margin upper, less)
      ],
      bound_less ws (λ v (k, below, there). placed v (suc k, omega (arith, below), there)) bounds lows less,
    )

    pub upper_best : upper ≡ best_of g bound
    upper_best = elim (cases_lt (best_of g bound) upper) [
      | inl less ↦
          let under = greatest_under (upper - 1) boxes
          (bound_less boxes (λ w at. all_at (IsPlaced roots (areas_met met)) boxes w bag.arena.queued at) judged.bounds low less) in
          absurd (omega (arith, under, less))
      | inr most ↦ omega (arith, most, best_covered)
    ]

    -- and every open box stops
    low_stops : (w : Waiting) → is_low margin upper w ≡ true → w.bound ≡ bound w.area → stops bound (event_threshold g bound margin) w.area ≡ true
    low_stops w here is =
        subst (λ u. (is_single w.area || nat_lt (bound w.area) (threshold_of margin u)) ≡ true) upper_best
        (subst (λ b. (is_single w.area || nat_lt b (threshold_of margin upper)) ≡ true) is here)

    none_left : (ws : List Waiting) → AllByRecursion (λ (w : Waiting). w.bound ≡ bound w.area) ws → AllByRecursion (λ w. is_low margin upper w ≡ true) ws
        → AllByRecursion (λ w. left_below bound (event_threshold g bound margin) w ≡ 0) ws
    none_left [] bounds lows = tt
    none_left (w ∷ ws) (is, bounds) (here, lows) =
        (below_stop bound (event_threshold g bound margin) w.area (low_stops w here is), none_left ws bounds lows)

    settled_by : (ws : List Waiting) → AllByRecursion (λ (w : Waiting). w.bound ≡ bound w.area) ws → AllByRecursion (λ w. is_low margin upper w ≡ true) ws
        → (v : Waiting) → Contains ws v → (v.bound ≡ bound v.area) × (stops bound (event_threshold g bound margin) v.area ≡ true)
    settled_by [] bounds lows v (k, below, there) = absurd (omega arith)
    settled_by (w ∷ ws) (is, bounds) (here, lows) v (zero, below, there) =
        subst (λ (u : Waiting). (u.bound ≡ bound u.area) × (stops bound (event_threshold g bound margin) u.area ≡ true)) there (is, low_stops w here is)
    settled_by (w ∷ ws) (is, bounds) (here, lows) v (suc k, below, there) = settled_by ws bounds lows v (k, omega (arith, below), there)

    -- the search has ended
    pub explored_from : IsExplored g roots bound margin met upper
    explored_from = record {
      best_is = upper_best;
      tree = λ i d below. let entry = bag.arena.entries i d below in record {
        area = in_nonempty g (get_or met i d).area (octree_inside g roots (get_or met i d).area are entry.tree);
        linked = state_map (get_or met i d).first_child _ _ _ _ (λ _. tt) (λ k linked. (linked.0, linked.2)) entry.state;
      };
      settled = λ i d below. let entry = bag.arena.entries i d below in
          both_states (get_or met i d).first_child (Contains boxes (entry_of i (get_or met i d)))
          (stops bound (event_threshold g bound margin) (get_or met i d).area ≡ false)
          (((get_or met i d).bound ≡ bound (get_or met i d).area) × (stops bound (event_threshold g bound margin) (get_or met i d).area ≡ true))
          (stops bound (event_threshold g bound margin) (get_or met i d).area ≡ false)
          (λ k. (is_single (get_or met i d).area ≡ false) × (1 ≤ length (children_of (get_or met i d).area)) × IsLinked (areas_met met) (get_or met i d).area k)
          (λ has. settled_by boxes judged.bounds low (entry_of i (get_or met i d)) has)
          (λ k linked open'. open')
          entry.state (opened_open i d below);
      count =
          let none = sum_zeros (left_below bound (event_threshold g bound margin)) boxes (none_left boxes judged.bounds low) in
          let all = bag.count bound (event_threshold g bound margin) some opened_open in
          omega (arith, none, all);
      first = bag.first some;
    }

-- lanes that have no box hold none
free_busy : (slots : List Slot) → list_all is_free (map lane_of slots) ≡ true → busy slots ≡ []
free_busy [] free = refl
free_busy (Free ∷ slots) free = free_busy slots free
free_busy (Busy w ∷ slots) free = absurd cc
free_busy (Dead ∷ slots) free = free_busy slots free

both_true : (a b : Bool) → (a && b) ≡ true → (a ≡ true) × (b ≡ true)
both_true true b e = (refl, e)
both_true false b e = absurd cc

twice_not : (b : Bool) → not (not b) ≡ true → b ≡ true
twice_not true e = refl
twice_not false e = absurd cc

all_low : (margin u v : ℕ) → u ≡ v → (boxes : List Waiting)
    → list_all (λ (b : BoxBound). not (not (is_single b.area || nat_lt b.bound (threshold_of margin u)))) (map boxed boxes) ≡ true
    → AllByRecursion (λ w. is_low margin v w ≡ true) boxes
all_low margin u v same [] all = tt
all_low margin u v same (w ∷ boxes) all =
    let parts = both_true (not (not (is_single w.area || nat_lt w.bound (threshold_of margin u)))) _ all in (
      subst (λ n. is_low margin n w ≡ true) same (twice_not (is_single w.area || nat_lt w.bound (threshold_of margin u)) parts.0),
      all_low margin u v same boxes parts.1,
    )

-- a run that isn't over is finished where no lane holds a box and no open box is ready
pub finished_low : (margin : ℕ) (boxes : List Waiting) (slots : List Slot) (n : ℕ) → is_finished margin (state_of boxes slots n false) ≡ true
    → AllByRecursion (λ w. is_low margin (greatest_bound (boxes ++ busy slots)) w ≡ true) (boxes ++ busy slots)
finished_low margin boxes slots n finished =
    let parts = both_true (list_all is_free (map lane_of slots)) (list_all (λ b. not (is_ready margin (state_of boxes slots n false) b)) (map boxed boxes)) finished in
    let none : boxes ++ busy slots ≡ boxes = ap (λ held. boxes ++ held) (free_busy slots parts.0) ∙ append-nil boxes in
    subst (AllByRecursion (λ w. is_low margin (greatest_bound (boxes ++ busy slots)) w ≡ true)) (sym none)
    (all_low margin _ (greatest_bound (boxes ++ busy slots)) (upper_seen boxes slots n false) boxes parts.1)

module _ (g : GridSize) (roots : List NodeBox) (margin budget : ℕ) (met : List Met) (boxes : List Waiting) (slots : List Slot) (upper : ℕ)
    (bound : NodeBox → ℕ) (falls : BoundsFall g roots bound) (judged : IsJudged bound margin met (boxes ++ busy slots)) where
  -- what a run that is finished and not over has found
  pub whole_explored : IsWhole g roots margin budget met boxes slots upper false → is_finished margin (state_of boxes slots (length met) false) ≡ true
      → IsExplored g roots bound margin met upper
  whole_explored whole finished =
      subst (IsExplored g roots bound margin met) (sym whole.upper_is)
      (explored_from g roots margin budget met (boxes ++ busy slots) bound whole.are falls whole.bag (whole.started refl) judged
      (finished_low margin boxes slots (length met) finished))

  -- and one that is over
  pub whole_past : IsWhole g roots margin budget met boxes slots upper true → budget < event_met g roots bound margin
  whole_past whole = by_past (whole.past refl)
    where
      by_past : IsPast budget roots met slots → budget < event_met g roots bound margin
      by_past (ByRoots past) = past_roots g roots bound margin budget past
      by_past (ByBox w at past) =
          let there : Contains (boxes ++ busy slots) w = Contains-append_right boxes (busy slots) w at in
          past_by_box g roots margin budget met (boxes ++ busy slots) bound whole.are falls whole.bag
          (began g roots budget met (boxes ++ busy slots) whole.are whole.bag w there) judged w there
          (subst (λ u. is_low margin u w ≡ false) whole.upper_is (all_at (λ v. is_low margin upper v ≡ false) (busy slots) w whole.ready at)) past

  pub whole_budget : IsWhole g roots margin budget met boxes slots upper true → PassesBudget ≡ outcome_of g roots bound margin budget
  whole_budget whole = outcome_past g roots bound margin budget (whole_past whole)
