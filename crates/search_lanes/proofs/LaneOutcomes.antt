-- Whether lanes are finished, and what they have found, as the code tells it.
use Rattle.std.proofs.Common.{◌≡◌, ℕ, ◌++◌, arith, Bool, true, false, List, [], ◌∷◌, length, map, refl, ap, sym, ◌∙◌, subst, Ok, Result}
use Rattle.std.specs.Prelude.{◌||◌, ◌&&◌, not, nat_lt, IfOk}
use Rattle.std.specs.List.{list_all}
use Rattle.node_boxes.specs.declared.node_box.NodeBox.{NodeBox}
use Rattle.node_boxes.specs.declared.node_box.BoxBound.{BoxBound}
use Rattle.node_boxes.specs.Grid.{GridSize}
use Rattle.node_boxes.specs.Boxes.{is_single}
use Rattle.edt_score.specs.Judging.{BoundsFall}
use Rattle.octree_search.specs.declared.arena.Met.{Met}
use Rattle.octree_search.specs.declared.found.Found.{Found}
use Rattle.octree_search.specs.declared.queue.Waiting.{Waiting}
use Rattle.octree_search.specs.Arena.{IsEnded, IsExplored}
use Rattle.octree_search.specs.Cover.{threshold_of}
use Rattle.octree_search.specs.Fewest.{IsCoverShortest}
use Rattle.octree_search.specs.Outcomes.{PassesBudget, event_threshold, found_of, found_value, outcome_of}
use Rattle.octree_search.proofs.Findings.{outcome_within, shortest_found}
use Rattle.search_lanes.specs.declared.lane_slots.Slot.{Slot}
use Rattle.search_lanes.specs.Lanes.{is_finished, is_free}
use Rattle.search_lanes.specs.LaneViews.{Fits, LanesView}
use Rattle.search_lanes.specs.Inside.Slots.{boxed, busy, greatest_bound, is_low, lane_of, state_of, view_of}
use Rattle.search_lanes.specs.Inside.Whole.{IsWhole}
use Rattle.search_lanes.proofs.LaneOver.{falls_same}
use Rattle.search_lanes.proofs.LaneEnds.{whole_budget, whole_explored}
use Rattle.search_lanes.proofs.LaneFits.{fits_judged, upper_seen, IsJudged}

not_not : (b : Bool) → not (not b) ≡ b
not_not true = refl
not_not false = refl

-- whether no open box is ready, as seen
lows_seen : (margin u v : ℕ) → u ≡ v → (boxes : List Waiting)
    → list_all (λ (b : BoxBound). not (not (is_single b.area || nat_lt b.bound (threshold_of margin u)))) (map boxed boxes)
    ≡ list_all (is_low margin v) boxes
lows_seen margin u v same [] = refl
lows_seen margin u v same (w ∷ boxes) =
    ap (λ b. b && list_all (λ (c : BoxBound). not (not (is_single c.area || nat_lt c.bound (threshold_of margin u)))) (map boxed boxes))
    (not_not (is_single w.area || nat_lt w.bound (threshold_of margin u)) ∙ ap (λ n. is_single w.area || nat_lt w.bound (threshold_of margin n)) same)
    ∙ ap (λ b. is_low margin v w && b) (lows_seen margin u v same boxes)

-- whether a run that isn't over is finished
finished_open : (margin upper : ℕ) (boxes : List Waiting) (slots : List Slot) (n : ℕ) → upper ≡ greatest_bound (boxes ++ busy slots)
    → is_finished margin (state_of boxes slots n false) ≡ (list_all is_free (map lane_of slots) && list_all (is_low margin upper) boxes)
finished_open margin upper boxes slots n upper_is =
    ap (λ b. list_all is_free (map lane_of slots) && b) (lows_seen margin _ upper (upper_seen boxes slots n false ∙ sym upper_is) boxes)

pub finished_is : (margin upper : ℕ) (boxes : List Waiting) (slots : List Slot) (n : ℕ) (over low : Bool) → upper ≡ greatest_bound (boxes ++ busy slots)
    → over ≡ false → true ≡ list_all is_free (map lane_of slots) → low ≡ list_all (is_low margin upper) boxes
    → low ≡ is_finished margin (state_of boxes slots n over)
finished_is margin upper boxes slots n over low upper_is over_is free low_is =
    low_is ∙ ap (λ b. b && list_all (is_low margin upper) boxes) free
    ∙ sym (ap (λ b. is_finished margin (state_of boxes slots n b)) over_is ∙ finished_open margin upper boxes slots n upper_is)

-- what holds of an answer
pub at_ok : {T E : Type 0} (P : T → Type 0) (r : Result T E) (x : T) → IfOk r P → r ≡ Ok x → P x
at_ok P r x all is = subst (λ q. IfOk q P) is all

module _ (g : GridSize) (roots : List NodeBox) (margin budget : ℕ) (met : List Met) (boxes : List Waiting) (slots : List Slot) (upper : ℕ) (over : Bool)
    (v : LanesView) (seen : view_of g roots margin budget boxes slots (length met) over ≡ v)
    (whole : IsWhole g roots margin budget met boxes slots upper over) (h : GridSize) (rs : List NodeBox) (bound : NodeBox → ℕ)
    (fits : Fits h rs bound v) (falls : BoundsFall h rs bound) where
  judged : IsJudged bound margin met (boxes ++ busy slots)
  judged = fits_judged g roots margin budget met boxes slots over whole.are whole.bag h rs bound (subst (Fits h rs bound) (sym seen) fits)

  pub falls_here : BoundsFall g roots bound
  falls_here =
      falls_same g h roots rs bound (fits.same_grid ∙ ap (λ (u : LanesView). u.grid) (sym seen))
      (fits.same_roots ∙ ap (λ (u : LanesView). u.roots) (sym seen)) falls

  -- the budget was passed
  pub found_budget : over ≡ true → PassesBudget ≡ outcome_of v.grid v.roots bound v.margin v.budget
  found_budget is = subst (λ (u : LanesView). PassesBudget ≡ outcome_of u.grid u.roots bound u.margin u.budget) seen
      (whole_budget g roots margin budget met boxes slots upper bound falls_here judged (subst (IsWhole g roots margin budget met boxes slots upper) is whole))

  -- the search has ended
  pub lanes_explored : over ≡ false → is_finished v.margin v.state ≡ true → IsExplored g roots bound margin met upper
  lanes_explored is finished =
      whole_explored g roots margin budget met boxes slots upper bound falls_here judged (subst (IsWhole g roots margin budget met boxes slots upper) is whole)
      (subst (λ b. is_finished margin (state_of boxes slots (length met) b) ≡ true) is
      (subst (λ (u : LanesView). is_finished u.margin u.state ≡ true) (sym seen) finished))

  pub lanes_ended : (count : ℕ) → count ≡ length roots → over ≡ false → is_finished v.margin v.state ≡ true → IsEnded g margin met count upper
  lanes_ended count count_is is finished = record {
    roots = roots;
    bound = bound;
    long = sym count_is;
    are = whole.are;
    falls = falls_here;
    explored = lanes_explored is finished;
  }

  -- and what is found is the outcome
  found_here : over ≡ false → is_finished v.margin v.state ≡ true → (f : Found) → found_value f ≡ found_of g roots bound margin
      → found_value f ≡ outcome_of g roots bound margin budget
  found_here is finished f found =
      let explored = lanes_explored is finished in
      found ∙ outcome_within g roots bound margin budget (omega (arith, explored.count, whole.bag.within))

  pub found_outcome : over ≡ false → is_finished v.margin v.state ≡ true → (f : Found) → found_value f ≡ found_of g roots bound margin
      → found_value f ≡ outcome_of v.grid v.roots bound v.margin v.budget
  found_outcome is finished f found =
      subst (λ (u : LanesView). found_value f ≡ outcome_of u.grid u.roots bound u.margin u.budget) seen (found_here is finished f found)

  pub found_shortest : over ≡ false → is_finished v.margin v.state ≡ true → (f : Found) → found_value f ≡ found_of g roots bound margin
      → IsCoverShortest v.roots bound (event_threshold v.grid bound v.margin) f
  found_shortest is finished f found =
      subst (λ (u : LanesView). IsCoverShortest u.roots bound (event_threshold u.grid bound u.margin) f) seen
      (shortest_found g roots bound margin budget whole.are f (found_here is finished f found))
