-- What a finished run leads to.
use Rattle.std.proofs.Common.{◌≡◌, inl, inr, ℕ, ◌-◌, ◌≤◌, ◌<◌, arith, Bool, true, false, List, [], ◌∷◌, ◌++◌, refl, ap, sym, ◌∙◌, subst, sum_by}
use Rattle.std.specs.Prelude.{◌||◌, ◌&&◌, not, nat_lt}
use Rattle.std.specs.List.{AllByRecursion, list_all}
use Rattle.std.specs.List.Sorted.{IsPermutation}
use Rattle.std.proofs.lemmas.Bool.{and_parts, cases_lt}
use Rattle.std.proofs.lemmas.Bool.Decides.{nat_tests}
use Rattle.std.proofs.lemmas.List.{append-nil}
use Rattle.node_boxes.specs.declared.node_box.NodeBox.{NodeBox}
use Rattle.node_boxes.specs.declared.node_box.BoxBound.{BoxBound}
use Rattle.node_boxes.specs.Boxes.{is_single}
use Rattle.node_boxes.specs.Grid.{GridSize}
use Rattle.node_boxes.specs.Roots.{AreRoots}
use Rattle.node_boxes.proofs.Lists.{all-append, all-weaker}
use Rattle.node_boxes.proofs.OctreeBoxes.{octree_inside}
use Rattle.edt_score.specs.Judging.{BoundsFall}
use Rattle.octree_search.specs.Cover.{stops, threshold_of}
use Rattle.octree_search.specs.Near.{best_of}
use Rattle.octree_search.specs.Outcomes.{bounded, event_cover, event_met, event_threshold}
use Rattle.octree_search.proofs.Choices.{all-both, both_ways, by_test, or_cases, sum_by-same_terms}
use Rattle.octree_search.proofs.Covers.{below_stop, cover_stop}
use Rattle.octree_search.proofs.Goes.{sum_zeros}
use Rattle.octree_search.proofs.Scores.{best_single}
use Rattle.octree_search.proofs.Thresholds.{threshold_le}
use Rattle.search_lanes.specs.declared.lane_events.LaneEvent.{LaneEvent}
use Rattle.search_lanes.specs.Lanes.{Lane, Idle, Held, Gone, LaneState, boxes_of, held, is_finished, is_free, is_ready, start, upper_of}
use Rattle.search_lanes.specs.LaneRuns.{IsEndOf, Run}
use Rattle.search_lanes.proofs.SameElements.{same_boxes}
use Rattle.search_lanes.proofs.BoxBags.{IsBag, IsKnown, box_sum, left_of}
use Rattle.search_lanes.proofs.LaneRuns.{IsKept, bag_covers, greatest_bound, greatest_le, run_keeps, start_kept}

-- a choice holds of which the first part doesn't, so the second one does
pub or_rest : (a b : Bool) → (a || b) ≡ true → a ≡ false → b ≡ true
or_rest true b is not_first = absurd cc
or_rest false b is not_first = is

-- where no lane holds a box, there is none that is held
pub free_held : (lanes : List Lane) → list_all is_free lanes ≡ true → held lanes ≡ []
free_held [] all = refl
free_held (Idle ∷ lanes) all = free_held lanes all
free_held (Held b ∷ lanes) all = absurd cc
free_held (Gone ∷ lanes) all = free_held lanes all

-- a box at which a search may stop by a greatest bound: it is single, or its bound is below the threshold
abbrev pub IsLowest : ℕ → ℕ → BoxBound → Type 0
IsLowest margin u b = (is_single b.area || nat_lt b.bound (threshold_of margin u)) ≡ true

-- no open box is ready
pub none_ready : (margin : ℕ) (s : LaneState) (boxes : List BoxBound) → list_all (λ b. not (is_ready margin s b)) boxes ≡ true
    → AllByRecursion (IsLowest margin (upper_of s)) boxes
none_ready margin s [] all = tt
none_ready margin s (b ∷ boxes) all =
    let parts = and_parts (not (is_ready margin s b)) (list_all (λ c. not (is_ready margin s c)) boxes) all in
    (twice_not (is_single b.area || nat_lt b.bound (threshold_of margin (upper_of s))) parts.0, none_ready margin s boxes parts.1)
  where
    twice_not : (b : Bool) → not (not b) ≡ true → b ≡ true
    twice_not true is = refl
    twice_not false is = absurd cc

module _ (g : GridSize) (roots : List NodeBox) (bound : NodeBox → ℕ) (margin budget : ℕ) (are : AreRoots g roots)
    (falls : BoundsFall g roots bound) where
  -- where no box is ready, the greatest bound is the best score
  pub end_upper : (met : ℕ) (boxes : List BoxBound) → IsBag g roots bound margin met boxes
      → AllByRecursion (IsLowest margin (greatest_bound boxes)) boxes → greatest_bound boxes ≡ best_of g bound
  end_upper met boxes bag low = elim (cases_lt (best_of g bound) (greatest_bound boxes)) [
    | inl more ↦
        let u : ℕ = greatest_bound boxes in
        let less : greatest_bound boxes ≤ u - 1 =
        greatest_le boxes (u - 1) (all-both (IsKnown roots bound) (IsLowest margin u) (λ (b : BoxBound). b.bound ≤ u - 1)
        (λ b known lowest. lower u b more known lowest) boxes bag.known low) in
        absurd (omega (arith, more, less))
    | inr most ↦
        let covers : best_of g bound ≤ greatest_bound boxes = bag_covers g roots bound margin budget are falls met boxes bag in
        omega (arith, most, covers)
  ]
    where
      lower : (u : ℕ) (b : BoxBound) → best_of g bound < u → IsKnown roots bound b → IsLowest margin u b → b.bound ≤ u - 1
      lower u b more known lowest = elim (or_cases (is_single b.area) (nat_lt b.bound (threshold_of margin u)) lowest) [
        | inl single ↦
            let best = best_single g bound b.area (octree_inside g roots b.area are known.tree) single in
            omega (arith, best, known.bound_is, more)
        | inr under ↦
            let below' : b.bound < threshold_of margin u = grind (arith, nat_tests) in
            omega (arith, below', threshold_le margin u, more)
      ]

  -- then the rule of the cover stops at each box
  pub end_stops : (met : ℕ) (boxes : List BoxBound) → IsBag g roots bound margin met boxes
      → AllByRecursion (IsLowest margin (greatest_bound boxes)) boxes
      → AllByRecursion (λ (b : BoxBound). stops bound (event_threshold g bound margin) b.area ≡ true) boxes
  end_stops met boxes bag low =
      let upper = end_upper met boxes bag low in
      all-both (IsKnown roots bound) (IsLowest margin (greatest_bound boxes)) (λ (b : BoxBound). stops bound (event_threshold g bound margin) b.area ≡ true)
      (λ b known lowest.
      subst (λ n. (is_single b.area || nat_lt n (event_threshold g bound margin)) ≡ true) known.bound_is
      (subst (λ u. (is_single b.area || nat_lt b.bound (threshold_of margin u)) ≡ true) upper lowest))
      boxes bag.known low

  -- so there is nothing left to meet
  pub end_met : (met : ℕ) (boxes : List BoxBound) → IsBag g roots bound margin met boxes
      → AllByRecursion (λ (b : BoxBound). stops bound (event_threshold g bound margin) b.area ≡ true) boxes
      → met ≡ event_met g roots bound margin
  end_met met boxes bag stop =
      let none = sum_zeros (left_of bound (event_threshold g bound margin)) boxes
      (all-weaker (λ (b : BoxBound). stops bound (event_threshold g bound margin) b.area ≡ true)
      (λ b. left_of bound (event_threshold g bound margin) b ≡ 0)
      (λ b is. below_stop bound (event_threshold g bound margin) b.area is) boxes stop) in
      omega (arith, bag.count, none)

  -- and the boxes are those of the cover
  pub end_cover : (met : ℕ) (boxes : List BoxBound) → IsBag g roots bound margin met boxes
      → AllByRecursion (λ (b : BoxBound). stops bound (event_threshold g bound margin) b.area ≡ true) boxes
      → IsPermutation boxes (event_cover g roots bound margin)
  end_cover met boxes bag stop =
      same_boxes boxes (event_cover g roots bound margin) (λ f.
      sym (sum_by-same_terms (box_sum bound (event_threshold g bound margin) f) f boxes
      (all-both (IsKnown roots bound) (λ (b : BoxBound). stops bound (event_threshold g bound margin) b.area ≡ true)
      (λ b. box_sum bound (event_threshold g bound margin) f b ≡ f b)
      (λ b known is. alone f b known is) boxes bag.known stop))
      ∙ bag.sums f)
    where
      alone : (f : BoxBound → ℕ) (b : BoxBound) → IsKnown roots bound b → stops bound (event_threshold g bound margin) b.area ≡ true
          → box_sum bound (event_threshold g bound margin) f b ≡ f b
      alone f b known is =
          let same : bounded bound b.area ≡ b = ap (λ n. record (b) { bound = n }) (sym known.bound_is) in
          let single : sum_by (λ c. f (bounded bound c)) (b.area ∷ []) ≡ f (bounded bound b.area) = omega arith in
          ap (λ areas. sum_by (λ c. f (bounded bound c)) areas) (cover_stop bound (event_threshold g bound margin) b.area is) ∙ single ∙ ap f same

  -- what a finished state says
  pub end_of : (s : LaneState) → IsKept g roots bound margin budget s → is_finished margin s ≡ true → IsEndOf g roots bound margin budget s
  end_of s kept finished = elim (by_test s.over) [
    | inl over ↦ record {
      over = over ∙ sym (is_past (kept.past over));
      met = λ open'. absurd (both_ways s.over over open');
      cover = λ open'. absurd (both_ways s.over over open');
      best = λ open'. absurd (both_ways s.over over open');
    }
    | inr open' ↦
        let going = kept.going open' in
        let parts = and_parts (list_all is_free s.lanes) (list_all (λ b. not (is_ready margin s b)) s.waiting)
        (or_rest s.over (list_all is_free s.lanes && list_all (λ b. not (is_ready margin s b)) s.waiting) finished open') in
        let free : held s.lanes ≡ [] = free_held s.lanes parts.0 in
        let low : AllByRecursion (IsLowest margin (upper_of s)) (boxes_of s) =
        all-append (IsLowest margin (upper_of s)) s.waiting (held s.lanes) (none_ready margin s s.waiting parts.1)
        (subst (AllByRecursion (IsLowest margin (upper_of s))) (sym free) tt) in
        let stop = end_stops s.met (boxes_of s) going.bag low in
        let met : s.met ≡ event_met g roots bound margin = end_met s.met (boxes_of s) going.bag stop in
        let only : boxes_of s ≡ s.waiting = ap (λ hs. s.waiting ++ hs) free ∙ append-nil s.waiting in
        record {
          over = open' ∙ sym (isnt_past (omega (arith, met, kept.within)));
          met = λ _. met;
          cover = λ _. subst (λ boxes. IsPermutation boxes (event_cover g roots bound margin)) only (end_cover s.met (boxes_of s) going.bag stop);
          best = λ _. end_upper s.met (boxes_of s) going.bag low;
        }
  ]
    where
      is_past : budget < event_met g roots bound margin → nat_lt budget (event_met g roots bound margin) ≡ true
      is_past past = grind (arith, nat_tests)

      isnt_past : event_met g roots bound margin ≤ budget → nat_lt budget (event_met g roots bound margin) ≡ false
      isnt_past within = grind (arith, nat_tests)

  -- what a finished run leads to, whatever the order of its events and whoever is lost
  pub run_ends : (lanes : ℕ) (events : List LaneEvent) (end : LaneState) → Run bound margin budget (start bound budget lanes roots) events end
      → is_finished margin end ≡ true → IsEndOf g roots bound margin budget end
  run_ends lanes events end run finished =
      end_of end (run_keeps g roots bound margin budget are falls events (start bound budget lanes roots) end run
      (start_kept g roots bound margin budget are falls lanes)) finished
