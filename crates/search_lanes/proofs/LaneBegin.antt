-- Lanes at the start, whatever vectors they stand in.
use Rattle.std.proofs.Common.{◌≡◌, ℕ, ◌≤◌, ◌<◌, arith, true, false, List, [], ◌++◌, length, map, ap, ◌∙◌}
use Rattle.std.specs.Prelude.{nat_lt, replicate}
use Rattle.std.proofs.lemmas.Bool.Decides.{nat_tests}
use Rattle.node_boxes.specs.declared.node_box.NodeBox.{NodeBox}
use Rattle.node_boxes.specs.Grid.{GridSize, IsGrid}
use Rattle.node_boxes.specs.Roots.{AreRoots}
use Rattle.octree_search.specs.declared.arena.Met.{Met}
use Rattle.octree_search.specs.declared.queue.Waiting.{Waiting}
use Rattle.octree_search.specs.Arena.{fresh}
use Rattle.search_lanes.specs.declared.lane_slots.Slot.{Slot}
use Rattle.search_lanes.specs.declared.lane_slots.Slot.TheVariants.{Free}
use Rattle.search_lanes.specs.Lanes.{start}
use Rattle.search_lanes.specs.LaneViews.{Fits, LanesView}
use Rattle.search_lanes.specs.Inside.Slots.{greatest_bound, view_of, waits_from}
use Rattle.search_lanes.specs.Inside.Whole.{IsWhole}
use Rattle.search_lanes.proofs.LaneStart.{fits_past, fits_start, past_seen, roots_some, start_seen, whole_past, whole_start}

-- what is seen of lanes at the start
abbrev pub start_view : (NodeBox → ℕ) → GridSize → List NodeBox → ℕ → ℕ → ℕ → LanesView
start_view bound g roots margin budget lanes = record {
  state = start bound budget lanes roots;
  grid = g;
  roots = roots;
  margin = margin;
  budget = budget;
}

-- what is told of vectors that were empty
pub copied_from : (roots copied empty : List NodeBox) → copied ≡ empty ++ roots → empty ≡ [] → copied ≡ roots
copied_from roots copied empty is none = is ∙ ap (λ front. front ++ roots) none

pub met_from : (bound : NodeBox → ℕ) (roots : List NodeBox) (met empty : List Met) → met ≡ empty ++ map (fresh bound) roots → empty ≡ []
    → met ≡ map (fresh bound) roots
met_from bound roots met empty is none = is ∙ ap (λ front. front ++ map (fresh bound) roots) none

pub boxes_from : (bound : NodeBox → ℕ) (roots : List NodeBox) (boxes empty : List Waiting) (met : List Met)
    → boxes ≡ empty ++ waits_from bound (length met) roots → empty ≡ [] → met ≡ [] → boxes ≡ waits_from bound 0 roots
boxes_from bound roots boxes empty met is none none' =
    is ∙ ap (λ front. front ++ waits_from bound (length met) roots) none ∙ ap (λ (ms : List Met). waits_from bound (length ms) roots) none'

pub upper_from : (upper : ℕ) (boxes now : List Waiting) → upper ≡ greatest_bound now → now ≡ boxes → upper ≡ greatest_bound boxes
upper_from upper boxes now is same = is ∙ ap greatest_bound same

module _ (g : GridSize) (roots copied : List NodeBox) (margin budget lanes : ℕ) (bound : NodeBox → ℕ) (are : AreRoots g roots) (margin_is : margin ≤ 999)
    (copied_is : copied ≡ roots) (met : List Met) (boxes : List Waiting) (slots : List Slot) (slots_is : slots ≡ replicate lanes Free) where
  -- there are more roots than the budget
  module _ (past : budget < length roots) (met_is : met ≡ []) (boxes_is : boxes ≡ []) where
    pub past_whole : IsWhole g copied margin budget met boxes slots 0 true
    past_whole = rw (copied_is, met_is, boxes_is, slots_is) (whole_past g roots budget are margin lanes margin_is past)

    pub past_view : view_of g copied margin budget boxes slots (length met) true ≡ start_view bound g roots margin budget lanes
    past_view =
        let over : nat_lt budget (length roots) ≡ true = grind (arith, nat_tests) in
        rw (copied_is, met_is, boxes_is, slots_is) (ap (λ s. record { state = s; grid = g; roots = roots; margin = margin; budget = budget }) (past_seen bound budget lanes roots over))

    pub past_fits : Fits g roots bound (view_of g copied margin budget boxes slots (length met) true)
    past_fits = rw (copied_is, met_is, boxes_is, slots_is) (fits_past g roots budget are bound margin lanes (whole_past g roots budget are margin lanes margin_is past))

  -- the roots are within the budget
  module _ (upper : ℕ) (grid : IsGrid g) (few : length roots ≤ budget) (met_is : met ≡ map (fresh bound) roots) (boxes_is : boxes ≡ waits_from bound 0 roots)
      (upper_is : upper ≡ greatest_bound boxes) where
    whole_met : IsWhole g roots margin budget (map (fresh bound) roots) (waits_from bound 0 roots) (replicate lanes Free) upper false
    whole_met = whole_start g roots budget are bound margin lanes upper (roots_some g roots grid are) margin_is few (upper_is ∙ ap greatest_bound boxes_is)

    pub met_whole : IsWhole g copied margin budget met boxes slots upper false
    met_whole = rw (copied_is, met_is, boxes_is, slots_is) whole_met

    pub met_view : view_of g copied margin budget boxes slots (length met) false ≡ start_view bound g roots margin budget lanes
    met_view =
        let within : nat_lt budget (length roots) ≡ false = grind (arith, nat_tests) in
        rw (copied_is, met_is, boxes_is, slots_is) (ap (λ s. record { state = s; grid = g; roots = roots; margin = margin; budget = budget }) (start_seen bound budget lanes roots within))

    pub met_fits : Fits g roots bound (view_of g copied margin budget boxes slots (length met) false)
    met_fits = rw (copied_is, met_is, boxes_is, slots_is) (fits_start g roots budget are bound margin lanes upper whole_met)
