-- A judge that fits lanes, in terms of the boxes that were met, and that it still fits them when boxes move and are opened.
use Rattle.std.proofs.Common.{◌≡◌, inl, inr, ℕ, zero, suc, ◌+◌, ◌≤◌, ◌<◌, arith, Bool, false, List, [], ◌∷◌, ◌++◌, length, map, get_or, refl, ap, sym, ◌∙◌, subst, Contains, Some}
use Rattle.std.specs.Prelude.{MatchOption}
use Rattle.std.specs.List.{AllByRecursion}
use Rattle.std.specs.List.Sorted.{IsPermutation}
use Rattle.std.proofs.lemmas.List.{get_or_default, map-append}
use Rattle.std.proofs.lemmas.List.Elements.{All-from_recursion, recursion_from_All}
use Rattle.std.proofs.lemmas.List.Sorted.{All-permutation}
use Rattle.node_boxes.specs.declared.node_box.NodeBox.{NodeBox}
use Rattle.node_boxes.specs.declared.node_box.BoxBound.{BoxBound}
use Rattle.node_boxes.specs.Grid.{GridSize}
use Rattle.node_boxes.specs.Boxes.{IsPartOf, node_count_of}
use Rattle.node_boxes.specs.Children.{children_of}
use Rattle.node_boxes.specs.Roots.{AreRoots}
use Rattle.node_boxes.proofs.Lists.{all-append, all-map, all-weaker, first_or_rest}
use Rattle.node_boxes.proofs.OctreeBoxes.{octree_inside}
use Rattle.edt_score.specs.Judging.{BoundsFall}
use Rattle.minmax_pyramid.specs.Spans.{greatest}
use Rattle.octree_search.specs.declared.arena.Met.{Met}
use Rattle.octree_search.specs.declared.queue.Waiting.{Waiting}
use Rattle.octree_search.specs.Arena.{fresh, no_box, IsOpened}
use Rattle.octree_search.specs.Cover.{threshold_of}
use Rattle.octree_search.proofs.Thresholds.{threshold_up}
use Rattle.search_lanes.specs.declared.lane_slots.Slot.{Slot}
use Rattle.search_lanes.specs.declared.lane_slots.Slot.TheVariants.{Free, Busy, Dead}
use Rattle.search_lanes.specs.Lanes.{boxes_of, held, upper_of}
use Rattle.search_lanes.specs.LaneViews.{Fits, IsOpenedBox}
use Rattle.search_lanes.specs.Inside.Bags.{AllOpened, IsBagOf}
use Rattle.search_lanes.specs.Inside.Slots.{boxed, busy, greatest_bound, is_low, lane_of, state_of, view_of, waits_from}
use Rattle.search_lanes.proofs.LaneBags.{match_map, opened_after}
use Rattle.search_lanes.proofs.LaneOver.{greatest_permuted, ready_box, upper_falls}
use Rattle.search_lanes.proofs.OpenedBoxes.{by_option, opened_over, over_open}

-- the boxes that lanes hold, as seen
pub held_busy : (slots : List Slot) → held (map lane_of slots) ≡ map boxed (busy slots)
held_busy [] = refl
held_busy (Free ∷ slots) = held_busy slots
held_busy (Busy w ∷ slots) = ap (λ rest. boxed w ∷ rest) (held_busy slots)
held_busy (Dead ∷ slots) = held_busy slots

-- all boxes, as seen
pub boxes_seen : (boxes : List Waiting) (slots : List Slot) (n : ℕ) (over : Bool)
    → boxes_of (state_of boxes slots n over) ≡ map boxed (boxes ++ busy slots)
boxes_seen boxes slots n over =
    ap (λ rest. map boxed boxes ++ rest) (held_busy slots) ∙ sym (map-append boxed boxes (busy slots))

bounds_seen : (boxes : List Waiting) → greatest (map (λ (b : BoxBound). b.bound) (map boxed boxes)) ≡ greatest_bound boxes
bounds_seen [] = refl
bounds_seen (w ∷ boxes) = omega (arith, bounds_seen boxes)

-- and their greatest bound
pub upper_seen : (boxes : List Waiting) (slots : List Slot) (n : ℕ) (over : Bool)
    → upper_of (state_of boxes slots n over) ≡ greatest_bound (boxes ++ busy slots)
upper_seen boxes slots n over =
    ap (λ bs. greatest (map (λ (b : BoxBound). b.bound) bs)) (boxes_seen boxes slots n over) ∙ bounds_seen (boxes ++ busy slots)

-- a box that is seen is one of those that are kept, and the other way
pub kept_box : (boxes : List Waiting) (b : BoxBound) → Contains (map boxed boxes) b → (w : Waiting) × Contains boxes w × (boxed w ≡ b)
kept_box [] b (k, below, is) = absurd (omega arith)
kept_box (w ∷ boxes) b at = elim (first_or_rest (boxed w) (map boxed boxes) b at) [
  | inl is ↦ (w, (0, omega arith, refl), is)
  | inr after ↦ let rest = kept_box boxes b after in (rest.0, contains_after w boxes rest.0 rest.1, rest.2)
]
  where
    contains_after : (w : Waiting) (boxes : List Waiting) (v : Waiting) → Contains boxes v → Contains (w ∷ boxes) v
    contains_after w boxes v (k, below, is) = (suc k, omega (arith, below), is)

pub seen_box : (boxes : List Waiting) (w : Waiting) → Contains boxes w → Contains (map boxed boxes) (boxed w)
seen_box [] w (k, below, is) = absurd (omega arith)
seen_box (v ∷ boxes) w at = elim (first_or_rest v boxes w at) [
  | inl is ↦ (0, omega arith, ap boxed is)
  | inr after ↦ contains_later v boxes w (seen_box boxes w after)
]
  where
    contains_later : (v : Waiting) (boxes : List Waiting) (w : Waiting) → Contains (map boxed boxes) (boxed w) → Contains (map boxed (v ∷ boxes)) (boxed w)
    contains_later v boxes w (k, below, is) = (suc k, omega (arith, below), is)

-- a judge fits boxes: they carry its bounds, and its bound of each box that was opened reaches the threshold of the greatest bound
pub record IsJudged (bound : NodeBox → ℕ) (margin : ℕ) (met : List Met) (boxes : List Waiting) : Type 0 where
  pub bounds : AllByRecursion (λ (w : Waiting). w.bound ≡ bound w.area) boxes
  pub opened : AllOpened (λ a. threshold_of margin (greatest_bound boxes) ≤ bound a) met

-- what holds of all boxes as seen holds of them
kept_bounds : (bound : NodeBox → ℕ) (boxes : List Waiting) → AllByRecursion (λ (b : BoxBound). b.bound ≡ bound b.area) (map boxed boxes)
    → AllByRecursion (λ (w : Waiting). w.bound ≡ bound w.area) boxes
kept_bounds bound [] all = tt
kept_bounds bound (w ∷ boxes) (here, all) = (here, kept_bounds bound boxes all)

module _ (g : GridSize) (roots : List NodeBox) (margin budget : ℕ) (met : List Met) (boxes : List Waiting) (slots : List Slot) (over : Bool)
    (are : AreRoots g roots) (bag : IsBagOf g roots budget met (boxes ++ busy slots)) where
  -- a judge that fits lanes fits their boxes
  pub fits_judged : (h : GridSize) (rs : List NodeBox) (bound : NodeBox → ℕ)
      → Fits h rs bound (view_of g roots margin budget boxes slots (length met) over) → IsJudged bound margin met (boxes ++ busy slots)
  fits_judged h rs bound fits = record {
    bounds = kept_bounds bound (boxes ++ busy slots)
        (subst (AllByRecursion (λ (b : BoxBound). b.bound ≡ bound b.area)) (boxes_seen boxes slots (length met) over) fits.bounds);
    opened = λ i d below. by_option (get_or met i d).first_child
        (MatchOption (get_or met i d).first_child (Unit {0}) (λ _. threshold_of margin (greatest_bound (boxes ++ busy slots)) ≤ bound (get_or met i d).area))
        (λ none. subst (λ o. MatchOption o (Unit {0}) (λ _. threshold_of margin (greatest_bound (boxes ++ busy slots)) ≤ bound (get_or met i d).area)) (sym none) tt)
        (λ first is. subst (λ o. MatchOption o (Unit {0}) (λ _. threshold_of margin (greatest_bound (boxes ++ busy slots)) ≤ bound (get_or met i d).area)) (sym is)
        (reaches i d first below is));
  }
    where
      reaches : (i : ℕ) (d : Met) (first : ℕ) → i < length met → (get_or met i d).first_child ≡ Some first
          → threshold_of margin (greatest_bound (boxes ++ busy slots)) ≤ bound (get_or met i d).area
      reaches i d first below is =
          let same : get_or met i d ≡ get_or met i no_box = get_or_default met i d no_box below in
          let a : NodeBox = (get_or met i no_box).area in
          let some : (get_or met i no_box).first_child ≡ Some first = ap (λ (m : Met). m.first_child) (sym same) ∙ is in
          let o = opened_over g roots budget met (boxes ++ busy slots) are bag (node_count_of a) i first below (omega arith) some in
          let entry = bag.arena.entries i no_box below in
          let box : IsOpenedBox (view_of g roots margin budget boxes slots (length met) over) a = record {
            tree = entry.tree;
            leaf = boxed o.leaf;
            there = subst (λ bs. Contains bs (boxed o.leaf)) (sym (boxes_seen boxes slots (length met) over)) (seen_box (boxes ++ busy slots) o.leaf o.there);
            part = o.part;
            smaller = o.smaller;
          } in
          let high = fits.opened a box in
          let upper = upper_seen boxes slots (length met) over in
          subst (λ (m : Met). threshold_of margin (greatest_bound (boxes ++ busy slots)) ≤ bound m.area) (sym same)
          (subst (λ u. threshold_of margin u ≤ bound a) upper high)

  -- and the other way
  pub judged_fits : (h : GridSize) (rs : List NodeBox) (bound : NodeBox → ℕ) → h ≡ g → rs ≡ roots → IsJudged bound margin met (boxes ++ busy slots)
      → Fits h rs bound (view_of g roots margin budget boxes slots (length met) over)
  judged_fits h rs bound same_grid same_roots judged = record {
    same_grid = same_grid;
    same_roots = same_roots;
    bounds = subst (AllByRecursion (λ (b : BoxBound). b.bound ≡ bound b.area)) (sym (boxes_seen boxes slots (length met) over))
        (all-map (λ (w : Waiting). w.bound ≡ bound w.area) (λ (b : BoxBound). b.bound ≡ bound b.area) boxed (λ w is. is) (boxes ++ busy slots) judged.bounds);
    opened = λ a box.
        let at : Contains (map boxed (boxes ++ busy slots)) box.leaf =
        subst (λ bs. Contains bs box.leaf) (boxes_seen boxes slots (length met) over) box.there in
        let kept = kept_box (boxes ++ busy slots) box.leaf at in
        let area : kept.0.area ≡ box.leaf.area = ap (λ (b : BoxBound). b.area) kept.2 in
        let o = over_open g roots budget met (boxes ++ busy slots) are bag a box.tree kept.0 kept.1
        (subst (IsPartOf a) (sym area) box.part) (subst (λ c. node_count_of c < node_count_of a) (sym area) box.smaller) in
        let has : MatchOption (get_or met o.place no_box).first_child (Unit {0}) (λ _. threshold_of margin (greatest_bound (boxes ++ busy slots)) ≤ bound (get_or met o.place no_box).area) =
        judged.opened o.place no_box o.below in
        let high : threshold_of margin (greatest_bound (boxes ++ busy slots)) ≤ bound (get_or met o.place no_box).area =
        subst (λ c. MatchOption c (Unit {0}) (λ _. threshold_of margin (greatest_bound (boxes ++ busy slots)) ≤ bound (get_or met o.place no_box).area)) o.is has in
        subst (λ u. threshold_of margin u ≤ bound a) (sym (upper_seen boxes slots (length met) over))
        (subst (λ c. threshold_of margin (greatest_bound (boxes ++ busy slots)) ≤ bound c) o.area high);
  }

-- a judge fits the same boxes in another order
pub judged_moved : (bound : NodeBox → ℕ) (margin : ℕ) (met : List Met) (boxes now : List Waiting) → IsPermutation boxes now
    → IsJudged bound margin met boxes → IsJudged bound margin met now
judged_moved bound margin met boxes now swaps judged = record {
  bounds = recursion_from_All (λ (w : Waiting). w.bound ≡ bound w.area) now
      (All-permutation (λ (w : Waiting). w.bound ≡ bound w.area) boxes now swaps
      (All-from_recursion (λ (w : Waiting). w.bound ≡ bound w.area) boxes judged.bounds));
  opened = subst (λ u. AllOpened (λ a. threshold_of margin u ≤ bound a) met) (greatest_permuted boxes now swaps) judged.opened;
}

-- boxes that were just met carry the bounds of the judge
waits_bounds : (bound : NodeBox → ℕ) (cs : List NodeBox) (from : ℕ) → AllByRecursion (λ (w : Waiting). w.bound ≡ bound w.area) (waits_from bound from cs)
waits_bounds bound [] from = tt
waits_bounds bound (c ∷ cs) from = (refl, waits_bounds bound cs (from + 1))

-- a judge fits the roots
pub judged_start : (bound : NodeBox → ℕ) (margin : ℕ) (roots : List NodeBox) → IsJudged bound margin (map (fresh bound) roots) (waits_from bound 0 roots)
judged_start bound margin roots = record {
  bounds = waits_bounds bound roots 0;
  opened = none_opened (λ a. threshold_of margin (greatest_bound (waits_from bound 0 roots)) ≤ bound a) bound roots;
}
  where
    none_opened : (P : NodeBox → Type 0) (bound : NodeBox → ℕ) (roots : List NodeBox) → AllOpened P (map (fresh bound) roots)
    none_opened P bound [] i d below = absurd (omega (arith, below))
    none_opened P bound (a ∷ roots) zero d below = tt
    none_opened P bound (a ∷ roots) (suc i) d below = none_opened P bound roots i d (omega (arith, below))

-- and no box at all
pub judged_none : (bound : NodeBox → ℕ) (margin : ℕ) → IsJudged bound margin [] []
judged_none bound margin = record { bounds = tt; opened = λ i d below. absurd (omega (arith, below)) }

module _ (g : GridSize) (roots : List NodeBox) (margin budget : ℕ) (bound : NodeBox → ℕ) (are : AreRoots g roots) (falls : BoundsFall g roots bound) where
  -- the children of a ready box have no greater bounds
  pub children_fall : (met : List Met) (top : Waiting) (rest : List Waiting) (upper : ℕ) → IsBagOf g roots budget met (top ∷ rest)
      → is_low margin upper top ≡ false → IsJudged bound margin met (top ∷ rest) → AllByRecursion (λ c. bound c ≤ top.bound) (children_of top.area)
  children_fall met top rest upper bag ready judged =
      let placed = bag.arena.queued 0 top (omega arith) in
      let is : top.bound ≡ bound top.area = judged.bounds.0 in
      all-weaker (λ c. bound c ≤ bound top.area) (λ c. bound c ≤ top.bound) (λ c low. omega (arith, low, is)) (children_of top.area)
      (falls top.area (octree_inside g roots top.area are placed.tree) placed.tree (ready_box margin upper top ready).several)

  -- a judge still fits after a ready box was opened
  pub judged_opened : (met : List Met) (top : Waiting) (rest : List Waiting) (new : List Met) → IsBagOf g roots budget met (top ∷ rest)
      → is_low margin (greatest_bound (top ∷ rest)) top ≡ false
      → IsOpened (met ++ map (fresh bound) (children_of top.area)) top.place (length met) new
      → IsJudged bound margin met (top ∷ rest) → IsJudged bound margin new (waits_from bound (length met) (children_of top.area) ++ rest)
  judged_opened met top rest new bag ready o judged =
      let children : List NodeBox = children_of top.area in
      let before : ℕ = greatest_bound (top ∷ rest) in
      let after : ℕ = greatest_bound (waits_from bound (length met) children ++ rest) in
      let fall = children_fall met top rest before bag ready judged in
      let down : after ≤ before = upper_falls bound top rest children (length met) fall in
      let low : threshold_of margin after ≤ threshold_of margin before = threshold_up margin after before down in
      let is : top.bound ≡ bound top.area = judged.bounds.0 in
      let high : threshold_of margin before ≤ top.bound = (ready_box margin before top ready).reaches in
      let placed = bag.arena.queued 0 top (omega arith) in
      record {
        bounds = all-append (λ (w : Waiting). w.bound ≡ bound w.area) (waits_from bound (length met) children) rest
            (waits_bounds bound children (length met)) judged.bounds.1;
        opened = opened_after (λ a. threshold_of margin after ≤ bound a) met bound children top (length met) new o placed.within placed.there
            (λ i d below. match_map (get_or met i d).first_child (threshold_of margin before ≤ bound (get_or met i d).area)
            (threshold_of margin after ≤ bound (get_or met i d).area) (λ reaches. omega (arith, low, reaches)) (judged.opened i d below))
            (omega (arith, low, high, is));
      }
