-- The boxes that were opened are those octree boxes that contain an open or held box and aren't it.
use Rattle.std.proofs.Common.{◌≡◌, inl, inr, ℕ, zero, suc, ◌+◌, ◌≤◌, ◌<◌, arith, true, false, cond, List, [], ◌∷◌, length, take, get_or, refl, ap, sym, ◌∙◌, subst, sum_by, Contains, Option, Some, None, All}
use Rattle.std.specs.Prelude.{MatchOption}
use Rattle.std.proofs.lemmas.Bool.Decides.{nat_tests}
use Rattle.std.proofs.lemmas.List.{get_or_default, get_or-take, length-map, length-take}
use Rattle.std.proofs.lemmas.List.Elements.{All-from_recursion}
use Rattle.std.proofs.lemmas.List.Sums.{sum_by-cons}
use Rattle.node_boxes.specs.declared.node_box.NodeBox.{NodeBox}
use Rattle.node_boxes.specs.Grid.{GridSize}
use Rattle.node_boxes.specs.GridOrder.{IsInside}
use Rattle.node_boxes.specs.Boxes.{IsIn, IsNonempty, IsPartOf, contains, is_single, node_count_of}
use Rattle.node_boxes.specs.Children.{children_of}
use Rattle.node_boxes.specs.Roots.{AreRoots}
use Rattle.node_boxes.specs.Octree.{IsOctreeBox, Root, Child}
use Rattle.node_boxes.proofs.ChildBoxes.{children_count, children_parts, children_smaller, node_count-some}
use Rattle.node_boxes.proofs.Lists.{all-contains, first_or_rest}
use Rattle.node_boxes.proofs.OctreeBoxes.{child_part, in_nonempty, octree_inside}
use Rattle.octree_search.specs.declared.arena.Met.{Met}
use Rattle.octree_search.specs.declared.queue.Waiting.{Waiting}
use Rattle.octree_search.specs.Arena.{areas_met, no_box, IsLinked}
use Rattle.octree_search.proofs.FewestBoxes.{part_of_part}
use Rattle.octree_search.proofs.Walking.{area_at, child_entry, IsOpenAt}
use Rattle.search_lanes.specs.Inside.Bags.{entry_of, holds_place, IsBagOf, IsPlaced}
use Rattle.search_lanes.proofs.LaneOver.{term_le}

-- the box at some place was opened
pub record IsOpen (met : List Met) (a : NodeBox) : Type 0 where
  pub place : ℕ
  pub below : place < length met
  pub area : (get_or met place no_box).area ≡ a
  pub first : ℕ
  pub is : (get_or met place no_box).first_child ≡ Some first

-- a box contains an open or held box, and isn't it
pub record IsOver (boxes : List Waiting) (a : NodeBox) : Type 0 where
  pub leaf : Waiting
  pub there : Contains boxes leaf
  pub part : IsPartOf a leaf.area
  pub smaller : node_count_of leaf.area < node_count_of a

-- what holds of each element holds of one that is there
pub all_at : {X : Type 0} (P : X → Type 0) (xs : List X) (x : X) → All P xs → Contains xs x → P x
all_at P xs x all (k, below, is) = subst P is (all k x below)

-- by cases of an option, with the equation
pub by_option : (o : Option ℕ) (Q : Type 0) → (o ≡ None → Q) → ((n : ℕ) → o ≡ Some n → Q) → Q
by_option None Q none some = none refl
by_option (Some n) Q none some = some n refl

-- two different terms of a sum
two_terms : {X : Type 0} (f : X → ℕ) (xs : List X) (x y : X) → Contains xs x → Contains xs y → (x ≡ y → ⊥) → f x + f y ≤ sum_by f xs
two_terms f [] x y (k, below, is) other apart = absurd (omega arith)
two_terms f (z ∷ xs) x y one other apart = elim (first_or_rest z xs x one) [
  | inl x_is ↦ elim (first_or_rest z xs y other) [
    | inl y_is ↦ absurd (apart (sym x_is ∙ y_is))
    | inr y_after ↦ omega (arith, ap f x_is, term_le f xs y y_after, sum_by-cons f z xs)
  ]
  | inr x_after ↦ elim (first_or_rest z xs y other) [
    | inl y_is ↦ omega (arith, ap f y_is, term_le f xs x x_after, sum_by-cons f z xs)
    | inr y_after ↦ omega (arith, two_terms f xs x y x_after y_after apart, sum_by-cons f z xs)
  ]
]

-- a box holds its first place, and so does each box that it is a part of
holds_first : (a : NodeBox) → IsNonempty a → contains a a.x0 a.y0 a.z0 ≡ true
holds_first a some =
    let x : a.x0 < a.x1 = some.x in
    let y : a.y0 < a.y1 = some.y in
    let z : a.z0 < a.z1 = some.z in
    grind (arith, nat_tests)

whole_holds_first : (a c : NodeBox) → IsPartOf a c → contains a c.x0 c.y0 c.z0 ≡ true
whole_holds_first a c part =
    let x_from : a.x0 ≤ c.x0 = part.x_from in
    let y_from : a.y0 ≤ c.y0 = part.y_from in
    let z_from : a.z0 ≤ c.z0 = part.z_from in
    let x_to : c.x0 < a.x1 = omega (arith, part.nonempty.x, part.x_to) in
    let y_to : c.y0 < a.y1 = omega (arith, part.nonempty.y, part.y_to) in
    let z_to : c.z0 < a.z1 = omega (arith, part.nonempty.z, part.z_to) in
    grind (arith, nat_tests)

module _ (g : GridSize) (roots : List NodeBox) (budget : ℕ) (met : List Met) (boxes : List Waiting) (are : AreRoots g roots)
    (bag : IsBagOf g roots budget met boxes) where
  -- something was met where there is an open or held box
  pub began : (w : Waiting) → Contains boxes w → 0 < length met
  began w at =
      let placed = all_at (IsPlaced roots (areas_met met)) boxes w bag.arena.queued at in
      omega (arith, placed.within, length-map met (λ (m : Met). m.area))

  -- a box that was opened stands before its children
  pub open_place : (i first : ℕ) → i < length met → (get_or met i no_box).first_child ≡ Some first → IsOpenAt met i first
  open_place i first below is =
      let entry = bag.arena.entries i no_box below in
      let a : NodeBox = (get_or met i no_box).area in
      let state : (is_single a ≡ false) × (1 ≤ length (children_of a)) × IsLinked (areas_met met) a first =
      subst (λ o. MatchOption o (Contains boxes (entry_of i (get_or met i no_box)))
      (λ k. (is_single a ≡ false) × (1 ≤ length (children_of a)) × IsLinked (areas_met met) a k)) is entry.state in
      record {
        splittable = record { nonempty = in_nonempty g a (octree_inside g roots a are entry.tree); several = state.0 };
        linked = state.2;
      }

  -- and one that wasn't is open or held
  pub leaf_there : (i : ℕ) → i < length met → (get_or met i no_box).first_child ≡ None → Contains boxes (entry_of i (get_or met i no_box))
  leaf_there i below none =
      let entry = bag.arena.entries i no_box below in
      let a : NodeBox = (get_or met i no_box).area in
      subst (λ o. MatchOption o (Contains boxes (entry_of i (get_or met i no_box)))
      (λ k. (is_single a ≡ false) × (1 ≤ length (children_of a)) × IsLinked (areas_met met) a k)) none entry.state

  -- a box that was opened contains an open or held box: down by the first children
  pub opened_over : (depth i first : ℕ) → i < length met → node_count_of (get_or met i no_box).area ≤ depth
      → (get_or met i no_box).first_child ≡ Some first → IsOver boxes (get_or met i no_box).area
  opened_over zero i first below few is =
      absurd (omega (arith, few, node_count-some (get_or met i no_box).area (open_place i first below is).splittable.nonempty))
  opened_over (suc depth) i first below few is =
      let a : NodeBox = (get_or met i no_box).area in
      let o = open_place i first below is in
      let two = children_count a o.splittable in
      let some : 0 < length (children_of a) = omega (arith, two.0) in
      let c = child_entry met i first 0 o some in
      let part : IsPartOf a (get_or met (first + 0) no_box).area =
      subst (IsPartOf a) (sym c.area) (All-from_recursion (IsPartOf a) (children_of a) (children_parts a o.splittable.nonempty) 0 no_box.area some) in
      by_option (get_or met (first + 0) no_box).first_child (IsOver boxes a)
      (λ none. record {
        leaf = entry_of (first + 0) (get_or met (first + 0) no_box);
        there = leaf_there (first + 0) c.within none;
        part = part;
        smaller = c.smaller;
      })
      (λ n is'.
      let inner = opened_over depth (first + 0) n c.within (omega (arith, c.smaller, few)) is' in
      record {
        leaf = inner.leaf;
        there = inner.there;
        part = part_of_part a (get_or met (first + 0) no_box).area inner.leaf.area part inner.part;
        smaller = omega (arith, inner.smaller, c.smaller);
      })

  -- no open or held box is a smaller part of another
  apart : (w v : Waiting) → Contains boxes w → Contains boxes v → IsPartOf v.area w.area
      → node_count_of w.area < node_count_of v.area → ⊥
  apart w v w_at v_at part less =
      let a : NodeBox = w.area in
      let w_is = all_at (IsPlaced roots (areas_met met)) boxes w bag.arena.queued w_at in
      let inside : IsIn g a = octree_inside g roots a are w_is.tree in
      let within : IsInside g a.x0 a.y0 a.z0 = record {
        x = omega (arith, inside.x, inside.x_end);
        y = omega (arith, inside.y, inside.y_end);
        z = omega (arith, inside.z, inside.z_end);
      } in
      let one : holds_place a.x0 a.y0 a.z0 w ≡ 1 = ap (λ b. cond {A = ℕ} b 1 0) (holds_first a part.nonempty) in
      let other : holds_place a.x0 a.y0 a.z0 v ≡ 1 = ap (λ b. cond {A = ℕ} b 1 0) (whole_holds_first v.area a part) in
      let both = two_terms (holds_place a.x0 a.y0 a.z0) boxes w v w_at v_at (λ same.
      let count : node_count_of w.area ≡ node_count_of v.area = ap (λ (u : Waiting). node_count_of u.area) same in
      omega (arith, less, count)) in
      let once = bag.once a.x0 a.y0 a.z0 within (began w w_at) in
      omega (arith, one, other, both, once)

  -- a box that was met and contains a smaller open or held box was opened
  entry_open : (i : ℕ) (a : NodeBox) → i < length met → (get_or met i no_box).area ≡ a → (w : Waiting) → Contains boxes w
      → IsPartOf a w.area → node_count_of w.area < node_count_of a → IsOpen met a
  entry_open i a below is w at part less = by_option (get_or met i no_box).first_child (IsOpen met a)
      (λ none. absurd (apart w (entry_of i (get_or met i no_box)) at (leaf_there i below none)
      (subst (λ c. IsPartOf c w.area) (sym is) part) (subst (λ c. node_count_of w.area < node_count_of c) (sym is) less)))
      (λ k some. record { place = i; below = below; area = is; first = k; is = some })

  -- an octree box that contains a smaller open or held box was opened
  pub over_open : (a : NodeBox) → IsOctreeBox roots a → (w : Waiting) → Contains boxes w → IsPartOf a w.area
      → node_count_of w.area < node_count_of a → IsOpen met a
  over_open a (Root a' (j, below, is)) w at part less =
      let first = bag.first (began w at) in
      let many : length (take (length roots) (areas_met met)) ≡ length roots = ap length first in
      let long : j < length met =
      omega (arith, below, many, length-take (length roots) (areas_met met), length-map met (λ (m : Met). m.area)) in
      let there : (get_or met j no_box).area ≡ a =
      area_at met j no_box long ∙ sym (get_or-take (length roots) (areas_met met) j no_box.area below)
      ∙ ap (λ (bs : List NodeBox). get_or bs j no_box.area) first ∙ get_or_default roots j no_box.area a below ∙ is in
      entry_open j a long there w at part less
  over_open b (Child p b' tree several (j, below, is)) w at part less =
      let some : IsNonempty p = in_nonempty g p (octree_inside g roots p are tree) in
      let inner : IsPartOf p b = child_part p b some (j, below, is) in
      let smaller : node_count_of b < node_count_of p =
      all-contains (λ c. node_count_of c < node_count_of p) (children_of p) b (children_smaller p (record { nonempty = some; several = several })) (j, below, is) in
      let up = over_open p tree w at (part_of_part p b w.area inner part) (omega (arith, less, smaller)) in
      let o = open_place up.place up.first up.below up.is in
      let within : j < length (children_of (get_or met up.place no_box).area) = subst (λ c. j < length (children_of c)) (sym up.area) below in
      let c = child_entry met up.place up.first j o within in
      let there : (get_or met (up.first + j) no_box).area ≡ b =
      c.area ∙ ap (λ e. get_or (children_of e) j no_box.area) up.area ∙ get_or_default (children_of p) j no_box.area b below ∙ is in
      entry_open (up.first + j) b c.within there w at part less
