-- Bounds and scores: a box has no node that scores more than its bound.
use Rattle.std.proofs.Common.{◌≡◌, inl, inr, ℕ, zero, suc, ◌+◌, ◌≤◌, arith, true, false, cond, List, [], ◌∷◌, refl, ap, sym, ◌∙◌, Contains}
use Rattle.std.specs.Prelude.{nat_lt}
use Rattle.std.specs.List.{AllByRecursion}
use Rattle.std.proofs.lemmas.Bool.{cases_lt}
use Rattle.std.proofs.lemmas.Bool.Decides.{nat_tests}
use Rattle.std.proofs.lemmas.List.Sums.{sum_by-cons}
use Rattle.node_boxes.specs.declared.node_box.NodeBox.{NodeBox}
use Rattle.node_boxes.specs.Grid.{GridSize, node_count}
use Rattle.node_boxes.specs.GridOrder.{IsInside, place_of, node_number}
use Rattle.node_boxes.specs.Boxes.{IsIn, IsNonempty, contains, is_single}
use Rattle.node_boxes.specs.Children.{children_of}
use Rattle.node_boxes.specs.Roots.{AreRoots, holders}
use Rattle.node_boxes.specs.Octree.{IsOctreeBox, Child}
use Rattle.node_boxes.proofs.ChildBoxes.{children_once}
use Rattle.node_boxes.proofs.Lists.{all-weaker}
use Rattle.node_boxes.proofs.OctreeBoxes.{octree_inside, in_nonempty}
use Rattle.node_boxes.proofs.Order.{node_number-below, place_of-number, place_of-inside}
use Rattle.edt_score.specs.Best.{best_score}
use Rattle.edt_score.specs.Judging.{BoundsFall, judged_score, node_box}
use Rattle.edt_score.proofs.BestNodes.{best_score-above, best_score-is, IsFirstBest-exists}
use Rattle.octree_search.specs.Near.{best_of}
use Rattle.octree_search.proofs.Choices.{by_test, or_cases, neither, all-both}
use Rattle.octree_search.proofs.Covers.{by_cover}

-- the box of one place
abbrev pub unit_at : ℕ → ℕ → ℕ → NodeBox
unit_at ix iy iz = record { x0 = ix; x1 = ix + 1; y0 = iy; y1 = iy + 1; z0 = iz; z1 = iz + 1 }

-- no node of a box scores more than u
abbrev pub IsUnder : (NodeBox → ℕ) → NodeBox → ℕ → Type 0
IsUnder bound a u = (ix iy iz : ℕ) → contains a ix iy iz ≡ true → bound (unit_at ix iy iz) ≤ u

-- the children of an octree box are octree boxes
pub octree_children : (roots : List NodeBox) (a : NodeBox) → IsOctreeBox roots a → is_single a ≡ false
    → (areas : List NodeBox) → ((b : NodeBox) → Contains areas b → Contains (children_of a) b) → AllByRecursion (IsOctreeBox roots) areas
octree_children roots a tree several [] within = tt
octree_children roots a tree several (c ∷ areas) within = (
  Child a c tree several (within c (0, omega arith, refl)),
  octree_children roots a tree several areas (λ b (k, below, is). within b (suc k, omega arith, is)),
)

-- a single box that holds a place is the box of this place
pub single_unit : (a : NodeBox) (ix iy iz : ℕ) → is_single a ≡ true → contains a ix iy iz ≡ true → a ≡ unit_at ix iy iz
single_unit a ix iy iz single at =
    let x0 : a.x0 ≡ ix = grind (arith, nat_tests) in
    let x1 : a.x1 ≡ ix + 1 = grind (arith, nat_tests) in
    let y0 : a.y0 ≡ iy = grind (arith, nat_tests) in
    let y1 : a.y1 ≡ iy + 1 = grind (arith, nat_tests) in
    let z0 : a.z0 ≡ iz = grind (arith, nat_tests) in
    let z1 : a.z1 ≡ iz + 1 = grind (arith, nat_tests) in
    let made : record { x0 = a.x0; x1 = a.x1; y0 = a.y0; y1 = a.y1; z0 = a.z0; z1 = a.z1 } ≡ unit_at ix iy iz = rw (x0, x1, y0, y1, z0, z1) refl in
    made

-- what follows of a box that holds a place, where some box of a list holds it
pub reach : (ix iy iz : ℕ) (X : Type 0) (boxes : List NodeBox) → 1 ≤ holders ix iy iz boxes
    → AllByRecursion (λ c. contains c ix iy iz ≡ true → X) boxes → X
reach ix iy iz X [] one each = absurd (omega (arith, one))
reach ix iy iz X (c ∷ boxes) one (here, each) = elim (by_test (contains c ix iy iz)) [
  | inl is ↦ here is
  | inr is ↦
      let none : cond {A = ℕ} (contains c ix iy iz) 1 0 ≡ 0 = ap (λ b. cond {A = ℕ} b 1 0) is in
      reach ix iy iz X boxes (omega (arith, one, none, sum_by-cons (λ d. cond {A = ℕ} (contains d ix iy iz) 1 0) c boxes)) each
]

-- where no node of the children scores more, none of the box does
pub under_children : (bound : NodeBox → ℕ) (a : NodeBox) (u : ℕ) → IsNonempty a → AllByRecursion (λ c. IsUnder bound c u) (children_of a)
    → IsUnder bound a u
under_children bound a u some all ix iy iz at =
    let one : holders ix iy iz (children_of a) ≡ 1 = children_once a ix iy iz some ∙ ap (λ b. cond {A = ℕ} b 1 0) at in
    reach ix iy iz (bound (unit_at ix iy iz) ≤ u) (children_of a) (omega (arith, one))
    (all-weaker (λ c. IsUnder bound c u) (λ c. contains c ix iy iz ≡ true → bound (unit_at ix iy iz) ≤ u) (λ c under held. under ix iy iz held) (children_of a) all)

-- no node of an octree box scores more than its bound
pub dominated : (g : GridSize) (roots : List NodeBox) (bound : NodeBox → ℕ) → AreRoots g roots → BoundsFall g roots bound
    → (a : NodeBox) → IsOctreeBox roots a → IsUnder bound a (bound a)
dominated g roots bound are falls a tree =
    by_cover bound 0 (λ b. IsOctreeBox roots b → IsUnder bound b (bound b))
    (λ b some stop tree ix iy iz at. elim (or_cases (is_single b) (nat_lt (bound b) 0) stop) [
      | inl single ↦ let is = single_unit b ix iy iz single at in rw (sym is) (omega arith)
      | inr low ↦ absurd (grind (arith, nat_tests))
    ])
    (λ b some open' each tree. let several = (neither (is_single b) (nat_lt (bound b) 0) open').0 in
    under_children bound b (bound b) some
    (all-both (λ c. bound c ≤ bound b) (λ c. IsUnder bound c (bound c)) (λ c. IsUnder bound c (bound b))
    (λ c fall under ix iy iz at. let least = under ix iy iz at in omega (arith, fall, least))
    (children_of b) (falls b (octree_inside g roots b are tree) tree several)
    (all-both (λ c. IsOctreeBox roots c → IsUnder bound c (bound c)) (IsOctreeBox roots) (λ c. IsUnder bound c (bound c))
    (λ c given at. given at) (children_of b) each (octree_children roots b tree several (children_of b) (λ c at. at)))))
    a (in_nonempty g a (octree_inside g roots a are tree)) tree

best_none : (n : ℕ) (score : ℕ → ℕ) (u : ℕ) → n ≤ 0 → best_score n score ≤ u
unfolding best_score
best_none zero score u none = omega arith
best_none (suc n) score u none = absurd (omega arith)

-- no node scores more than u where no root has one that does
pub best_below : (g : GridSize) (roots : List NodeBox) (bound : NodeBox → ℕ) (u : ℕ) → AreRoots g roots
    → AllByRecursion (λ a. IsUnder bound a u) roots → best_of g bound ≤ u
best_below g roots bound u are all = elim (cases_lt 0 (node_count g)) [
  | inl some ↦
      let best = IsFirstBest-exists (node_count g) (judged_score g bound) some in
      let is = best_score-is (node_count g) (judged_score g bound) best.0 best.1 in
      let place = place_of g best.0 in
      let inside = place_of-inside g best.0 best.1.inside in
      let under : bound (node_box g best.0) ≤ u =
      reach place.0 place.1 place.2 (bound (unit_at place.0 place.1 place.2) ≤ u) roots (omega (arith, are.once place.0 place.1 place.2 inside))
      (all-weaker (λ c. IsUnder bound c u) (λ c. contains c place.0 place.1 place.2 ≡ true → bound (unit_at place.0 place.1 place.2) ≤ u)
      (λ c under held. under place.0 place.1 place.2 held) roots all) in
      omega (arith, is, under)
  | inr none ↦ best_none (node_count g) (judged_score g bound) u none
]

-- a single box tells the score of its node
pub best_single : (g : GridSize) (bound : NodeBox → ℕ) (a : NodeBox) → IsIn g a → is_single a ≡ true → bound a ≤ best_of g bound
best_single g bound a inside single =
    let x1 : a.x1 ≡ a.x0 + 1 = grind (arith, nat_tests) in
    let y1 : a.y1 ≡ a.y0 + 1 = grind (arith, nat_tests) in
    let z1 : a.z1 ≡ a.z0 + 1 = grind (arith, nat_tests) in
    let made : record { x0 = a.x0; x1 = a.x1; y0 = a.y0; y1 = a.y1; z0 = a.z0; z1 = a.z1 } ≡ unit_at a.x0 a.y0 a.z0 = rw (x1, y1, z1) refl in
    let within : IsInside g a.x0 a.y0 a.z0 = record { x = omega (arith, inside.x, inside.x_end); y = omega (arith, inside.y, inside.y_end); z = omega (arith, inside.z, inside.z_end) } in
    let node : ℕ = node_number g a.x0 a.y0 a.z0 in
    let place : node_box g node ≡ unit_at a.x0 a.y0 a.z0 =
    ap (λ (p : ℕ × ℕ × ℕ). unit_at p.0 p.1 p.2) (place_of-number g a.x0 a.y0 a.z0 within) in
    let same : bound a ≡ judged_score g bound node = ap bound (made ∙ sym place) in
    omega (arith, same, best_score-above (node_count g) (judged_score g bound) node (node_number-below g a.x0 a.y0 a.z0 within))
