-- A span encloses the times of the nodes of its box and the spans of the parts of the box.
use Rattle.std.proofs.Common.{◌≡◌, ◌∙◌, inl, inr, ap, refl, ℕ, ◌-◌, ◌<◌, ◌≤◌, arith, List, [], ◌∷◌, length, map, get_or, All, true, ◌&&◌, ◌==◌, Contains}
use Rattle.std.specs.List.{AllByRecursion}
use Rattle.std.proofs.lemmas.Bool.Decides.{nat_tests}
use Rattle.std.proofs.lemmas.Bool.{eqb-true, and_parts}
use Rattle.std.proofs.lemmas.List.Elements.{recursion_from_All}
use Rattle.node_boxes.specs.declared.node_box.NodeBox.{NodeBox}
use Rattle.node_boxes.specs.Grid.{GridSize, node_count}
use Rattle.node_boxes.specs.GridOrder.{IsInside, node_number, place_of}
use Rattle.node_boxes.specs.Boxes.{IsIn, IsPartOf, contains, holds, is_single, node_count_of}
use Rattle.node_boxes.specs.BoxNodes.{box_nodes}
use Rattle.node_boxes.proofs.Lists.{first_or_rest}
use Rattle.node_boxes.proofs.Nodes.{box_nodes-below, box_nodes-holds, box_nodes-contains, box_nodes-length}
use Rattle.node_boxes.proofs.Order.{node_number-below, place_of-number}
use Rattle.node_boxes.proofs.ChildBoxes.{node_count-some}
use Rattle.node_boxes.proofs.OctreeBoxes.{part_inside}
use Rattle.minmax_pyramid.specs.Spans.{least, greatest, span_of}

pub least-le : (time : ℕ → ℕ) (nodes : List ℕ) (n : ℕ) → Contains nodes n → least (map time nodes) ≤ time n
least-le time [] n (k, below, is) = absurd (omega arith)
least-le time (a ∷ []) n at = elim (first_or_rest a [] n at) [
  | inl is ↦ omega (arith, ap time is)
  | inr after ↦ absurd (let below : after.0 < 0 = after.1 in omega arith)
]
least-le time (a ∷ (b ∷ nodes)) n at = elim (first_or_rest a (b ∷ nodes) n at) [
  | inl is ↦ omega (arith, ap time is)
  | inr after ↦ omega (arith, least-le time (b ∷ nodes) n after)
]

pub greatest-ge : (time : ℕ → ℕ) (nodes : List ℕ) (n : ℕ) → Contains nodes n → time n ≤ greatest (map time nodes)
greatest-ge time [] n (k, below, is) = absurd (omega arith)
greatest-ge time (a ∷ nodes) n at = elim (first_or_rest a nodes n at) [
  | inl is ↦ omega (arith, ap time is)
  | inr after ↦ omega (arith, greatest-ge time nodes n after)
]

pub least-ge : (time : ℕ → ℕ) (m : ℕ) (nodes : List ℕ) → AllByRecursion (λ n. m ≤ time n) nodes → 0 < length nodes
    → m ≤ least (map time nodes)
least-ge time m [] all some = absurd (omega arith)
least-ge time m (a ∷ []) (here, all) some = here
least-ge time m (a ∷ (b ∷ nodes)) (here, all) some =
    omega (arith, here, least-ge time m (b ∷ nodes) all (omega arith))

pub greatest-le : (time : ℕ → ℕ) (m : ℕ) (nodes : List ℕ) → AllByRecursion (λ n. time n ≤ m) nodes
    → greatest (map time nodes) ≤ m
greatest-le time m [] all = omega arith
greatest-le time m (a ∷ nodes) (here, all) = omega (arith, here, greatest-le time m nodes all)

pub span-node : (g : GridSize) (time : ℕ → ℕ) (a : NodeBox) (node : ℕ) → node < node_count g → holds g a node ≡ true
    → ((span_of g time a).0 ≤ time node) × (time node ≤ (span_of g time a).1)
unfolding span_of
span-node g time a node below held =
    let at = box_nodes-contains g a node below held in
    (least-le time (box_nodes g a) node at, greatest-ge time (box_nodes g a) node at)

held_above : (a c : NodeBox) (ix iy iz : ℕ) → IsPartOf a c → contains c ix iy iz ≡ true → contains a ix iy iz ≡ true
held_above a c ix iy iz part held =
    let x_from : a.x0 ≤ c.x0 = part.x_from in
    let x_to : c.x1 ≤ a.x1 = part.x_to in
    let y_from : a.y0 ≤ c.y0 = part.y_from in
    let y_to : c.y1 ≤ a.y1 = part.y_to in
    let z_from : a.z0 ≤ c.z0 = part.z_from in
    let z_to : c.z1 ≤ a.z1 = part.z_to in
    grind (arith, nat_tests)

pub span-part : (g : GridSize) (time : ℕ → ℕ) (a c : NodeBox) → IsIn g a → IsPartOf a c
    → ((span_of g time a).0 ≤ (span_of g time c).0) × ((span_of g time c).1 ≤ (span_of g time a).1)
unfolding span_of
span-part g time a c inside part =
    let nodes = box_nodes g c in
    let some : 0 < length nodes =
    omega (arith, box_nodes-length g c (part_inside g a c inside part), node_count-some c part.nonempty) in
    let enclosed : All (λ n. ((span_of g time a).0 ≤ time n) × (time n ≤ (span_of g time a).1)) nodes =
    λ k d below. span-node g time a (get_or nodes k d) (box_nodes-below g c k d below)
    (let place = place_of g (get_or nodes k d) in
    held_above a c place.0 place.1 place.2 part (box_nodes-holds g c k d below)) in (
      least-ge time (span_of g time a).0 nodes
          (recursion_from_All (λ n. (span_of g time a).0 ≤ time n) nodes (λ k d below. (enclosed k d below).0)) some,
      greatest-le time (span_of g time a).1 nodes
          (recursion_from_All (λ n. time n ≤ (span_of g time a).1) nodes (λ k d below. (enclosed k d below).1)),
    )

only_one : (nodes : List ℕ) (n : ℕ) → length nodes ≡ 1 → Contains nodes n → nodes ≡ n ∷ []
only_one [] n one at = absurd (omega arith)
only_one (a ∷ []) n one at = elim (first_or_rest a [] n at) [
  | inl is ↦ ap (λ m. m ∷ []) is
  | inr after ↦ absurd (let below : after.0 < 0 = after.1 in omega arith)
]
only_one (a ∷ (b ∷ nodes)) n one at = absurd (omega arith)

-- each range of a single box has one node
record IsOne (a : NodeBox) : Type 0 where
  x : a.x1 - a.x0 ≡ 1
  y : a.y1 - a.y0 ≡ 1
  z : a.z1 - a.z0 ≡ 1

ones : (a : NodeBox) → is_single a ≡ true → IsOne a
ones a single =
    let last = and_parts ((a.x1 - a.x0 == 1) && (a.y1 - a.y0 == 1)) (a.z1 - a.z0 == 1) single in
    let first = and_parts (a.x1 - a.x0 == 1) (a.y1 - a.y0 == 1) last.0 in
    record {
      x = eqb-true (a.x1 - a.x0) 1 first.0;
      y = eqb-true (a.y1 - a.y0) 1 first.1;
      z = eqb-true (a.z1 - a.z0) 1 last.1;
    }

pub single_nodes : (g : GridSize) (a : NodeBox) → IsIn g a → is_single a ≡ true
    → box_nodes g a ≡ node_number g a.x0 a.y0 a.z0 ∷ []
single_nodes g a inside single =
    let one = ones a single in
    let count : node_count_of a ≡ 1 = rw (one.x, one.y, one.z) refl in
    let place : IsInside g a.x0 a.y0 a.z0 = record {
      x = omega (arith, inside.x, inside.x_end);
      y = omega (arith, inside.y, inside.y_end);
      z = omega (arith, inside.z, inside.z_end);
    } in
    let node = node_number g a.x0 a.y0 a.z0 in
    let x : a.x0 < a.x1 = inside.x in
    let y : a.y0 < a.y1 = inside.y in
    let z : a.z0 < a.z1 = inside.z in
    let first : contains a a.x0 a.y0 a.z0 ≡ true = grind (arith, nat_tests) in
    let held : holds g a node ≡ true =
    ap (λ (p : ℕ × ℕ × ℕ). contains a p.0 p.1 p.2) (place_of-number g a.x0 a.y0 a.z0 place) ∙ first in
    only_one (box_nodes g a) node (box_nodes-length g a inside ∙ count)
    (box_nodes-contains g a node (node_number-below g a.x0 a.y0 a.z0 place) held)

pub span-single : (g : GridSize) (time : ℕ → ℕ) (a : NodeBox) → IsIn g a → is_single a ≡ true
    → span_of g time a ≡ (time (node_number g a.x0 a.y0 a.z0), time (node_number g a.x0 a.y0 a.z0))
unfolding span_of
span-single g time a inside single =
    let node = node_number g a.x0 a.y0 a.z0 in
    let low : least (map time (node ∷ [])) ≡ time node = refl in
    let high : greatest (map time (node ∷ [])) ≡ time node = omega arith in
    rw (single_nodes g a inside single, high) refl
