-- The bounds of boxes and the scores of their nodes.
use Rattle.std.proofs.Common.{◌≡◌, ℕ, zero, suc, ◌-◌, ◌*◌, ◌<◌, arith, refl, ap, sym, ◌∙◌, true, List, [], ◌∷◌, length, Contains}
use Rattle.std.proofs.lemmas.Bool.Decides.{nat_tests}
use Rattle.kernel_table.specs.declared.kernels.Shape.{Shape}
use Rattle.node_boxes.specs.declared.node_box.NodeBox.{NodeBox}
use Rattle.node_boxes.specs.declared.node_box.BoxBound.{BoxBound}
use Rattle.node_boxes.specs.Boxes.{IsIn, contains, holds, is_single}
use Rattle.node_boxes.specs.BoxNodes.{box_nodes}
use Rattle.node_boxes.specs.Grid.{GridSize, node_count}
use Rattle.node_boxes.specs.GridOrder.{IsInside, node_number, place_of}
use Rattle.node_boxes.proofs.Nodes.{box_nodes-contains, box_nodes-length}
use Rattle.node_boxes.proofs.Order.{node_number-below, number-place_of, place_of-inside, place_of-number}
use Rattle.edt_score.specs.declared.problem.ProblemPick.{ProblemPick}
use Rattle.edt_score.specs.Bound.{bound_over}
use Rattle.edt_score.specs.Judging.{node_box}
use Rattle.edt_score.specs.Inside.Domination.{bound_over-above, bound_over-one}
use Rattle.cover_checker.specs.Bounding.{AreBounds}
use Rattle.cover_checker.specs.Findings.{corner}
use Rattle.cover_checker.specs.Scorings.{Scoring, scoring_of}

one-only : (xs : List ℕ) (x : ℕ) → length xs ≡ 1 → Contains xs x → xs ≡ x ∷ []
one-only (y ∷ []) x one (zero, below, is) = ap (λ n. n ∷ []) is
one-only (y ∷ []) x one (suc k, below, is) = absurd (omega arith)
one-only [] x one has = absurd (omega arith)
one-only (y ∷ (z ∷ ys)) x one has = absurd (omega arith)

one-node : (a b c : ℕ) → a ≡ 1 → b ≡ 1 → c ≡ 1 → a * (b * c) ≡ 1
one-node a b c p q r = rw (p, q, r) refl

-- a single box that holds a node has no other
single_nodes : (g : GridSize) (a : NodeBox) (node : ℕ) → IsIn g a → node < node_count g → holds g a node ≡ true → is_single a ≡ true → box_nodes g a ≡ node ∷ []
single_nodes g a node inside below held single =
    let x : a.x1 - a.x0 ≡ 1 = grind (arith, nat_tests) in
    let y : a.y1 - a.y0 ≡ 1 = grind (arith, nat_tests) in
    let z : a.z1 - a.z0 ≡ 1 = grind (arith, nat_tests) in
    one-only (box_nodes g a) node (box_nodes-length g a inside ∙ one-node (a.x1 - a.x0) (a.y1 - a.y0) (a.z1 - a.z0) x y z) (box_nodes-contains g a node below held)

pub bounds_are : (shape : Shape) (g : GridSize) (times : ℕ → ℕ → ℕ) (picks : List ProblemPick) → AreBounds (scoring_of shape g times picks)
bounds_are shape g times picks = record {
  above = λ a node inside below held. bound_over-above shape times picks (box_nodes g a) node (box_nodes-contains g a node below held);
  single = λ a node inside below held alone.
      ap (bound_over shape times picks) (single_nodes g a node inside below held alone) ∙ bound_over-one shape times picks node;
}

-- the box of a node
pub node_box_inside : (g : GridSize) (node : ℕ) → node < node_count g → IsIn g (node_box g node)
node_box_inside g node below =
    let place = place_of-inside g node below in
    record {
      x = omega arith;
      x_end = omega (arith, place.x);
      y = omega arith;
      y_end = omega (arith, place.y);
      z = omega arith;
      z_end = omega (arith, place.z);
    }

node_box_holds : (g : GridSize) (node : ℕ) → holds g (node_box g node) node ≡ true
node_box_holds g node = grind (arith, nat_tests)

node_box_single : (g : GridSize) (node : ℕ) → is_single (node_box g node) ≡ true
node_box_single g node = grind (arith, nat_tests)

pub node_box_score : (s : Scoring) → AreBounds s → (node : ℕ) → node < node_count s.grid → s.bound (node_box s.grid node) ≡ s.score node
node_box_score s bounds node below =
    bounds.single (node_box s.grid node) node (node_box_inside s.grid node below) below (node_box_holds s.grid node) (node_box_single s.grid node)

-- the first node of a box
corner_inside : (g : GridSize) (a : NodeBox) → IsIn g a → IsInside g a.x0 a.y0 a.z0
corner_inside g a inside = record {
  x = omega (arith, inside.x, inside.x_end);
  y = omega (arith, inside.y, inside.y_end);
  z = omega (arith, inside.z, inside.z_end);
}

pub corner_below : (g : GridSize) (b : BoxBound) → IsIn g b.area → corner g b < node_count g
corner_below g b inside = node_number-below g b.area.x0 b.area.y0 b.area.z0 (corner_inside g b.area inside)

corner_contained : (a : NodeBox) → a.x0 < a.x1 → a.y0 < a.y1 → a.z0 < a.z1 → contains a a.x0 a.y0 a.z0 ≡ true
corner_contained a x y z = grind (arith, nat_tests)

pub corner_held : (g : GridSize) (b : BoxBound) → IsIn g b.area → holds g b.area (corner g b) ≡ true
corner_held g b inside =
    ap (λ (place : ℕ × ℕ × ℕ). contains b.area place.0 place.1 place.2) (place_of-number g b.area.x0 b.area.y0 b.area.z0 (corner_inside g b.area inside))
    ∙ corner_contained b.area inside.x inside.y inside.z

-- a single box holds no node but its first
pub corner_only : (g : GridSize) (b : BoxBound) (node : ℕ) → is_single b.area ≡ true → holds g b.area node ≡ true → node ≡ corner g b
corner_only g b node single held =
    let place = place_of g node in
    let x : place.0 ≡ b.area.x0 = grind (arith, nat_tests) in
    let y : place.1 ≡ b.area.y0 = grind (arith, nat_tests) in
    let z : place.2 ≡ b.area.z0 = grind (arith, nat_tests) in
    sym (number-place_of g node) ∙ ap (λ (ix : ℕ). node_number g ix place.1 place.2) x ∙ ap (λ (iy : ℕ). node_number g b.area.x0 iy place.2) y
    ∙ ap (λ (iz : ℕ). node_number g b.area.x0 b.area.y0 iz) z

-- so the bound of a single box is the score of that node
pub corner_score : (s : Scoring) → AreBounds s → (b : BoxBound) → IsIn s.grid b.area → is_single b.area ≡ true → s.bound b.area ≡ s.score (corner s.grid b)
corner_score s bounds b inside single =
    bounds.single b.area (corner s.grid b) inside (corner_below s.grid b inside) (corner_held s.grid b inside) single

pub node_box_one : (g : GridSize) (node : ℕ) → node < node_count g → length (box_nodes g (node_box g node)) ≡ 1
node_box_one g node below = ap length (single_nodes g (node_box g node) node (node_box_inside g node below) below (node_box_holds g node) (node_box_single g node))
