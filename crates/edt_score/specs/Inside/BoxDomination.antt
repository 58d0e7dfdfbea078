-- The bound of a box is no less than those of its children and than the scores of its nodes, and that
-- of a single box is the score of its node.
use Rattle.std.specs.Prelude.{◌≡◌, ℕ, List, [], ◌∷◌, ◌+◌, ◌-◌, ◌*◌, ◌<◌, ◌≤◌, true, length, Contains}
use Rattle.std.proofs.Common.{zero, suc, arith, refl, ap, ◌∙◌, get_or}
use Rattle.std.proofs.lemmas.Bool.Decides.{nat_tests}
use Rattle.kernel_table.specs.declared.kernels.Shape.{Shape}
use Rattle.node_boxes.specs.declared.node_box.NodeBox.{NodeBox}
use Rattle.node_boxes.specs.Boxes.{IsIn, IsPartOf, contains, holds}
use Rattle.node_boxes.specs.BoxNodes.{box_nodes}
use Rattle.node_boxes.specs.Children.{children_of}
use Rattle.node_boxes.specs.Grid.{GridSize, node_count}
use Rattle.node_boxes.specs.GridOrder.{place_of}
use Rattle.node_boxes.proofs.ChildBoxes.{children_parts, node_count-some}
use Rattle.node_boxes.proofs.Lists.{all-weaker}
use Rattle.node_boxes.proofs.Nodes.{box_nodes-below, box_nodes-contains, box_nodes-holds, box_nodes-length}
use Rattle.node_boxes.proofs.OctreeBoxes.{in_nonempty, part_inside}
use Rattle.node_boxes.proofs.Order.{place_of-inside}
use Rattle.edt_score.specs.declared.problem.ProblemPick.{ProblemPick}
use Rattle.edt_score.specs.Bound.{IsPart, bound_over}
use Rattle.edt_score.specs.BoxBound.{box_bound}
use Rattle.edt_score.specs.Field.{FieldTimes, time_at}
use Rattle.edt_score.specs.Judging.{BoundsFall, node_box}
use Rattle.edt_score.specs.Score.{score_of}
use Rattle.edt_score.specs.Inside.Domination.{bound_over-one, bound_over-part}

-- a wider box holds each place of a box
contains-wider : (a c : NodeBox) (ix iy iz : ℕ) → IsPartOf a c → contains c ix iy iz ≡ true → contains a ix iy iz ≡ true
contains-wider a c ix iy iz part has =
    let x_from = part.x_from in
    let x_to = part.x_to in
    let y_from = part.y_from in
    let y_to = part.y_to in
    let z_from = part.z_from in
    let z_to = part.z_to in
    grind (arith, nat_tests, has)

-- the nodes of a box in another are a part of the other's
pub nodes-part : (g : GridSize) (a c : NodeBox) → IsIn g a → IsPartOf a c → IsPart (box_nodes g c) (box_nodes g a)
nodes-part g a c inside part =
    let long = box_nodes-length g c (part_inside g a c inside part) in
    let some = node_count-some c part.nonempty in
    record {
      some = omega arith;
      within = λ node (k, below, is).
          let here : get_or (box_nodes g c) k node ≡ node = is in
          let in_grid : get_or (box_nodes g c) k node < node_count g = box_nodes-below g c k node below in
          let held : holds g c (get_or (box_nodes g c) k node) ≡ true = box_nodes-holds g c k node below in
          box_nodes-contains g a node (rw here at in_grid)
          (contains-wider a c (place_of g node).0 (place_of g node).1 (place_of g node).2 part (rw here at held));
    }

-- so no child has a greater bound
pub box_bounds-fall : (shape : Shape) (field : FieldTimes) (picks : List ProblemPick) (roots : List NodeBox)
    → BoundsFall field.grid roots (box_bound shape field picks)
box_bounds-fall shape field picks roots a inside tree several =
    all-weaker (IsPartOf a) (λ c. box_bound shape field picks c ≤ box_bound shape field picks a)
    (λ c part. bound_over-part shape (time_at field) picks (box_nodes field.grid c) (box_nodes field.grid a) (nodes-part field.grid a c inside part))
    (children_of a) (children_parts a (in_nonempty field.grid a inside))

-- the box of a node holds it
node_box-holds : (g : GridSize) (node : ℕ) → holds g (node_box g node) node ≡ true
node_box-holds g node = grind (arith, nat_tests)

node_box-inside : (g : GridSize) (node : ℕ) → node < node_count g → IsIn g (node_box g node)
node_box-inside g node below =
    let place = place_of-inside g node below in
    record {
      x = omega arith;
      x_end = omega (arith, place.x);
      y = omega arith;
      y_end = omega (arith, place.y);
      z = omega arith;
      z_end = omega (arith, place.z);
    }

one-only : (xs : List ℕ) (x : ℕ) → length xs ≡ 1 → Contains xs x → xs ≡ x ∷ []
one-only (y ∷ []) x one (zero, below, is) = ap (λ n. n ∷ []) is
one-only (y ∷ []) x one (suc k, below, is) = absurd (omega arith)
one-only [] x one has = absurd (omega arith)
one-only (y ∷ (z ∷ ys)) x one has = absurd (omega arith)

one-node : (a b c : ℕ) → a ≡ 1 → b ≡ 1 → c ≡ 1 → a * (b * c) ≡ 1
one-node a b c p q r = rw (p, q, r) refl

node_box-nodes : (g : GridSize) (node : ℕ) → node < node_count g → box_nodes g (node_box g node) ≡ node ∷ []
node_box-nodes g node below =
    let inside = node_box-inside g node below in
    let place = place_of g node in
    let one : length (box_nodes g (node_box g node)) ≡ 1 = box_nodes-length g (node_box g node) inside ∙ one-node (place.0 + 1 - place.0) (place.1 + 1 - place.1) (place.2 + 1 - place.2) (omega arith) (omega arith) (omega arith) in
    one-only (box_nodes g (node_box g node)) node one (box_nodes-contains g (node_box g node) node below (node_box-holds g node))

-- so the bound of the box of a node is its score
pub box_bound-node : (shape : Shape) (field : FieldTimes) (picks : List ProblemPick) (node : ℕ) → node < node_count field.grid
    → box_bound shape field picks (node_box field.grid node) ≡ score_of shape (time_at field) picks node
box_bound-node shape field picks node below =
    ap (bound_over shape (time_at field) picks) (node_box-nodes field.grid node below) ∙ bound_over-one shape (time_at field) picks node
