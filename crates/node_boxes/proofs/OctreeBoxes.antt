-- Octree boxes lie in the grid, and the boxes of an octree cover hold each node once.
use Rattle.std.proofs.Common.{◌≡◌, ℕ, ◌+◌, ◌≤◌, arith, List, ◌++◌, length, refl, ap, sym, ◌∙◌, cond, sum_by, Contains}
use Rattle.std.specs.List.{AllByRecursion}
use Rattle.std.proofs.lemmas.List.Sums.{sum_by-cons, sum_by-append}
use Rattle.node_boxes.specs.declared.node_box.NodeBox.{NodeBox}
use Rattle.node_boxes.specs.Grid.{GridSize, node_count}
use Rattle.node_boxes.specs.GridOrder.{IsInside}
use Rattle.node_boxes.specs.Boxes.{IsIn, IsNonempty, IsPartOf, contains, node_count_of}
use Rattle.node_boxes.specs.Children.{children_of}
use Rattle.node_boxes.specs.Roots.{AreRoots, holders}
use Rattle.node_boxes.specs.Octree.{IsOctreeBox, Root, Child, IsOctreeCover, Done, Keep, Open}
use Rattle.node_boxes.proofs.Lists.{all-append, all-contains, all-weaker, length-le-sum_by}
use Rattle.node_boxes.proofs.ChildBoxes.{children_parts, children_once, children_nodes, node_count-some}

pub in_nonempty : (g : GridSize) (a : NodeBox) → IsIn g a → IsNonempty a
in_nonempty g a inside = record { x = inside.x; y = inside.y; z = inside.z }

-- a part of a box in the grid is in the grid
pub part_inside : (g : GridSize) (a c : NodeBox) → IsIn g a → IsPartOf a c → IsIn g c
part_inside g a c inside part = record {
  x = part.nonempty.x;
  x_end = omega (arith, part.x_to, inside.x_end);
  y = part.nonempty.y;
  y_end = omega (arith, part.y_to, inside.y_end);
  z = part.nonempty.z;
  z_end = omega (arith, part.z_to, inside.z_end);
}

pub child_part : (a c : NodeBox) → IsNonempty a → Contains (children_of a) c → IsPartOf a c
child_part a c some at = all-contains (IsPartOf a) (children_of a) c (children_parts a some) at

pub octree_inside : (g : GridSize) (roots : List NodeBox) (a : NodeBox) → AreRoots g roots
    → IsOctreeBox roots a → IsIn g a
octree_inside g roots a are (Root a' at) = all-contains (IsIn g) roots a are.inside at
octree_inside g roots b are (Child a b' tree several at) =
    let inside = octree_inside g roots a are tree in
    part_inside g a b inside (child_part a b (in_nonempty g a inside) at)

children_nonempty : (a : NodeBox) → IsNonempty a → AllByRecursion IsNonempty (children_of a)
children_nonempty a some =
    all-weaker (IsPartOf a) IsNonempty (λ c part. part.nonempty) (children_of a) (children_parts a some)

-- a number of boxes that adds up over the children adds up over an octree cover
pub cover_sum : (f : NodeBox → ℕ) → ((a : NodeBox) → IsNonempty a → sum_by f (children_of a) ≡ f a)
    → (boxes leaves : List NodeBox) → IsOctreeCover boxes leaves → AllByRecursion IsNonempty boxes
    → sum_by f leaves ≡ sum_by f boxes
cover_sum f adds boxes leaves Done some = refl
cover_sum f adds boxes leaves (Keep a rest others cover) (here, some) =
    sum_by-cons f a others ∙ ap (λ n. f a + n) (cover_sum f adds rest others cover some)
    ∙ sym (sum_by-cons f a rest)
cover_sum f adds boxes leaves (Open a rest others several cover) (here, some) =
    cover_sum f adds (children_of a ++ rest) others cover
    (all-append IsNonempty (children_of a) rest (children_nonempty a here) some)
    ∙ sum_by-append f (children_of a) rest ∙ ap (λ n. n + sum_by f rest) (adds a here)
    ∙ sym (sum_by-cons f a rest)

pub cover_nonempty : (boxes leaves : List NodeBox) → IsOctreeCover boxes leaves
    → AllByRecursion IsNonempty boxes → AllByRecursion IsNonempty leaves
cover_nonempty boxes leaves Done some = tt
cover_nonempty boxes leaves (Keep a rest others cover) (here, some) =
    (here, cover_nonempty rest others cover some)
cover_nonempty boxes leaves (Open a rest others several cover) (here, some) =
    cover_nonempty (children_of a ++ rest) others cover
    (all-append IsNonempty (children_of a) rest (children_nonempty a here) some)

roots_nonempty : (g : GridSize) (roots : List NodeBox) → AreRoots g roots → AllByRecursion IsNonempty roots
roots_nonempty g roots are = all-weaker (IsIn g) IsNonempty (in_nonempty g) roots are.inside

pub cover_once : (g : GridSize) (roots leaves : List NodeBox) (ix iy iz : ℕ) → AreRoots g roots
    → IsOctreeCover roots leaves → IsInside g ix iy iz → holders ix iy iz leaves ≡ 1
cover_once g roots leaves ix iy iz are cover inside =
    cover_sum (λ c. cond (contains c ix iy iz) 1 0) (λ a some. children_once a ix iy iz some)
    roots leaves cover (roots_nonempty g roots are)
    ∙ are.once ix iy iz inside

pub cover_few : (g : GridSize) (roots leaves : List NodeBox) → AreRoots g roots
    → IsOctreeCover roots leaves → length leaves ≤ node_count g
cover_few g roots leaves are cover =
    let some = roots_nonempty g roots are in
    omega (
      arith,
      cover_sum node_count_of children_nodes roots leaves cover some,
      are.nodes,
      length-le-sum_by node_count_of leaves
          (all-weaker IsNonempty (λ c. 1 ≤ node_count_of c) node_count-some leaves
          (cover_nonempty roots leaves cover some)),
    )
