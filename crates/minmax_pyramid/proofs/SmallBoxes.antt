-- The children of a small box are small, and a box that isn't small can be split.
use Rattle.std.proofs.Common.{◌≡◌, ◌∙◌, ap, sym, ℕ, zero, suc, [], ◌∷◌, None, ◌<◌, ◌≤◌, arith, true, false, Some, slice_get, Contains, List, length}
use Rattle.std.proofs.lemmas.Bool.Decides.{nat_tests}
use Rattle.std.proofs.lemmas.Option.{slice_get_within, get_or_from_slice_get}
use Rattle.node_boxes.specs.declared.node_box.NodeBox.{NodeBox}
use Rattle.node_boxes.specs.Boxes.{IsIn, IsNonempty, IsPartOf, IsSplittable, is_single, node_count_of}
use Rattle.node_boxes.specs.Grid.{GridSize}
use Rattle.node_boxes.specs.Children.{children_of}
use Rattle.node_boxes.proofs.OctreeBoxes.{child_part, in_nonempty, part_inside}
use Rattle.node_boxes.proofs.ChildBoxes.{children_smaller}
use Rattle.node_boxes.proofs.Lists.{all-contains}
use Rattle.minmax_pyramid.specs.Inside.Cells.{is_small}

pub small_part : (a c : NodeBox) → IsPartOf a c → is_small a ≡ true → is_small c ≡ true
small_part a c part small =
    let x_from : a.x0 ≤ c.x0 = part.x_from in
    let x_to : c.x1 ≤ a.x1 = part.x_to in
    let y_from : a.y0 ≤ c.y0 = part.y_from in
    let y_to : c.y1 ≤ a.y1 = part.y_to in
    let z_from : a.z0 ≤ c.z0 = part.z_from in
    let z_to : c.z1 ≤ a.z1 = part.z_to in
    grind (arith, nat_tests)

pub large_several : (a : NodeBox) → is_small a ≡ false → is_single a ≡ false
large_several a large = grind (arith, nat_tests)

pub splittable : (a : NodeBox) → IsNonempty a → is_single a ≡ false → IsSplittable a
splittable a some several = record { nonempty = some; several = several }

-- what stands at a place is in the list
pub placed : {X : Type 0} (xs : List X) (k : ℕ) (x : X) → slice_get xs k ≡ Some x → Contains xs x
placed xs k x at = (k, slice_get_within xs k x at, get_or_from_slice_get xs k x x at)

pub part_at : (a c : NodeBox) (k : ℕ) → IsNonempty a → slice_get (children_of a) k ≡ Some c → IsPartOf a c
part_at a c k some at = child_part a c some (placed (children_of a) k c at)

-- nothing stands past the end
pub none_past : {X : Type 0} (xs : List X) (k : ℕ) → slice_get xs k ≡ None → length xs ≤ k
none_past [] k none = omega arith
none_past (x ∷ xs) zero none = absurd (cc)
none_past (x ∷ xs) (suc k) none = omega (arith, none_past xs k none)

-- a child lies in the grid, and has fewer nodes than its parent
pub child_inside : (g : GridSize) (a c : NodeBox) (children : List NodeBox) (k : ℕ) → IsIn g a → children ≡ children_of a
    → slice_get children k ≡ Some c → IsIn g c
child_inside g a c children k inside is at =
    let some = in_nonempty g a inside in
    part_inside g a c inside (part_at a c k some (ap (λ xs. slice_get xs k) (sym is) ∙ at))

pub child_less : (a c : NodeBox) (k : ℕ) → IsNonempty a → is_single a ≡ false → slice_get (children_of a) k ≡ Some c
    → node_count_of c < node_count_of a
child_less a c k some several at =
    all-contains (λ c. node_count_of c < node_count_of a) (children_of a) c
    (children_smaller a (splittable a some several)) (placed (children_of a) k c at)

pub child_smaller : (a c : NodeBox) (children : List NodeBox) (k : ℕ) → IsNonempty a → is_small a ≡ false
    → children ≡ children_of a → slice_get children k ≡ Some c → node_count_of c < node_count_of a
child_smaller a c children k some large is at =
    child_less a c k some (large_several a large) (ap (λ xs. slice_get xs k) (sym is) ∙ at)
