-- The octree boxes below a root, and which child or root one lies below.
use Rattle.std.proofs.Common.{◌≡◌, ◌∙◌, inl, inr, ap, sym, refl, subst, ℕ, ◌+◌, ◌<◌, ◌≤◌, arith, List, [], ◌∷◌, ◌++◌, length, get_or, take, slice_get, Some, None, Option, IsSome, is_some, Bool, true, false, cond, sum_by, Contains}
use Rattle.std.proofs.lemmas.Bool.{both_ways}
use Rattle.std.proofs.lemmas.Bool.Decides.{nat_tests}
use Rattle.std.proofs.lemmas.List.{take_more, take_all}
use Rattle.std.proofs.lemmas.List.Sums.{sum_by-cons, sum_by_push}
use Rattle.std.proofs.lemmas.Option.{slice_get_within, get_or_from_slice_get, none-some}
use Rattle.node_boxes.specs.declared.node_box.NodeBox.{NodeBox}
use Rattle.node_boxes.specs.Grid.{GridSize}
use Rattle.node_boxes.specs.Boxes.{IsIn, IsNonempty, IsPartOf, contains, is_single}
use Rattle.node_boxes.specs.Children.{children_of}
use Rattle.node_boxes.specs.Roots.{AreRoots, holders}
use Rattle.node_boxes.specs.Octree.{IsOctreeBox, Root, Child}
use Rattle.node_boxes.proofs.Lists.{first_or_rest, all-contains}
use Rattle.node_boxes.proofs.ChildBoxes.{children_once}
use Rattle.node_boxes.proofs.OctreeBoxes.{child_part, in_nonempty, octree_inside}
use Rattle.minmax_pyramid.specs.Inside.Below.{IsBelow, Here, Down}

part_itself : (a : NodeBox) → IsNonempty a → IsPartOf a a
part_itself a some = record {
  nonempty = some;
  x_from = omega arith;
  x_to = omega arith;
  y_from = omega arith;
  y_to = omega arith;
  z_from = omega arith;
  z_to = omega arith;
}

part_part : (a b c : NodeBox) → IsPartOf a b → IsPartOf b c → IsPartOf a c
part_part a b c first second = record {
  nonempty = second.nonempty;
  x_from = omega (arith, first.x_from, second.x_from);
  x_to = omega (arith, first.x_to, second.x_to);
  y_from = omega (arith, first.y_from, second.y_from);
  y_to = omega (arith, first.y_to, second.y_to);
  z_from = omega (arith, first.z_from, second.z_from);
  z_to = omega (arith, first.z_to, second.z_to);
}

pub below_part : (b a : NodeBox) → IsNonempty a → IsBelow b a → IsPartOf a b
below_part b a some Here = part_itself a some
below_part b a some (Down a' c several at below) =
    let part = child_part a c some at in
    part_part a c b part (below_part b c part.nonempty below)

-- a box holds the first node of each part
pub first_held : (a b : NodeBox) → IsPartOf a b → contains a b.x0 b.y0 b.z0 ≡ true
first_held a b part =
    let x : b.x0 < b.x1 = part.nonempty.x in
    let y : b.y0 < b.y1 = part.nonempty.y in
    let z : b.z0 < b.z1 = part.nonempty.z in
    let x_from : a.x0 ≤ b.x0 = part.x_from in
    let x_to : b.x1 ≤ a.x1 = part.x_to in
    let y_from : a.y0 ≤ b.y0 = part.y_from in
    let y_to : b.y1 ≤ a.y1 = part.y_to in
    let z_from : a.z0 ≤ b.z0 = part.z_from in
    let z_to : b.z1 ≤ a.z1 = part.z_to in
    grind (arith, nat_tests)

bit : Bool → ℕ
bit b = cond b 1 0

one_counts : (q : NodeBox → Bool) (c : NodeBox) → q c ≡ true → cond {A = ℕ} (q c) 1 0 ≡ 1
one_counts q c is = rw is refl

counts : (q : NodeBox → Bool) (xs : List NodeBox) (c : NodeBox) → Contains xs c → q c ≡ true
    → 1 ≤ sum_by (λ a. cond {A = ℕ} (q a) 1 0) xs
counts q [] c (k, below, is) passes = absurd (omega arith)
counts q (a ∷ xs) c at passes = elim (first_or_rest a xs c at) [
  | inl is ↦
      let here : q a ≡ true = ap q is ∙ passes in
      omega (arith, sum_by-cons (λ a. cond {A = ℕ} (q a) 1 0) a xs, one_counts q a here)
  | inr after ↦ omega (arith, sum_by-cons (λ a. cond {A = ℕ} (q a) 1 0) a xs, counts q xs c after passes)
]

-- of a list in which at most one passes, two that pass are one
pub only : (q : NodeBox → Bool) (xs : List NodeBox) (c d : NodeBox) → sum_by (λ a. cond {A = ℕ} (q a) 1 0) xs ≤ 1
    → Contains xs c → Contains xs d → q c ≡ true → q d ≡ true → c ≡ d
only q [] c d few (k, below, is) at_d yes_c yes_d = absurd (omega arith)
only q (a ∷ xs) c d few at_c at_d yes_c yes_d =
    let all = sum_by-cons (λ a. cond {A = ℕ} (q a) 1 0) a xs in
    elim (first_or_rest a xs c at_c) [
      | inl is_c ↦ elim (first_or_rest a xs d at_d) [
        | inl is_d ↦ sym is_c ∙ is_d
        | inr after_d ↦ absurd (omega (arith, all, one_counts q a (ap q is_c ∙ yes_c), counts q xs d after_d yes_d))
      ]
      | inr after_c ↦ elim (first_or_rest a xs d at_d) [
        | inl is_d ↦ absurd (omega (arith, all, one_counts q a (ap q is_d ∙ yes_d), counts q xs c after_c yes_c))
        | inr after_d ↦ only q xs c d (omega (arith, all)) after_c after_d yes_c yes_d
      ]
    ]

cond_few : (b : Bool) → cond {A = ℕ} b 1 0 ≤ 1
cond_few true = omega arith
cond_few false = omega arith

-- the child that holds the first node of a box below is the one that the box lies below
pub below_child : (a b c : NodeBox) → IsNonempty a → Contains (children_of a) c → contains c b.x0 b.y0 b.z0 ≡ true
    → (a ≡ b → ⊥) → IsBelow b a → IsBelow b c
below_child a b c some at held apart Here = absurd (apart refl)
below_child a b c some at held apart (Down a' d several at_d below) =
    let part = child_part a d some at_d in
    let first = first_held d b (below_part b d part.nonempty below) in
    let few : holders b.x0 b.y0 b.z0 (children_of a) ≤ 1 = omega (arith, children_once a b.x0 b.y0 b.z0 some, cond_few (contains a b.x0 b.y0 b.z0)) in
    subst (IsBelow b) (only (λ e. contains e b.x0 b.y0 b.z0) (children_of a) d c few at_d at first held) below

-- where no child holds it, the box isn't below
pub below_none : (a b : NodeBox) → IsNonempty a → holders b.x0 b.y0 b.z0 (children_of a) ≡ 0
    → (a ≡ b → ⊥) → IsBelow b a → ⊥
below_none a b some none apart Here = apart refl
below_none a b some none apart (Down a' d several at_d below) =
    let part = child_part a d some at_d in
    let first = first_held d b (below_part b d part.nonempty below) in
    omega (arith, counts (λ e. contains e b.x0 b.y0 b.z0) (children_of a) d at_d first)

pub below_octree : (roots : List NodeBox) (b a : NodeBox) → IsOctreeBox roots a → IsBelow b a → IsOctreeBox roots b
below_octree roots b a tree Here = tree
below_octree roots b a tree (Down a' c several at below) =
    below_octree roots b c (Child a c tree several at) below

child_below : (a r b : NodeBox) → IsBelow a r → is_single a ≡ false → Contains (children_of a) b → IsBelow b r
child_below a r b Here several at = Down a b several at Here
child_below a r b (Down r' c more at_c below) several at = Down r c more at_c (child_below a c b below several at)

-- an octree box lies below a root
pub octree_below : (roots : List NodeBox) (b : NodeBox) → IsOctreeBox roots b
    → (r : NodeBox) × Contains roots r × IsBelow b r
octree_below roots b (Root a at) = (b, at, Here)
octree_below roots b (Child a b' tree several at) =
    let up = octree_below roots a tree in
    (up.0, up.1, child_below a up.0 b up.2 several at)

rooted : (g : GridSize) (roots : List NodeBox) (b : NodeBox) → AreRoots g roots → IsOctreeBox roots b
    → (r : NodeBox) × Contains roots r × IsBelow b r × (contains r b.x0 b.y0 b.z0 ≡ true)
rooted g roots b are tree =
    let up = octree_below roots b tree in
    let some = in_nonempty g up.0 (all-contains (IsIn g) roots up.0 are.inside up.1) in
    (up.0, up.1, up.2, first_held up.0 b (below_part b up.0 some up.2))

-- no root holds the first node of the box, so it is no octree box
pub unrooted : (g : GridSize) (roots : List NodeBox) (b : NodeBox) → AreRoots g roots
    → holders b.x0 b.y0 b.z0 roots ≡ 0 → IsOctreeBox roots b → ⊥
unrooted g roots b are none tree =
    let up = rooted g roots b are tree in
    omega (arith, counts (λ e. contains e b.x0 b.y0 b.z0) roots up.0 up.1 up.3)

-- an octree box lies below the root that holds its first node
pub below_root : (g : GridSize) (roots : List NodeBox) (b r : NodeBox) → AreRoots g roots → Contains roots r
    → contains r b.x0 b.y0 b.z0 ≡ true → IsOctreeBox roots b → IsBelow b r
below_root g roots b r are at held tree =
    let up = rooted g roots b are tree in
    let inside = octree_inside g roots b are tree in
    let once = are.once b.x0 b.y0 b.z0 (record {
      x = omega (arith, inside.x, inside.x_end);
      y = omega (arith, inside.y, inside.y_end);
      z = omega (arith, inside.z, inside.z_end);
    }) in
    subst (IsBelow b) (only (λ e. contains e b.x0 b.y0 b.z0) roots up.0 r (omega (arith, once)) up.1 at up.3 held) up.2

-- one more box that doesn't hold the place
pub holders_more : (ix iy iz : ℕ) (xs : List NodeBox) (k : ℕ) (c : NodeBox) → slice_get xs k ≡ Some c
    → contains c ix iy iz ≡ false → holders ix iy iz (take k xs) ≡ 0 → holders ix iy iz (take (k + 1) xs) ≡ 0
holders_more ix iy iz xs k c at out none =
    let within = slice_get_within xs k c at in
    let is : get_or xs k c ≡ c = get_or_from_slice_get xs k c c at in
    let more : take (k + 1) xs ≡ take k xs ++ c ∷ [] =
    take_more xs k c within ∙ ap (λ n. take k xs ++ n ∷ []) is in
    let zero' : cond {A = ℕ} (contains c ix iy iz) 1 0 ≡ 0 = rw out refl in
    rw more (omega (arith, sum_by_push (λ a. cond {A = ℕ} (contains a ix iy iz) 1 0) (take k xs) c))

pub holders_none : (ix iy iz : ℕ) (xs : List NodeBox) (k : ℕ) → length xs ≤ k → holders ix iy iz (take k xs) ≡ 0
    → holders ix iy iz xs ≡ 0
holders_none ix iy iz xs k end none = rw (take_all k xs end) at none

pub none_empty : {X : Type 0} (o : Option X) → o ≡ None → IsSome o → ⊥
none_empty {X = X} None is some = both_ways (is_some {T = X} None) refl some
none_empty {X = X} (Some x) is some = none-some x (sym is)
