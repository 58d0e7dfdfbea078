-- Ways down an octree, and lists that are filled place by place.
use Rattle.std.proofs.Common.{◌≡◌, ◌∙◌, inl, inr, ap, sym, refl, subst, ℕ, zero, suc, ◌+◌, ◌<◌, ◌≤◌, arith, List, [], ◌∷◌, ◌++◌, length, get_or, set, take, slice_get, Some}
use Rattle.std.proofs.lemmas.List.{take_more, take_more_set, take_all, length-set}
use Rattle.std.proofs.lemmas.Option.{slice_get_within, slice_get-get_or, get_or_from_slice_get, same_Some}
use Rattle.std.proofs.lemmas.Bool.{cases_lt}
use Rattle.node_boxes.specs.declared.node_box.NodeBox.{NodeBox}
use Rattle.node_boxes.specs.Grid.{GridSize}
use Rattle.node_boxes.specs.Boxes.{IsIn, IsNonempty, IsSplittable}
use Rattle.node_boxes.specs.Children.{children_of}
use Rattle.node_boxes.specs.Octree.{IsOctreeBox, Child}
use Rattle.node_boxes.proofs.ChildBoxes.{children_count}
use Rattle.node_boxes.proofs.OctreeBoxes.{part_inside}
use Rattle.minmax_pyramid.specs.Families.{IsWay}
use Rattle.minmax_pyramid.proofs.SmallBoxes.{part_at, placed}

-- one more step at the end
pub way_more : (a : NodeBox) (places : List ℕ) (b c : NodeBox) (place : ℕ) → IsWay a places b → IsSplittable b
    → slice_get (children_of b) place ≡ Some c → IsWay a (places ++ place ∷ []) c
way_more a [] b c place is split at = subst (λ n. IsWay n (place ∷ []) c) (sym is) (c, split, at, refl)
way_more a (k ∷ places) b c place (d, first, there, way) split at =
    (d, first, there, way_more d places b c place way split at)

-- a way from a box in the grid ends in the grid
pub way_inside : (g : GridSize) (a : NodeBox) (places : List ℕ) (b : NodeBox) → IsIn g a → IsWay a places b → IsIn g b
way_inside g a [] b inside is = subst (IsIn g) is inside
way_inside g a (k ∷ places) b inside (d, split, there, way) =
    way_inside g d places b (part_inside g a d inside (part_at a d k split.nonempty there)) way

-- a way from an octree box ends at an octree box
pub way_octree : (roots : List NodeBox) (a : NodeBox) (places : List ℕ) (b : NodeBox) → IsOctreeBox roots a
    → IsWay a places b → IsOctreeBox roots b
way_octree roots a [] b tree is = subst (IsOctreeBox roots) is tree
way_octree roots a (k ∷ places) b tree (d, split, there, way) =
    way_octree roots d places b (Child a d tree split.several (placed (children_of a) k d there)) way

-- a search has come down to a box after some steps
pub record IsGoing (roots : List NodeBox) (root len : ℕ) (places : List ℕ) (here : NodeBox) : Type 0 where
  pub long : length places ≡ 16
  pub some : IsNonempty here
  pub down : (d : NodeBox) → IsWay (get_or roots root d) (take len places) here

pub going_more : (roots : List NodeBox) (root len : ℕ) (places : List ℕ) (here c : NodeBox) (place : ℕ) → len < 16
    → IsSplittable here → slice_get (children_of here) place ≡ Some c → IsGoing roots root len places here
    → IsGoing roots root (len + 1) (set places len place) c
going_more roots root len places here c place below split at going = record {
  long = length-set places len place ∙ going.long;
  some = (part_at here c place split.nonempty at).nonempty;
  down = λ d.
      let within : len < length places = omega (arith, going.long) in
      rw (take_more_set places len place within)
      (way_more (get_or roots root d) (take len places) here c place (going.down d) split at);
}

-- the first boxes of a list stand first in another of eight
pub record IsCopying (boxes : List NodeBox) (copy : List NodeBox) (place : ℕ) : Type 0 where
  pub room : length copy ≡ 8
  pub first : take place copy ≡ take place boxes

pub copying_more : (boxes copy : List NodeBox) (place : ℕ) (c : NodeBox) → place < 8 → slice_get boxes place ≡ Some c
    → IsCopying boxes copy place → IsCopying boxes (set copy place c) (place + 1)
copying_more boxes copy place c few at copying =
    let within = slice_get_within boxes place c at in
    let is : get_or boxes place c ≡ c = get_or_from_slice_get boxes place c c at in
    let room : place < length copy = omega (arith, copying.room) in
    record {
      room = length-set copy place c ∙ copying.room;
      first = take_more_set copy place c room ∙ ap (λ xs. xs ++ c ∷ []) copying.first
          ∙ sym (take_more boxes place c within ∙ ap (λ n. take place boxes ++ n ∷ []) is);
    }

pub copying_end : (boxes copy : List NodeBox) (place count : ℕ) → length boxes ≤ place → place ≤ count
    → count ≡ length boxes → IsCopying boxes copy place → take count copy ≡ boxes
copying_end boxes copy place count end upto all copying =
    let same : count ≡ place = omega arith in
    ap (λ n. take n copy) same ∙ copying.first ∙ take_all place boxes end

set_here : {X : Type 0} (xs : List X) (i : ℕ) (x : X) → i < length xs → slice_get (set xs i x) i ≡ Some x
set_here [] i x below = absurd (omega arith)
set_here (y ∷ xs) zero x below = refl
set_here (y ∷ xs) (suc i) x below = set_here xs i x (omega arith)

set_there : {X : Type 0} (xs : List X) (i k : ℕ) (x : X) → k < i → slice_get (set xs i x) k ≡ slice_get xs k
set_there [] i k x other = refl
set_there (y ∷ xs) zero k x other = absurd (omega arith)
set_there (y ∷ xs) (suc i) zero x other = refl
set_there (y ∷ xs) (suc i) (suc k) x other = set_there xs i k x (omega arith)

-- a list has the values of the first boxes of another at their places
pub record IsFilled {X : Type 0} (f : NodeBox → X) (boxes : List NodeBox) (xs : List X) (place : ℕ) : Type 0 where
  pub long : length xs ≡ 8
  pub filled : (k : ℕ) (c : NodeBox) → k < place → slice_get boxes k ≡ Some c → slice_get xs k ≡ Some (f c)

filled_at : {X : Type 0} (f : NodeBox → X) (boxes : List NodeBox) (xs : List X) (place k : ℕ) (a c : NodeBox) (x : X)
    → slice_get boxes place ≡ Some a → x ≡ f a → place < 8 → IsFilled f boxes xs place → k < place + 1
    → slice_get boxes k ≡ Some c → slice_get (set xs place x) k ≡ Some (f c)
filled_at f boxes xs place k a c x at is few filled below at_k = elim (cases_lt k place) [
  | inl before ↦ set_there xs place k x before ∙ filled.filled k c before at_k
  | inr past ↦
      let here : place ≡ k = omega arith in
      let same : a ≡ c = same_Some a c (sym at ∙ ap (slice_get boxes) here ∙ at_k) in
      let room : place < length xs = omega (arith, filled.long) in
      ap (slice_get (set xs place x)) (sym here) ∙ set_here xs place x room ∙ ap Some (is ∙ ap f same)
]

pub filled_more : {X : Type 0} (f : NodeBox → X) (boxes : List NodeBox) (xs : List X) (place : ℕ) (a : NodeBox) (x : X)
    → slice_get boxes place ≡ Some a → x ≡ f a → place < 8 → IsFilled f boxes xs place
    → IsFilled f boxes (set xs place x) (place + 1)
filled_more f boxes xs place a x at is few filled = record {
  long = length-set xs place x ∙ filled.long;
  filled = λ k c below at_k. filled_at f boxes xs place k a c x at is few filled below at_k;
}

pub filled_end : {X : Type 0} (f : NodeBox → X) (boxes : List NodeBox) (xs : List X) (place : ℕ) → length boxes ≤ place
    → IsFilled f boxes xs place → (k : ℕ) (c : NodeBox) → slice_get boxes k ≡ Some c → slice_get xs k ≡ Some (f c)
filled_end f boxes xs place end filled k c at =
    filled.filled k c (omega (arith, slice_get_within boxes k c at)) at

-- what stands for a box past the end of a list
abbrev pub no_box : NodeBox
no_box = record { x0 = 0; x1 = 0; y0 = 0; y1 = 0; z0 = 0; z1 = 0 }

pub child_read : (parent : NodeBox) (children : List NodeBox) (place : ℕ) → children ≡ children_of parent
    → place < length children → slice_get (children_of parent) place ≡ Some (get_or children place no_box)
child_read parent children place is below =
    ap (λ xs. slice_get xs place) (sym is) ∙ slice_get-get_or children place no_box below

pub children_few : (parent : NodeBox) (children : List NodeBox) → children ≡ children_of parent → IsSplittable parent
    → length children ≤ 8
children_few parent children is split = omega (arith, ap length is, (children_count parent split).1)
