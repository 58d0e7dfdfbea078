-- The cover, read off the boxes that were met.
use Rattle.std.proofs.Common.{◌≡◌, ℕ, zero, suc, ◌+◌, ◌≤◌, ◌<◌, arith, true, false, List, [], ◌∷◌, ◌++◌, length, map, take, drop, get_or, refl, ap, sym, ◌∙◌, subst, Some, None, All}
use Rattle.std.specs.Prelude.{MatchOption}
use Rattle.std.proofs.lemmas.Grind.{flat_map-append}
use Rattle.std.proofs.lemmas.List.{append-nil, append_assoc, length-drop, length-map, length-take, get_or-drop, get_or-take, map-append, take_all, take_more}
use Rattle.std.proofs.lemmas.List.Elements.{All-from_recursion}
use Rattle.node_boxes.specs.declared.node_box.NodeBox.{NodeBox}
use Rattle.node_boxes.specs.declared.node_box.BoxBound.{BoxBound}
use Rattle.node_boxes.specs.Boxes.{IsSplittable, is_single, node_count_of}
use Rattle.node_boxes.specs.Children.{children_of}
use Rattle.node_boxes.proofs.ChildBoxes.{children_smaller}
use Rattle.octree_search.specs.declared.arena.Met.{Met}
use Rattle.octree_search.specs.Cover.{cover, cover_of, stops}
use Rattle.octree_search.specs.Outcomes.{bounded}
use Rattle.octree_search.specs.Arena.{areas_met, IsLinked, IsSettled, IsTree, no_box}
use Rattle.octree_search.proofs.Covers.{cover_open, cover_stop}

-- the box at a place
pub area_at : (met : List Met) (i : ℕ) (d : Met) → i < length met → (get_or met i d).area ≡ get_or (areas_met met) i d.area
area_at [] i d below = absurd (omega (arith, below))
area_at (m ∷ met) zero d below = refl
area_at (m ∷ met) (suc i) d below = area_at met i d (omega (arith, below))

-- a box that was opened, and where its children begin
pub record IsOpenAt (met : List Met) (place first : ℕ) : Type 0 where
  pub splittable : IsSplittable (get_or met place no_box).area
  pub linked : IsLinked (areas_met met) (get_or met place no_box).area first

pub open_entry : (met : List Met) (place first : ℕ) → IsTree met → place < length met → (get_or met place no_box).first_child ≡ Some first
    → IsOpenAt met place first
open_entry met place first tree below is =
    let branch = tree place no_box below in
    let linked : (is_single (get_or met place no_box).area ≡ false) × IsLinked (areas_met met) (get_or met place no_box).area first =
    subst (λ o. MatchOption o (Unit {0}) (λ k. (is_single (get_or met place no_box).area ≡ false) × IsLinked (areas_met met) (get_or met place no_box).area k)) is branch.linked in
    record { splittable = record { nonempty = branch.area; several = linked.0 }; linked = linked.1 }

-- a child of it
pub record IsChildAt (met : List Met) (place first k : ℕ) : Type 0 where
  pub within : first + k < length met
  pub area : (get_or met (first + k) no_box).area ≡ get_or (children_of (get_or met place no_box).area) k no_box.area
  pub smaller : node_count_of (get_or met (first + k) no_box).area < node_count_of (get_or met place no_box).area

pub child_entry : (met : List Met) (place first k : ℕ) → IsOpenAt met place first → k < length (children_of (get_or met place no_box).area)
    → IsChildAt met place first k
child_entry met place first k o below =
    let a : NodeBox = (get_or met place no_box).area in
    let n : ℕ = length (children_of a) in
    let many : length (take n (drop first (areas_met met))) ≡ n = ap length o.linked in
    let within : first + k < length met =
    omega (arith, below, many, length-take n (drop first (areas_met met)), length-drop first (areas_met met), length-map met (λ (m : Met). m.area)) in
    let is : (get_or met (first + k) no_box).area ≡ get_or (children_of a) k no_box.area =
    area_at met (first + k) no_box within
    ∙ sym (get_or-drop first (areas_met met) k no_box.area)
    ∙ sym (get_or-take n (drop first (areas_met met)) k no_box.area below)
    ∙ ap (λ (boxes : List NodeBox). get_or boxes k no_box.area) o.linked in
    let less : node_count_of (get_or (children_of a) k no_box.area) < node_count_of a =
    All-from_recursion (λ c. node_count_of c < node_count_of a) (children_of a) (children_smaller a o.splittable) k no_box.area below in
    record { within = within; area = is; smaller = subst (λ c. node_count_of c < node_count_of a) (sym is) less }

-- a box that wasn't opened is its own cover
pub leaf_cover : (met : List Met) (place : ℕ) (old new : List BoxBound) (bound : NodeBox → ℕ) (t : ℕ) → place < length met
    → (get_or met place no_box).first_child ≡ None → All (IsSettled bound t) met
    → new ≡ old ++ record { area = (get_or met place no_box).area; bound = (get_or met place no_box).bound } ∷ []
    → new ≡ old ++ map (bounded bound) (cover bound t (get_or met place no_box).area)
leaf_cover met place old new bound t below none settled new_is =
    let is : ((get_or met place no_box).bound ≡ bound (get_or met place no_box).area) × (stops bound t (get_or met place no_box).area ≡ true) =
    subst (λ o. MatchOption o (((get_or met place no_box).bound ≡ bound (get_or met place no_box).area) × (stops bound t (get_or met place no_box).area ≡ true))
    (λ _. stops bound t (get_or met place no_box).area ≡ false)) none (settled place no_box below) in
    new_is ∙ ap (λ b. old ++ record { area = (get_or met place no_box).area; bound = b } ∷ []) is.0
    ∙ ap (λ boxes. old ++ map (bounded bound) boxes) (sym (cover_stop bound t (get_or met place no_box).area is.1))

-- one more box's cover
pub more_cover : (old now new : List BoxBound) (areas : List NodeBox) (k : ℕ) (d a : NodeBox) (bound : NodeBox → ℕ) (t : ℕ) → k < length areas
    → a ≡ get_or areas k d → now ≡ old ++ map (bounded bound) (cover_of bound t (take k areas))
    → new ≡ now ++ map (bounded bound) (cover bound t a)
    → new ≡ old ++ map (bounded bound) (cover_of bound t (take (k + 1) areas))
more_cover old now new areas k d a bound t below is now_is new_is =
    let one : cover_of bound t (get_or areas k d ∷ []) ≡ cover bound t (get_or areas k d) = append-nil (cover bound t (get_or areas k d)) in
    let all : cover_of bound t (take (k + 1) areas) ≡ cover_of bound t (take k areas) ++ cover bound t (get_or areas k d) =
    ap (cover_of bound t) (take_more areas k d below) ∙ flat_map-append (cover bound t) (take k areas) (get_or areas k d ∷ [])
    ∙ ap (λ rest. cover_of bound t (take k areas) ++ rest) one in
    new_is ∙ ap (λ front. front ++ map (bounded bound) (cover bound t a)) now_is
    ∙ append_assoc old (map (bounded bound) (cover_of bound t (take k areas))) (map (bounded bound) (cover bound t a))
    ∙ ap (λ (c : NodeBox). old ++ (map (bounded bound) (cover_of bound t (take k areas)) ++ map (bounded bound) (cover bound t c))) is
    ∙ ap (λ rest. old ++ rest) (sym (map-append (bounded bound) (cover_of bound t (take k areas)) (cover bound t (get_or areas k d))))
    ∙ ap (λ boxes. old ++ map (bounded bound) boxes) (sym all)

-- the covers of all children are that of the box that was opened
pub open_cover : (met : List Met) (place first k : ℕ) (old new : List BoxBound) (bound : NodeBox → ℕ) (t : ℕ) → place < length met
    → (get_or met place no_box).first_child ≡ Some first → IsOpenAt met place first → length (children_of (get_or met place no_box).area) ≤ k
    → All (IsSettled bound t) met
    → new ≡ old ++ map (bounded bound) (cover_of bound t (take k (children_of (get_or met place no_box).area)))
    → new ≡ old ++ map (bounded bound) (cover bound t (get_or met place no_box).area)
open_cover met place first k old new bound t below is o all settled new_is =
    let opened : stops bound t (get_or met place no_box).area ≡ false =
    subst (λ o. MatchOption o (((get_or met place no_box).bound ≡ bound (get_or met place no_box).area) × (stops bound t (get_or met place no_box).area ≡ true))
    (λ _. stops bound t (get_or met place no_box).area ≡ false)) is (settled place no_box below) in
    new_is ∙ ap (λ boxes. old ++ map (bounded bound) (cover_of bound t boxes)) (take_all k (children_of (get_or met place no_box).area) all)
    ∙ ap (λ boxes. old ++ map (bounded bound) boxes) (sym (cover_open bound t (get_or met place no_box).area o.splittable.nonempty opened))
