-- Bounds of a family that are kept for the next calls.
use Rattle.std.proofs.Common.{◌≡◌, ℕ, List, [], ◌∷◌, ◌<◌, Contains, Some, arith, refl, subst, get_or}
use Rattle.std.proofs.lemmas.Option.{get_or_from_slice_get, slice_get_within}
use Rattle.std.proofs.lemmas.List.Elements.{Contains-get_or}
use Rattle.kernel_table.specs.declared.stored.Falloff.{Falloff}
use Rattle.kernel_table.specs.Falloff.{shape_of}
use Rattle.node_boxes.specs.declared.node_box.NodeBox.{NodeBox}
use Rattle.node_boxes.specs.Boxes.{IsSplittable}
use Rattle.node_boxes.specs.Children.{children_of}
use Rattle.node_boxes.proofs.ChildBoxes.{children_count}
use Rattle.node_boxes.specs.Octree.{Child, IsOctreeBox, Root}
use Rattle.minmax_pyramid.specs.Families.{FamilyWay, IsChildAt, IsFamilyOf, IsWay}
use Rattle.edt_score.specs.declared.scorer.Scorer.{Scorer}
use Rattle.edt_score.specs.declared.problem.Problem.{Problem}
use Rattle.edt_score.specs.BoxBound.{box_bound}
use Rattle.edt_score.specs.Field.{FieldTimes}
use Rattle.edt_score.specs.Scorer.{IsSameScorer, area_bound, falloff_of, field_of, problem_of}
use Rattle.edt_score.specs.Inside.KeptFamily.{AreBounds, HasBounds}

-- the bounds of one field, problem and kernel are the same
box_bound-same : {F : Type 0} (one other : Falloff F) (field field' : FieldTimes) (problem problem' : Problem) → other ≡ one → field' ≡ field → problem' ≡ problem
    → box_bound (shape_of other) field' problem'.picks.items ≡ box_bound (shape_of one) field problem.picks.items
box_bound-same one other field field' problem problem' p q r = rw (p, q, r) refl

-- so are those of two scorers of them
pub same_bounds : {F : Type 0} (one other : Scorer F) → IsSameScorer one other → area_bound other ≡ area_bound one
same_bounds one other same =
    box_bound-same (falloff_of one) (falloff_of other) (field_of one) (field_of other) (problem_of one) (problem_of other) same.falloff same.field same.problem

-- a child stands among the first eight
pub child_within : (parent area : NodeBox) (place : ℕ) → IsSplittable parent → IsChildAt parent place area → place < 8
child_within parent area place split at =
    let below = slice_get_within (children_of parent) place area at in
    let few = (children_count parent split).1 in
    omega arith

-- the bound of a child among those of its family
pub child_bound : (bound : NodeBox → ℕ) (parent area : NodeBox) (place : ℕ) (bounds : List ℕ) → IsChildAt parent place area → AreBounds bound parent bounds
    → get_or bounds place 0 ≡ bound area
child_bound bound parent area place bounds at family = get_or_from_slice_get bounds place (bound area) 0 (family place area at)

-- the bounds of a family, as one that is kept
pub keeps_bounds : (bound : NodeBox → ℕ) (family : FamilyWay) (bounds : List ℕ) → AreBounds bound family.parent bounds → HasBounds bound (Some family) bounds
keeps_bounds bound family bounds are other same =
    let here : family ≡ other = cc in
    subst (λ (f : FamilyWay). AreBounds bound f.parent bounds) here are

-- a child is one of the children
pub child_contained : (parent child : NodeBox) (place : ℕ) → IsChildAt parent place child → Contains (children_of parent) child
child_contained parent child place at =
    (place, slice_get_within (children_of parent) place child at, get_or_from_slice_get (children_of parent) place child child at)

-- the way down from an octree box leads to octree boxes
way-tree : (roots : List NodeBox) (a b : NodeBox) (places : List ℕ) → IsOctreeBox roots a → IsWay a places b → IsOctreeBox roots b
way-tree roots a b [] tree way = subst (IsOctreeBox roots) way tree
way-tree roots a b (place ∷ places) tree (c, split, at, rest) =
    way-tree roots c b places (Child a c tree split.several (child_contained a c place at)) rest

-- so the parent of a family is an octree box
pub family-tree : (roots : List NodeBox) (family : FamilyWay) → IsFamilyOf roots family → IsOctreeBox roots family.parent
family-tree roots family is =
    let none : NodeBox = record { x0 = 0; x1 = 0; y0 = 0; y1 = 0; z0 = 0; z1 = 0 } in
    way-tree roots (get_or roots family.root none) family.parent family.places
    (Root (get_or roots family.root none) (Contains-get_or roots family.root none is.below)) (is.down none)
