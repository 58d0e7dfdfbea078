-- Opening a box, and boxes that stand after others.
use Rattle.std.proofs.Common.{◌≡◌, ℕ, ◌<◌, ◌≤◌, arith, List, [], ◌∷◌, ◌++◌, length, map, take, drop, get_or, set, refl, ap, ◌∙◌, Some, None}
use Rattle.std.proofs.Math.Seq.{map-set_same}
use Rattle.std.proofs.lemmas.Grind.{get_or-set_at}
use Rattle.std.proofs.lemmas.List.{length-set, length-take, length-drop, get_or-set_other, get_or_default, take-append-le, drop-append-le, map-append}
use Rattle.node_boxes.specs.declared.node_box.NodeBox.{NodeBox}
use Rattle.node_boxes.specs.Children.{children_of}
use Rattle.octree_search.specs.declared.arena.Met.{Met}
use Rattle.octree_search.specs.Arena.{areas_met, fresh, IsLinked, IsOpened}

-- the box of zeros that stands for a place past the end
abbrev pub no_met : Met
no_met = record { area = record { x0 = 0; x1 = 0; y0 = 0; y1 = 0; z0 = 0; z1 = 0 }; bound = 0; first_child = None }

-- what writing the place of the children does
pub opened : (met : List Met) (place first : ℕ) → place < length met
    → IsOpened met place first (set met place (record (get_or met place no_met) { first_child = Some first }))
opened met place first below = record {
  same_length = length-set met place (record (get_or met place no_met) { first_child = Some first });
  same_areas = map-set_same (λ (m : Met). m.area) met place (record (get_or met place no_met) { first_child = Some first }) no_met refl;
  others = λ i d other. get_or-set_other met place i (record (get_or met place no_met) { first_child = Some first }) d other;
  here = λ d. get_or-set_at met place place (record (get_or met place no_met) { first_child = Some first }) d refl below
      ∙ ap (λ (m : Met). record m { first_child = Some first }) (get_or_default met place no_met d below);
}

-- children that stand there stand there when more boxes are met
pub linked_more : (areas more : List NodeBox) (a : NodeBox) (first : ℕ) → IsLinked areas a first → IsLinked (areas ++ more) a first
linked_more areas more a first linked = linked_more-by areas more (children_of a) first linked
  where
    linked_more-by : (areas more children : List NodeBox) (first : ℕ) → take (length children) (drop first areas) ≡ children
        → take (length children) (drop first (areas ++ more)) ≡ children
    linked_more-by areas more [] first linked = refl
    linked_more-by areas more (c ∷ children) first linked =
        let many : length (take (length (c ∷ children)) (drop first areas)) ≡ length (c ∷ children) = ap length linked in
        let there : length (c ∷ children) ≤ length (drop first areas) = omega (arith, many, length-take (length (c ∷ children)) (drop first areas)) in
        let within : first ≤ length areas = omega (arith, there, length-drop first areas) in
        rw (drop-append-le first areas more within, take-append-le (length (c ∷ children)) (drop first areas) more there) linked

-- the boxes of what was just met
pub areas_fresh : (bound : NodeBox → ℕ) (areas : List NodeBox) → areas_met (map (fresh bound) areas) ≡ areas
areas_fresh bound [] = refl
areas_fresh bound (a ∷ areas) = ap (λ rest. a ∷ rest) (areas_fresh bound areas)

pub areas_more : (bound : NodeBox → ℕ) (met : List Met) (areas : List NodeBox)
    → areas_met (met ++ map (fresh bound) areas) ≡ areas_met met ++ areas
areas_more bound met areas =
    map-append (λ (m : Met). m.area) met (map (fresh bound) areas) ∙ ap (λ rest. areas_met met ++ rest) (areas_fresh bound areas)
