-- The cover has the fewest boxes.
use Rattle.std.proofs.Common.{◌≡◌, inl, inr, ℕ, ◌+◌, ◌*◌, ◌≤◌, ◌<◌, arith, true, List, [], ◌∷◌, ◌++◌, length, refl, ap, sym, ◌∙◌, subst, sum_by, Contains}
use Rattle.std.specs.List.{flat_map, AllByRecursion}
use Rattle.std.proofs.lemmas.Grind.{flat_map-append}
use Rattle.std.proofs.lemmas.List.{length-append}
use Rattle.std.proofs.lemmas.List.Elements.{Contains-append_left, Contains-append_right, Contains-append_cases}
use Rattle.std.proofs.lemmas.List.Sums.{sum_by-cons}
use Rattle.node_boxes.specs.declared.node_box.NodeBox.{NodeBox}
use Rattle.node_boxes.specs.Grid.{GridSize, node_count}
use Rattle.node_boxes.specs.Boxes.{IsIn, IsNonempty, IsPartOf, node_count_of}
use Rattle.node_boxes.specs.Children.{children_of}
use Rattle.node_boxes.specs.Roots.{AreRoots}
use Rattle.node_boxes.specs.Octree.{IsOctreeCover, Done, Keep, Open}
use Rattle.node_boxes.proofs.ChildBoxes.{children_parts, children_count, children_nodes, node_count-some}
use Rattle.node_boxes.proofs.Lists.{all-append, all-contains, all-flat_map, all-weaker}
use Rattle.node_boxes.proofs.OctreeBoxes.{in_nonempty}
use Rattle.octree_search.specs.Cover.{stops, cover, below, cover_of, boxes_met}
use Rattle.octree_search.specs.Fewest.{IsPartOfOne, IsShortest}
use Rattle.octree_search.proofs.Choices.{by_test}
use Rattle.octree_search.proofs.Covers.{by_cover, cover_open, cover_stop, below_open, below_stop, splittable}
use Rattle.octree_search.proofs.OctreeCovers.{octree_cover, covers_stop}

-- a part of a part
pub part_of_part : (a b c : NodeBox) → IsPartOf a b → IsPartOf b c → IsPartOf a c
part_of_part a b c one other = record {
  nonempty = other.nonempty;
  x_from = omega (arith, one.x_from, other.x_from);
  x_to = omega (arith, one.x_to, other.x_to);
  y_from = omega (arith, one.y_from, other.y_from);
  y_to = omega (arith, one.y_to, other.y_to);
  z_from = omega (arith, one.z_from, other.z_from);
  z_to = omega (arith, one.z_to, other.z_to);
}

pub part_of_itself : (a : NodeBox) → IsNonempty a → IsPartOf a a
part_of_itself a some =
    record { nonempty = some; x_from = omega arith; x_to = omega arith; y_from = omega arith; y_to = omega arith; z_from = omega arith; z_to = omega arith }

module _ (bound : NodeBox → ℕ) (t : ℕ) where
  -- the covers of a list of boxes, each of one box or more
  pub covers_some : (boxes : List NodeBox) → AllByRecursion (λ a. 1 ≤ length (cover bound t a)) boxes
      → length boxes ≤ length (flat_map (cover bound t) boxes)
  covers_some [] all = omega arith
  covers_some (a ∷ boxes) (here, all) =
      omega (arith, here, covers_some boxes all, length-append {A = NodeBox} (cover bound t a) (flat_map (cover bound t) boxes))

  pub cover_some : (a : NodeBox) → IsNonempty a → 1 ≤ length (cover bound t a)
  cover_some = by_cover bound t (λ a. 1 ≤ length (cover bound t a))
      (λ a some stop. rw (cover_stop bound t a stop) (omega arith))
      (λ a some open' all. rw (cover_open bound t a some open')
      (omega (arith, covers_some (children_of a) all, (children_count a (splittable bound t a some open')).0)))

  -- the boxes of a cover lie in its box
  pub cover_parts : (a : NodeBox) → IsNonempty a → AllByRecursion (IsPartOf a) (cover bound t a)
  cover_parts = by_cover bound t (λ a. AllByRecursion (IsPartOf a) (cover bound t a))
      (λ a some stop. rw (cover_stop bound t a stop) (part_of_itself a some, tt))
      (λ a some open' all. rw (cover_open bound t a some open')
      (cover_parts-in a (children_of a) (children_parts a some) all))
    where
      cover_parts-in : (a : NodeBox) (boxes : List NodeBox) → AllByRecursion (IsPartOf a) boxes
          → AllByRecursion (λ c. AllByRecursion (IsPartOf c) (cover bound t c)) boxes → AllByRecursion (IsPartOf a) (flat_map (cover bound t) boxes)
      cover_parts-in a [] parts all = tt
      cover_parts-in a (c ∷ boxes) (part, parts) (here, all) =
          all-append (IsPartOf a) (cover bound t c) (flat_map (cover bound t) boxes)
          (all-weaker (IsPartOf c) (IsPartOf a) (λ b inner. part_of_part a c b part inner) (cover bound t c) here)
          (cover_parts-in a boxes parts all)

  -- no octree cover whose boxes aren't opened has fewer boxes
  pub fewest : (boxes leaves : List NodeBox) → IsOctreeCover boxes leaves → AllByRecursion IsNonempty boxes
      → AllByRecursion (λ a. stops bound t a ≡ true) leaves → length (flat_map (cover bound t) boxes) ≤ length leaves
  fewest boxes leaves Done some all = omega arith
  fewest boxes leaves (Keep a rest others kept) (here, some) (stop, all) =
      rw (cover_stop bound t a stop) (omega (arith, fewest rest others kept some all))
  fewest boxes leaves (Open a rest others several kept) (here, some) all =
      let children : AllByRecursion IsNonempty (children_of a) =
      all-weaker (IsPartOf a) IsNonempty (λ c part. part.nonempty) (children_of a) (children_parts a here) in
      let less : length (flat_map (cover bound t) (children_of a ++ rest)) ≤ length others =
      fewest (children_of a ++ rest) others kept (all-append IsNonempty (children_of a) rest children some) all in
      let joined : length (flat_map (cover bound t) (children_of a ++ rest))
      ≡ length (flat_map (cover bound t) (children_of a)) + length (flat_map (cover bound t) rest) =
      ap length (flat_map-append (cover bound t) (children_of a) rest)
      ∙ length-append {A = NodeBox} (flat_map (cover bound t) (children_of a)) (flat_map (cover bound t) rest) in
      let parted : length (flat_map (cover bound t) (a ∷ rest)) ≡ length (cover bound t a) + length (flat_map (cover bound t) rest) =
      length-append {A = NodeBox} (cover bound t a) (flat_map (cover bound t) rest) in
      let many : length (children_of a) ≤ length (flat_map (cover bound t) (children_of a)) =
      covers_some (children_of a) (all-weaker IsNonempty (λ c. 1 ≤ length (cover bound t c)) cover_some (children_of a) children) in
      let two = (children_count a (record { nonempty = here; several = several })).0 in
      elim (by_test (stops bound t a)) [
        | inl stop ↦ let one : length (cover bound t a) ≡ 1 = rw (cover_stop bound t a stop) refl in omega (arith, less, joined, parted, many, two, one)
        | inr open' ↦ let same : length (cover bound t a) ≡ length (flat_map (cover bound t) (children_of a)) = ap length (cover_open bound t a here open') in
            omega (arith, less, joined, parted, same)
      ]

  -- boxes that lie in one of some boxes lie in one of more boxes
  pub one_of_more : (boxes more : List NodeBox) (part : NodeBox) → IsPartOfOne boxes part → IsPartOfOne (boxes ++ more) part
  one_of_more boxes more part (whole, at, inside) = (whole, Contains-append_left boxes more whole at, inside)

  pub one_of_others : (more boxes : List NodeBox) (part : NodeBox) → IsPartOfOne boxes part → IsPartOfOne (more ++ boxes) part
  one_of_others more boxes part (whole, at, inside) = (whole, Contains-append_right more boxes whole at, inside)

  -- what lies in a box of the children's covers, or in another box, lies in the box itself, or in that other
  pub one_above : (a : NodeBox) (rest : List NodeBox) (part : NodeBox) → IsNonempty a
      → IsPartOfOne (flat_map (cover bound t) (children_of a ++ rest)) part → IsPartOfOne (a ∷ flat_map (cover bound t) rest) part
  one_above a rest part some (whole, at, inside) =
      elim (Contains-append_cases (flat_map (cover bound t) (children_of a)) (flat_map (cover bound t) rest) whole
      (subst (λ boxes. Contains boxes whole) (flat_map-append (cover bound t) (children_of a) rest) at)) [
        | inl below' ↦ (
          a,
          (0, omega arith, refl),
          part_of_part a whole part
              (all-contains (IsPartOf a) (flat_map (cover bound t) (children_of a)) whole (child_covers a some) below') inside,
        )
        | inr beside ↦ (whole, Contains-append_right (a ∷ []) (flat_map (cover bound t) rest) whole beside, inside)
      ]
    where
      child_covers : (a : NodeBox) → IsNonempty a → AllByRecursion (IsPartOf a) (flat_map (cover bound t) (children_of a))
      child_covers a some =
          all-flat_map (IsPartOf a) (IsPartOf a) (cover bound t)
          (λ c part. all-weaker (IsPartOf c) (IsPartOf a) (λ b inner. part_of_part a c b part inner) (cover bound t c) (cover_parts c part.nonempty))
          (children_of a) (children_parts a some)

  pub within : (boxes leaves : List NodeBox) → IsOctreeCover boxes leaves → AllByRecursion IsNonempty boxes
      → AllByRecursion (λ a. stops bound t a ≡ true) leaves → AllByRecursion (IsPartOfOne (flat_map (cover bound t) boxes)) leaves
  within boxes leaves Done some all = tt
  within boxes leaves (Keep a rest others kept) (here, some) (stop, all) =
      subst (λ front. AllByRecursion (IsPartOfOne (front ++ flat_map (cover bound t) rest)) (a ∷ others)) (sym (cover_stop bound t a stop)) (
        (a, (0, omega arith, refl), part_of_itself a here),
        all-weaker (IsPartOfOne (flat_map (cover bound t) rest)) (IsPartOfOne (a ∷ flat_map (cover bound t) rest))
            (λ part one. one_of_others (a ∷ []) (flat_map (cover bound t) rest) part one) others (within rest others kept some all),
      )
  within boxes leaves (Open a rest others several kept) (here, some) all =
      let children : AllByRecursion IsNonempty (children_of a) =
      all-weaker (IsPartOf a) IsNonempty (λ c part. part.nonempty) (children_of a) (children_parts a here) in
      let inner : AllByRecursion (IsPartOfOne (flat_map (cover bound t) (children_of a ++ rest))) others =
      within (children_of a ++ rest) others kept (all-append IsNonempty (children_of a) rest children some) all in
      elim (by_test (stops bound t a)) [
        | inl stop ↦ subst (λ front. AllByRecursion (IsPartOfOne (front ++ flat_map (cover bound t) rest)) others) (sym (cover_stop bound t a stop))
            (all-weaker (IsPartOfOne (flat_map (cover bound t) (children_of a ++ rest))) (IsPartOfOne (a ∷ flat_map (cover bound t) rest))
            (λ part one. one_above a rest part here one) others inner)
        | inr open' ↦ subst (λ front. AllByRecursion (IsPartOfOne (front ++ flat_map (cover bound t) rest)) others) (sym (cover_open bound t a here open'))
            (subst (λ boxes. AllByRecursion (IsPartOfOne boxes) others) (flat_map-append (cover bound t) (children_of a) rest) inner)
      ]

  -- a cover of n nodes meets fewer than twice as many boxes
  pub below_twice : (a : NodeBox) → IsNonempty a → below bound t a + 2 ≤ 2 * node_count_of a
  below_twice = by_cover bound t (λ a. below bound t a + 2 ≤ 2 * node_count_of a)
      (λ a some stop. rw (below_stop bound t a stop) (omega (arith, node_count-some a some)))
      (λ a some open' all. rw (below_open bound t a some open')
      (omega (arith, sum_twice (children_of a) all, children_nodes a some, (children_count a (splittable bound t a some open')).0)))
    where
      sum_twice : (boxes : List NodeBox) → AllByRecursion (λ c. below bound t c + 2 ≤ 2 * node_count_of c) boxes
          → sum_by (λ c. 1 + below bound t c) boxes + length boxes ≤ 2 * sum_by node_count_of boxes
      sum_twice [] all = omega arith
      sum_twice (c ∷ boxes) (here, all) =
          omega (arith, here, sum_twice boxes all, sum_by-cons (λ c. 1 + below bound t c) c boxes, sum_by-cons node_count_of c boxes)

  -- a cover has at most as many boxes as there are nodes
  pub covers_nodes : (boxes : List NodeBox) → AllByRecursion (λ a. length (cover bound t a) ≤ node_count_of a) boxes
      → length (flat_map (cover bound t) boxes) ≤ sum_by node_count_of boxes
  covers_nodes [] all = omega arith
  covers_nodes (a ∷ boxes) (here, all) =
      omega (arith, here, covers_nodes boxes all, length-append {A = NodeBox} (cover bound t a) (flat_map (cover bound t) boxes), sum_by-cons node_count_of a boxes)

  pub cover_nodes : (a : NodeBox) → IsNonempty a → length (cover bound t a) ≤ node_count_of a
  cover_nodes = by_cover bound t (λ a. length (cover bound t a) ≤ node_count_of a)
      (λ a some stop. rw (cover_stop bound t a stop) (omega (arith, node_count-some a some)))
      (λ a some open' all. rw (cover_open bound t a some open')
      (omega (arith, covers_nodes (children_of a) all, children_nodes a some)))

  pub met_twice : (boxes : List NodeBox) → AllByRecursion IsNonempty boxes → boxes_met bound t boxes + length boxes ≤ 2 * sum_by node_count_of boxes
  met_twice [] some = omega arith
  met_twice (a ∷ boxes) (here, some) =
      omega (arith, below_twice a here, met_twice boxes some, sum_by-cons (λ c. 1 + below bound t c) a boxes, sum_by-cons node_count_of a boxes)

-- the roots have nodes
pub roots_nonempty : (g : GridSize) (roots : List NodeBox) → AreRoots g roots → AllByRecursion IsNonempty roots
roots_nonempty g roots are = all-weaker (IsIn g) IsNonempty (in_nonempty g) roots are.inside

-- the cover of the roots is the shortest
pub shortest_cover : (g : GridSize) (roots : List NodeBox) (bound : NodeBox → ℕ) (t : ℕ) → AreRoots g roots
    → IsShortest roots bound t (cover_of bound t roots)
shortest_cover g roots bound t are = record {
  cover = octree_cover bound t roots (roots_nonempty g roots are);
  closed = covers_stop bound t roots (roots_nonempty g roots are);
  fewest = λ other kept all. fewest bound t roots other kept (roots_nonempty g roots are) all;
  within = λ other kept all. within bound t roots other kept (roots_nonempty g roots are) all;
}

-- and meets fewer than twice as many boxes as there are nodes
pub fewer_than_twice : (g : GridSize) (roots : List NodeBox) (bound : NodeBox → ℕ) (t : ℕ) → AreRoots g roots → 1 ≤ node_count g
    → boxes_met bound t roots < 2 * node_count g
fewer_than_twice g [] bound t are some = let none : 0 ≡ node_count g = are.nodes in absurd (omega (arith, none))
fewer_than_twice g (a ∷ roots) bound t are some =
    omega (arith, met_twice bound t (a ∷ roots) (roots_nonempty g (a ∷ roots) are), are.nodes)

-- and has at most as many boxes as there are nodes
pub at_most_nodes : (g : GridSize) (roots : List NodeBox) (bound : NodeBox → ℕ) (t : ℕ) → AreRoots g roots
    → length (cover_of bound t roots) ≤ node_count g
at_most_nodes g roots bound t are =
    omega (
      arith,
      are.nodes,
      covers_nodes bound t roots
          (all-weaker IsNonempty (λ a. length (cover bound t a) ≤ node_count_of a) (cover_nodes bound t) roots (roots_nonempty g roots are)),
    )
