-- The near nodes of a cover, in order, are the near list.
use Rattle.std.proofs.Common.{◌≡◌, inl, inr, ℕ, ◌+◌, ◌≤◌, ◌<◌, arith, Bool, true, false, cond, List, [], ◌∷◌, map, refl, ap, sym, ◌∙◌, subst, sum_by, filter, All}
use Rattle.std.specs.Prelude.{◌&&◌, nat_le, nat_lt, if◌then◌else◌}
use Rattle.std.specs.List.{AllByRecursion, range_with_len}
use Rattle.std.specs.List.Sorted.{IsPermutation, IsNonDecreasingBy}
use Rattle.std.proofs.lemmas.Bool.Decides.{nat_tests}
use Rattle.std.proofs.lemmas.List.Elements.{All-from_recursion, recursion_from_All}
use Rattle.std.proofs.lemmas.List.Sorted.{All-permutation, sum_by-IsPermutation}
use Rattle.std.proofs.lemmas.List.Sums.{sum_by-cons}
use Rattle.node_boxes.specs.declared.node_box.NodeBox.{NodeBox}
use Rattle.node_boxes.specs.declared.node_box.BoxBound.{BoxBound}
use Rattle.node_boxes.specs.Grid.{GridSize, node_count}
use Rattle.node_boxes.specs.GridOrder.{IsInside, node_number, place_of}
use Rattle.node_boxes.specs.Boxes.{IsIn, IsNonempty, IsPartOf, contains, holds, is_single}
use Rattle.node_boxes.specs.Children.{children_of}
use Rattle.node_boxes.specs.Roots.{AreRoots, holders}
use Rattle.node_boxes.specs.Octree.{IsOctreeBox}
use Rattle.node_boxes.proofs.ChildBoxes.{children_once}
use Rattle.node_boxes.proofs.Lists.{all-append, all-flat_map, all-map, all-weaker, sum_by-map, sum_by-flat_map}
use Rattle.node_boxes.proofs.OctreeBoxes.{octree_inside, in_nonempty, part_inside}
use Rattle.node_boxes.proofs.Order.{node_number-below, place_of-number, place_of-inside, number-place_of}
use Rattle.edt_score.specs.Judging.{BoundsFall, judged_score, node_box}
use Rattle.octree_search.specs.Cover.{cover, cover_of, stops}
use Rattle.octree_search.specs.Near.{is_near, near_list, scored}
use Rattle.octree_search.specs.Outcomes.{bounded}
use Rattle.octree_search.specs.Inside.NearBoxes.{near_of, near_in}
use Rattle.octree_search.proofs.Choices.{by_test, or_cases, neither, all-both, sum_by-same_terms}
use Rattle.octree_search.proofs.Covers.{by_cover, cover_open, cover_stop}
use Rattle.octree_search.proofs.FewestBoxes.{cover_parts}
use Rattle.octree_search.proofs.Goes.{root_trees}
use Rattle.octree_search.proofs.Scores.{dominated, octree_children, single_unit, unit_at}
use Rattle.octree_search.proofs.SortedNodes.{hit, hit_same, hit_other, ascends_from, sorted_is}

-- whether an entry is that of a node
abbrev pub hits : ℕ → ℕ × ℕ → ℕ
hits k e = hit k e.0

-- a node within the grid, with its score
pub record IsNearEntry (g : GridSize) (bound : NodeBox → ℕ) (e : ℕ × ℕ) : Type 0 where
  pub within : e.0 < node_count g
  pub score : e.1 ≡ judged_score g bound e.0

-- the node of a single box
pub single_node : (g : GridSize) (a : NodeBox) → IsIn g a → is_single a ≡ true
    → IsInside g a.x0 a.y0 a.z0 × (a ≡ node_box g (node_number g a.x0 a.y0 a.z0))
single_node g a inside single =
    let x1 : a.x1 ≡ a.x0 + 1 = grind (arith, nat_tests) in
    let y1 : a.y1 ≡ a.y0 + 1 = grind (arith, nat_tests) in
    let z1 : a.z1 ≡ a.z0 + 1 = grind (arith, nat_tests) in
    let made : record { x0 = a.x0; x1 = a.x1; y0 = a.y0; y1 = a.y1; z0 = a.z0; z1 = a.z1 } ≡ unit_at a.x0 a.y0 a.z0 = rw (x1, y1, z1) refl in
    let within : IsInside g a.x0 a.y0 a.z0 = record { x = omega (arith, inside.x, inside.x_end); y = omega (arith, inside.y, inside.y_end); z = omega (arith, inside.z, inside.z_end) } in
    let place : node_box g (node_number g a.x0 a.y0 a.z0) ≡ unit_at a.x0 a.y0 a.z0 =
    ap (λ (p : ℕ × ℕ × ℕ). unit_at p.0 p.1 p.2) (place_of-number g a.x0 a.y0 a.z0 within) in
    (within, made ∙ sym place)

-- a single box holds the place of its node, and of no other
pub holds_node : (g : GridSize) (a : NodeBox) (k : ℕ) → IsIn g a → is_single a ≡ true → node_number g a.x0 a.y0 a.z0 ≡ k → holds g a k ≡ true
holds_node g a k inside single is =
    let node = single_node g a inside single in
    let place : place_of g k ≡ (a.x0, a.y0, a.z0) = ap (place_of g) (sym is) ∙ place_of-number g a.x0 a.y0 a.z0 node.0 in
    ap (λ (p : ℕ × ℕ × ℕ). contains a p.0 p.1 p.2) place ∙ holds_first a inside
  where
    holds_first : (a : NodeBox) → IsIn g a → contains a a.x0 a.y0 a.z0 ≡ true
    holds_first a inside =
        let x = inside.x in let y = inside.y in let z = inside.z in grind (arith, nat_tests)

pub node_held : (g : GridSize) (a : NodeBox) (k : ℕ) → k < node_count g → is_single a ≡ true → holds g a k ≡ true
    → (a ≡ node_box g k) × (node_number g a.x0 a.y0 a.z0 ≡ k)
node_held g a k below single held =
    let place = place_of g k in
    let is : a ≡ node_box g k = single_unit a place.0 place.1 place.2 single held in
    (is, ap (λ (b : NodeBox). node_number g b.x0 b.y0 b.z0) is ∙ number-place_of g k)

module _ (g : GridSize) (roots : List NodeBox) (bound : NodeBox → ℕ) (t : ℕ) (are : AreRoots g roots) (falls : BoundsFall g roots bound) where
  -- how often a node is a near one of a box
  abbrev pub times : ℕ → NodeBox → ℕ
  times k a = sum_by (hits k) (near_of g t (bounded bound a))

  -- whether a node is near and lies in a box
  abbrev pub marks : ℕ → NodeBox → ℕ
  marks k a = cond (is_near g bound t k) (cond (holds g a k) 1 0) 0

  times_none : (k : ℕ) (a : NodeBox) → (is_single a && nat_le t (bound a)) ≡ false → times k a ≡ 0
  times_none k a none = ap (λ b. sum_by (hits k) (if b then (node_number g a.x0 a.y0 a.z0, bound a) ∷ [] else [])) none

  times_one : (k : ℕ) (a : NodeBox) → (is_single a && nat_le t (bound a)) ≡ true → times k a ≡ 0 + hit k (node_number g a.x0 a.y0 a.z0)
  times_one k a one = ap (λ b. sum_by (hits k) (if b then (node_number g a.x0 a.y0 a.z0, bound a) ∷ [] else [])) one

  marks_far : (k : ℕ) (a : NodeBox) → is_near g bound t k ≡ false → marks k a ≡ 0
  marks_far k a far = ap (λ b. cond {A = ℕ} b (cond {A = ℕ} (holds g a k) 1 0) 0) far

  marks_away : (k : ℕ) (a : NodeBox) → holds g a k ≡ false → marks k a ≡ 0
  marks_away k a away = marks_away-by (is_near g bound t k)
    where
      marks_away-by : (b : Bool) → cond {A = ℕ} b (cond {A = ℕ} (holds g a k) 1 0) 0 ≡ 0
      marks_away-by true = ap (λ b. cond {A = ℕ} b 1 0) away
      marks_away-by false = refl

  marks_here : (k : ℕ) (a : NodeBox) → is_near g bound t k ≡ true → holds g a k ≡ true → marks k a ≡ 1
  marks_here k a near held = ap (λ b. cond {A = ℕ} b (cond {A = ℕ} (holds g a k) 1 0) 0) near ∙ ap (λ b. cond {A = ℕ} b 1 0) held

  -- where a box isn't opened
  leaf_times : (k : ℕ) → k < node_count g → (a : NodeBox) → IsOctreeBox roots a → stops bound t a ≡ true → times k a ≡ marks k a
  leaf_times k below a tree stop =
      let inside = octree_inside g roots a are tree in
      elim (by_test (is_single a)) [
        | inl single ↦ elim (by_test (holds g a k)) [
          | inl held ↦
              let node = node_held g a k below single held in
              let score : judged_score g bound k ≡ bound a = ap bound (sym node.0) in
              elim (by_test (nat_le t (bound a))) [
                | inl reaches ↦
                    let both : (is_single a && nat_le t (bound a)) ≡ true = rw (single, reaches) refl in
                    let near : is_near g bound t k ≡ true = ap (nat_le t) score ∙ reaches in
                    times_one k a both ∙ one_hit (node_number g a.x0 a.y0 a.z0) node.1 ∙ sym (marks_here k a near held)
                | inr misses ↦
                    let none : (is_single a && nat_le t (bound a)) ≡ false = rw (single, misses) refl in
                    times_none k a none ∙ sym (marks_far k a (ap (nat_le t) score ∙ misses))
              ]
          | inr away ↦ elim (by_test (nat_le t (bound a))) [
            | inl reaches ↦
                let both : (is_single a && nat_le t (bound a)) ≡ true = rw (single, reaches) refl in
                times_one k a both ∙ no_hit (node_number g a.x0 a.y0 a.z0) (λ is. apart (holds g a k) (holds_node g a k inside single is) away) ∙ sym (marks_away k a away)
            | inr misses ↦
                let none : (is_single a && nat_le t (bound a)) ≡ false = rw (single, misses) refl in
                times_none k a none ∙ sym (marks_away k a away)
          ]
        ]
        | inr several ↦
            let none : (is_single a && nat_le t (bound a)) ≡ false = rw several refl in
            times_none k a none ∙ sym (elim (by_test (holds g a k)) [
              | inl held ↦ marks_far k a (far_by a several stop (judged_score g bound k) (under a tree k held))
              | inr away ↦ marks_away k a away
            ])
      ]
    where
      one_hit : (n : ℕ) → n ≡ k → 0 + hit k n ≡ 1
      one_hit n is = let same : hit k n ≡ 1 = ap (hit k) is ∙ hit_same k in omega (arith, same)

      no_hit : (n : ℕ) → (n ≡ k → ⊥) → 0 + hit k n ≡ 0
      no_hit n other = let none : hit k n ≡ 0 = hit_other k n other in omega (arith, none)

      apart : (b : Bool) → b ≡ true → b ≡ false → ⊥
      apart true e f = absurd cc
      apart false e f = absurd cc

      under : (a : NodeBox) → IsOctreeBox roots a → (k : ℕ) → holds g a k ≡ true → judged_score g bound k ≤ bound a
      under a tree k held = let place = place_of g k in dominated g roots bound are falls a tree place.0 place.1 place.2 held

      far_by : (a : NodeBox) → is_single a ≡ false → stops bound t a ≡ true → (score : ℕ) → score ≤ bound a → nat_le t score ≡ false
      far_by a several stop score low = elim (or_cases (is_single a) (nat_lt (bound a) t) stop) [
        | inl single ↦ absurd (apart (is_single a) single several)
        | inr less ↦ let less' : bound a < t = grind (arith, nat_tests) in let far : score < t = omega (arith, less', low) in grind (arith, nat_tests)
      ]

  -- sums of marks over boxes of which exactly those that hold a place count
  marks_sum : (k : ℕ) (boxes : List NodeBox) → let place = place_of g k in
      sum_by (marks k) boxes ≡ cond (is_near g bound t k) (holders place.0 place.1 place.2 boxes) 0
  marks_sum k boxes = marks_sum-by (is_near g bound t k) boxes
    where
      marks_sum-by : (b : Bool) (boxes : List NodeBox)
          → sum_by (λ (a : NodeBox). cond {A = ℕ} b (cond {A = ℕ} (holds g a k) 1 0) 0) boxes ≡ cond b (holders (place_of g k).0 (place_of g k).1 (place_of g k).2 boxes) 0
      marks_sum-by true boxes = refl
      marks_sum-by false [] = refl
      marks_sum-by false (a ∷ boxes) =
          omega (arith, sum_by-cons (λ (_ : NodeBox). 0) a boxes, marks_sum-by false boxes)

  cover_times : (k : ℕ) → k < node_count g → (a : NodeBox) → IsNonempty a → IsOctreeBox roots a → sum_by (times k) (cover bound t a) ≡ marks k a
  cover_times k below a some tree =
      by_cover bound t (λ b. IsOctreeBox roots b → sum_by (times k) (cover bound t b) ≡ marks k b)
      (λ b some stop tree.
      let one : sum_by (times k) (cover bound t b) ≡ 0 + times k b = ap (sum_by (times k)) (cover_stop bound t b stop) in
      omega (arith, one, leaf_times k below b tree stop))
      (λ b some open' each tree.
      let children = octree_children roots b tree (neither (is_single b) (nat_lt (bound b) t) open').0 (children_of b) (λ c at. at) in
      let same = all-both (λ c. IsOctreeBox roots c → sum_by (times k) (cover bound t c) ≡ marks k c) (IsOctreeBox roots)
      (λ c. sum_by (times k) (cover bound t c) ≡ marks k c) (λ c given at. given at) (children_of b) each children in
      ap (sum_by (times k)) (cover_open bound t b some open') ∙ sum_by-flat_map (times k) (cover bound t) (children_of b)
      ∙ sum_by-same_terms (λ c. sum_by (times k) (cover bound t c)) (marks k) (children_of b) same
      ∙ marks_sum k (children_of b) ∙ ap (λ n. cond {A = ℕ} (is_near g bound t k) n 0) (children_once b (place_of g k).0 (place_of g k).1 (place_of g k).2 some))
      a some tree

  -- a node is as often a near one of the cover as its score tells
  pub near_times : (k : ℕ) → k < node_count g
      → sum_by (hits k) (near_in g t (map (bounded bound) (cover_of bound t roots))) ≡ cond (is_near g bound t k) 1 0
  near_times k below =
      let trees = root_trees roots roots (λ b at. at) in
      let same = all-both (IsIn g) (IsOctreeBox roots) (λ r. sum_by (times k) (cover bound t r) ≡ marks k r)
      (λ r inside tree. cover_times k below r (in_nonempty g r inside) tree) roots are.inside trees in
      let place = place_of-inside g k below in
      sum_by-flat_map (hits k) (near_of g t) (map (bounded bound) (cover_of bound t roots))
      ∙ sum_by-map (λ b. sum_by (hits k) (near_of g t b)) (bounded bound) (cover_of bound t roots)
      ∙ sum_by-flat_map (times k) (cover bound t) roots
      ∙ sum_by-same_terms (λ r. sum_by (times k) (cover bound t r)) (marks k) roots same
      ∙ marks_sum k roots
      ∙ ap (λ n. cond {A = ℕ} (is_near g bound t k) n 0) (are.once (place_of g k).0 (place_of g k).1 (place_of g k).2 place)

  -- the boxes of the cover lie in the grid
  pub cover_inside : AllByRecursion (IsIn g) (cover_of bound t roots)
  cover_inside =
      all-flat_map (IsIn g) (IsIn g) (cover bound t)
      (λ r inside. all-weaker (IsPartOf r) (IsIn g) (λ b part. part_inside g r b inside part) (cover bound t r) (cover_parts bound t r (in_nonempty g r inside)))
      roots are.inside

  pub cover_boxes_inside : (boxes : List BoxBound) → boxes ≡ map (bounded bound) (cover_of bound t roots) → All (λ (b : BoxBound). IsIn g b.area) boxes
  cover_boxes_inside boxes is =
      subst (All (λ (b : BoxBound). IsIn g b.area)) (sym is) (All-from_recursion (λ (b : BoxBound). IsIn g b.area) (map (bounded bound) (cover_of bound t roots))
      (all-map (IsIn g) (λ (b : BoxBound). IsIn g b.area) (bounded bound) (λ a inside. inside) (cover_of bound t roots) cover_inside))

  -- and their near nodes are nodes with their scores
  near_entries : (boxes : List NodeBox) → AllByRecursion (IsIn g) boxes → AllByRecursion (IsNearEntry g bound) (near_in g t (map (bounded bound) boxes))
  near_entries [] all = tt
  near_entries (a ∷ boxes) (inside, all) =
      all-append (IsNearEntry g bound) (near_of g t (bounded bound a)) (near_in g t (map (bounded bound) boxes)) (elim (by_test (is_single a && nat_le t (bound a))) [
        | inl one ↦ subst (AllByRecursion (IsNearEntry g bound)) (sym (ap (λ b. if b then (node_number g a.x0 a.y0 a.z0, bound a) ∷ [] else []) one))
            (entry a inside (first_of (is_single a) (nat_le t (bound a)) one), tt)
        | inr none ↦ subst (AllByRecursion (IsNearEntry g bound)) (sym (ap (λ b. if b then (node_number g a.x0 a.y0 a.z0, bound a) ∷ [] else []) none)) tt
      ]) (near_entries boxes all)
    where
      first_of : (a b : Bool) → (a && b) ≡ true → a ≡ true
      first_of true b e = refl
      first_of false b e = absurd cc

      entry : (a : NodeBox) → IsIn g a → is_single a ≡ true → IsNearEntry g bound (node_number g a.x0 a.y0 a.z0, bound a)
      entry a inside single =
          let node = single_node g a inside single in
          record { within = node_number-below g a.x0 a.y0 a.z0 node.0; score = ap bound node.1 }

  -- entries are nodes with their scores
  scored_again : (near : List (ℕ × ℕ)) → AllByRecursion (IsNearEntry g bound) near → near ≡ map (scored g bound) (map (λ (e : ℕ × ℕ). e.0) near)
  scored_again [] all = refl
  scored_again (e ∷ near) (is, all) =
      let here : (e.0, e.1) ≡ scored g bound e.0 = ap (λ s. (e.0, s)) is.score in
      ap (λ first. first ∷ near) here ∙ ap (λ rest. scored g bound e.0 ∷ rest) (scored_again near all)

  nodes_within : (near : List (ℕ × ℕ)) → AllByRecursion (IsNearEntry g bound) near
      → AllByRecursion (λ x. (0 ≤ x) × (x < 0 + node_count g)) (map (λ (e : ℕ × ℕ). e.0) near)
  nodes_within [] all = tt
  nodes_within (e ∷ near) (is, all) = ((omega arith, omega (arith, is.within)), nodes_within near all)

  -- so in order they are the near list
  pub near_is : (boxes : List BoxBound) (near : List (ℕ × ℕ)) → boxes ≡ map (bounded bound) (cover_of bound t roots)
      → IsPermutation (near_in g t boxes) near → IsNonDecreasingBy (λ (e : ℕ × ℕ). e.0) near → near ≡ near_list g bound t
  unfolding near_list
  near_is boxes near is swaps order =
      let found = near_in g t (map (bounded bound) (cover_of bound t roots)) in
      let moved : IsPermutation found near = subst (λ b. IsPermutation (near_in g t b) near) is swaps in
      let entries : AllByRecursion (IsNearEntry g bound) near =
      recursion_from_All (IsNearEntry g bound) near (All-permutation (IsNearEntry g bound) found near moved
      (All-from_recursion (IsNearEntry g bound) found (near_entries (cover_of bound t roots) cover_inside))) in
      let nodes : map (λ (e : ℕ × ℕ). e.0) near ≡ filter (is_near g bound t) (range_with_len 0 (node_count g)) =
      sorted_is (is_near g bound t) 0 (node_count g) (map (λ (e : ℕ × ℕ). e.0) near) (ascends_from (λ (e : ℕ × ℕ). e.0) near order) (nodes_within near entries)
      (λ k low high. sum_by-map (hit k) (λ (e : ℕ × ℕ). e.0) near ∙ sum_by-IsPermutation (hits k) found near moved ∙ near_times k (omega (arith, high))) in
      scored_again near entries ∙ ap (map (scored g bound)) nodes
