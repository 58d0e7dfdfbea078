-- The open and held boxes in the course of a run: what is known of them, in whatever order they stand.
use Rattle.std.proofs.Common.{◌≡◌, ℕ, ◌+◌, ◌≤◌, arith, false, List, [], ◌∷◌, ◌++◌, length, map, refl, ap, sym, ◌∙◌, sum_by}
use Rattle.std.specs.List.{AllByRecursion}
use Rattle.std.specs.List.Sorted.{IsPermutation}
use Rattle.std.proofs.lemmas.List.Sorted.{IsPermutation-sym, length_permutation, sum_by-IsPermutation}
use Rattle.std.proofs.lemmas.List.{length-append, length-map}
use Rattle.std.proofs.lemmas.List.Sums.{sum_by-cons, sum_by-append}
use Rattle.node_boxes.specs.declared.node_box.NodeBox.{NodeBox}
use Rattle.node_boxes.specs.declared.node_box.BoxBound.{BoxBound}
use Rattle.node_boxes.specs.Boxes.{IsNonempty, is_single}
use Rattle.node_boxes.specs.Children.{children_of}
use Rattle.node_boxes.specs.Grid.{GridSize}
use Rattle.node_boxes.specs.Octree.{IsOctreeBox}
use Rattle.node_boxes.specs.Roots.{AreRoots}
use Rattle.node_boxes.proofs.Lists.{all-append, all-map, sum_by-flat_map, sum_by-map}
use Rattle.node_boxes.proofs.OctreeBoxes.{octree_inside, in_nonempty}
use Rattle.octree_search.specs.Cover.{below, cover, cover_of, stops}
use Rattle.octree_search.specs.Near.{best_of}
use Rattle.octree_search.specs.Outcomes.{bounded, event_cover, event_met, event_threshold}
use Rattle.octree_search.proofs.Choices.{neither}
use Rattle.octree_search.proofs.Covers.{below_open, cover_open}
use Rattle.octree_search.proofs.Goes.{root_trees, sum_ones}
use Rattle.octree_search.proofs.Scores.{IsUnder, best_below, octree_children, under_children}
use Rattle.search_lanes.proofs.SameElements.{all_permuted}
use Rattle.search_lanes.proofs.BoxCuts.{IsCutInto, cut_into_opened, cut_none}

-- an open or held box is an octree box with its bound
pub record IsKnown (roots : List NodeBox) (bound : NodeBox → ℕ) (b : BoxBound) : Type 0 where
  pub tree : IsOctreeBox roots b.area
  pub bound_is : b.bound ≡ bound b.area

-- how many boxes the rule of the cover meets below it
abbrev pub left_of : (NodeBox → ℕ) → ℕ → BoxBound → ℕ
left_of bound t b = below bound t b.area

-- a sum over the cover of a box
abbrev pub cover_sum : (NodeBox → ℕ) → ℕ → (BoxBound → ℕ) → NodeBox → ℕ
cover_sum bound t f a = sum_by (λ c. f (bounded bound c)) (cover bound t a)

-- a sum over the cover of the box of a bound
abbrev pub box_sum : (NodeBox → ℕ) → ℕ → (BoxBound → ℕ) → BoxBound → ℕ
box_sum bound t f b = cover_sum bound t f b.area

-- some boxes are what is left to search after `met` boxes were met: no node scores more than all of them allow, and their covers together
-- are the cover of the event
pub record IsBag (g : GridSize) (roots : List NodeBox) (bound : NodeBox → ℕ) (margin met : ℕ) (boxes : List BoxBound) : Type 0 where
  pub known : AllByRecursion (IsKnown roots bound) boxes
  pub caps : (u : ℕ) → AllByRecursion (λ (b : BoxBound). IsUnder bound b.area u) boxes → best_of g bound ≤ u
  pub count : met + sum_by (left_of bound (event_threshold g bound margin)) boxes ≡ event_met g roots bound margin
  pub sums : (f : BoxBound → ℕ) → sum_by (box_sum bound (event_threshold g bound margin) f) boxes
      ≡ sum_by f (event_cover g roots bound margin)
  pub few : length boxes ≤ met
  pub cut : IsCutInto bound (event_threshold g bound margin) roots met boxes

-- a sum over the cover of some boxes
pub sum_cover_of : (bound : NodeBox → ℕ) (t : ℕ) (f : BoxBound → ℕ) (areas : List NodeBox)
    → sum_by f (map (bounded bound) (cover_of bound t areas)) ≡ sum_by (cover_sum bound t f) areas
sum_cover_of bound t f areas =
    sum_by-map f (bounded bound) (cover_of bound t areas)
    ∙ sum_by-flat_map (λ c. f (bounded bound c)) (cover bound t) areas

-- a sum over the cover of a box that is opened is one over those of its children
pub cover_sum-open : (bound : NodeBox → ℕ) (t : ℕ) (f : BoxBound → ℕ) (a : NodeBox) → IsNonempty a → stops bound t a ≡ false
    → cover_sum bound t f a ≡ sum_by (cover_sum bound t f) (children_of a)
cover_sum-open bound t f a some open' =
    ap (λ all. sum_by (λ c. f (bounded bound c)) all) (cover_open bound t a some open')
    ∙ sum_by-flat_map (λ c. f (bounded bound c)) (cover bound t) (children_of a)

module _ (g : GridSize) (roots : List NodeBox) (bound : NodeBox → ℕ) (margin : ℕ) (are : AreRoots g roots) where
  -- octree boxes with their bounds
  pub known_boxes : (areas : List NodeBox) → AllByRecursion (IsOctreeBox roots) areas
      → AllByRecursion (IsKnown roots bound) (map (bounded bound) areas)
  known_boxes areas trees =
      all-map (IsOctreeBox roots) (IsKnown roots bound) (bounded bound) (λ a tree. record { tree = tree; bound_is = refl }) areas trees

  -- what the boxes allow is what their areas do
  pub areas_under : (u : ℕ) (areas : List NodeBox) → AllByRecursion (λ (b : BoxBound). IsUnder bound b.area u) (map (bounded bound) areas)
      → AllByRecursion (λ a. IsUnder bound a u) areas
  areas_under u [] all = tt
  areas_under u (a ∷ areas) (here, all) = (here, areas_under u areas all)

  -- at the start the boxes are the roots
  pub bag_start : IsBag g roots bound margin (length roots) (map (bounded bound) roots)
  bag_start = record {
    known = known_boxes roots (root_trees roots roots (λ b at. at));
    caps = λ u all. best_below g roots bound u are (areas_under u roots all);
    count = omega (
      arith,
      sum_by-map (left_of bound (event_threshold g bound margin)) (bounded bound) roots,
      sum_ones (below bound (event_threshold g bound margin)) roots,
    );
    sums = λ f.
        sum_by-map (box_sum bound (event_threshold g bound margin) f) (bounded bound) roots
        ∙ sym (sum_cover_of bound (event_threshold g bound margin) f roots);
    few = omega (arith, length-map roots (bounded bound));
    cut = record {
      leaves = roots;
      cut = cut_none bound (event_threshold g bound margin) roots;
      sums = λ f. sum_by-map f (bounded bound) roots;
    };
  }

  -- the same boxes in another order
  pub bag_moved : (met : ℕ) (before after : List BoxBound) → IsPermutation before after → IsBag g roots bound margin met before
      → IsBag g roots bound margin met after
  bag_moved met before after same bag = record {
    known = all_permuted (IsKnown roots bound) before after same bag.known;
    caps = λ u all. bag.caps u (all_permuted (λ (b : BoxBound). IsUnder bound b.area u) after before (IsPermutation-sym before after same) all);
    count = omega (arith, bag.count, sum_by-IsPermutation (left_of bound (event_threshold g bound margin)) before after same);
    sums = λ f. sum_by-IsPermutation (box_sum bound (event_threshold g bound margin) f) before after same ∙ bag.sums f;
    few = omega (arith, bag.few, length_permutation before after same);
    cut = record {
      leaves = bag.cut.leaves;
      cut = bag.cut.cut;
      sums = λ f. sum_by-IsPermutation f before after same ∙ bag.cut.sums f;
    };
  }

  -- a box of some is nonempty
  pub known_nonempty : (b : BoxBound) → IsKnown roots bound b → IsNonempty b.area
  known_nonempty b known = in_nonempty g b.area (octree_inside g roots b.area are known.tree)

  all_back : (P : BoxBound → Type 0) (front back : List BoxBound) → AllByRecursion P (front ++ back) → AllByRecursion P back
  all_back P [] back all = all
  all_back P (b ∷ front) back (here, all) = all_back P front back all

  all_front : (P : BoxBound → Type 0) (front back : List BoxBound) → AllByRecursion P (front ++ back) → AllByRecursion P front
  all_front P [] back all = tt
  all_front P (b ∷ front) back (here, all) = (here, all_front P front back all)

  -- a box that the cover opens is opened
  pub bag_opened : (met : ℕ) (b : BoxBound) (rest : List BoxBound) → stops bound (event_threshold g bound margin) b.area ≡ false
      → IsBag g roots bound margin met (b ∷ rest)
      → IsBag g roots bound margin (met + length (children_of b.area)) (map (bounded bound) (children_of b.area) ++ rest)
  bag_opened met b rest open' bag =
      let t : ℕ = event_threshold g bound margin in
      let children : List NodeBox = children_of b.area in
      let more : List BoxBound = map (bounded bound) children in
      let known = bag.known.0 in
      let some : IsNonempty b.area = known_nonempty b known in
      let several = (neither (is_single b.area) _ open').0 in
      let trees = octree_children roots b.area known.tree several children (λ c at. at) in
      record {
        known = all-append (IsKnown roots bound) more rest (known_boxes children trees) bag.known.1;
        caps = λ u all.
            bag.caps u (
              under_children bound b.area u some (areas_under u children (all_front (λ (c : BoxBound). IsUnder bound c.area u) more rest all)),
              all_back (λ (c : BoxBound). IsUnder bound c.area u) more rest all,
            );
        count = omega (
          arith,
          bag.count,
          below_open bound t b.area some open',
          sum_by-cons (left_of bound t) b rest,
          sum_by-append (left_of bound t) more rest,
          sum_by-map (left_of bound t) (bounded bound) children,
          sum_ones (below bound t) children,
        );
        sums = λ f. omega (
          arith,
          bag.sums f,
          cover_sum-open bound t f b.area some open',
          sum_by-cons (box_sum bound t f) b rest,
          sum_by-append (box_sum bound t f) more rest,
          sum_by-map (box_sum bound t f) (bounded bound) children,
        );
        few = omega (arith, bag.few, length-append more rest, length-map children (bounded bound));
        cut = cut_into_opened bound t roots met b rest open' (ap (λ n. record b { bound = n }) known.bound_is) bag.cut;
      }
