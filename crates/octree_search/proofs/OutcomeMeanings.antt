-- What an outcome says.
use Rattle.std.proofs.Common.{◌≡◌, inl, inr, All, ℕ, ◌≤◌, ◌<◌, arith, Bool, true, false, List, length, refl, ap, sym, ◌∙◌, subst, filter, ◌==◌, nat_lt, if◌then◌else◌, unwrap_or}
use Rattle.std.proofs.lemmas.Bool.Decides.{nat_tests}
use Rattle.std.specs.List.{AllByRecursion}
use Rattle.std.proofs.lemmas.List.{length-map}
use Rattle.std.proofs.lemmas.List.Elements.{All-from_recursion}
use Rattle.std.proofs.lemmas.List.FromFn.{length-range_with_len}
use Rattle.std.proofs.lemmas.List.Sums.{count_by-le-length, length-filter}
use Rattle.node_boxes.specs.declared.node_box.NodeBox.{NodeBox}
use Rattle.node_boxes.specs.declared.node_box.BoxBound.{BoxBound}
use Rattle.node_boxes.specs.Boxes.{IsIn, IsPartOf, is_single}
use Rattle.node_boxes.specs.Grid.{GridSize, node_count}
use Rattle.node_boxes.specs.GridOrder.{all_nodes}
use Rattle.node_boxes.specs.Roots.{AreRoots}
use Rattle.node_boxes.proofs.Lists.{all-flat_map, all-map, all-weaker}
use Rattle.node_boxes.proofs.OctreeBoxes.{in_nonempty, part_inside}
use Rattle.edt_score.specs.Best.{IsFirstBest, first_best}
use Rattle.edt_score.specs.Judging.{judged_score}
use Rattle.edt_score.proofs.BestNodes.{best_score-is, first_best-is, IsFirstBest-exists}
use Rattle.octree_search.specs.Cover.{cover, cover_of, stops, threshold_of}
use Rattle.octree_search.specs.Fewest.{HasShortestCover, IsShortest, IsShortestCover}
use Rattle.octree_search.specs.Meanings.{IsLocatedAtBest, Says}
use Rattle.octree_search.specs.Near.{best_of, is_near, near_list, scored}
use Rattle.octree_search.specs.Outcomes.{IsLocated, FitsNowhere, PassesBudget, PassesNearLimit, bounded, event_cover, event_met, event_near, event_threshold, found_of, located_value, outcome_of}
use Rattle.octree_search.proofs.Choices.{all-both, or_cases}
use Rattle.octree_search.proofs.FewestBoxes.{at_most_nodes, cover_parts, roots_nonempty, shortest_cover}
use Rattle.octree_search.proofs.OctreeCovers.{covers_stop}
use Rattle.octree_search.proofs.Scores.{best_single}
use Rattle.octree_search.proofs.Findings.{areas_bounded}

-- near nodes are nodes
pub near_few : (g : GridSize) (bound : NodeBox → ℕ) (t : ℕ) → length (near_list g bound t) ≤ node_count g
unfolding near_list
near_few g bound t =
    let nodes : List ℕ = all_nodes (node_count g) in
    omega (
      arith,
      length-map (filter (is_near g bound t) nodes) (scored g bound),
      length-filter (is_near g bound t) nodes,
      count_by-le-length (is_near g bound t) nodes,
      length-range_with_len 0 (node_count g),
    )

-- the boxes of a cover lie in the grid
cover_within_grid : (g : GridSize) (roots : List NodeBox) (bound : NodeBox → ℕ) (t : ℕ) → AreRoots g roots
    → AllByRecursion (IsIn g) (cover_of bound t roots)
cover_within_grid g roots bound t are =
    all-flat_map (IsIn g) (IsIn g) (cover bound t)
    (λ r inside. all-weaker (IsPartOf r) (IsIn g) (λ b part. part_inside g r b inside part) (cover bound t r) (cover_parts bound t r (in_nonempty g r inside)))
    roots are.inside

-- a box that stops where no node scores has the bound 0
stops_at_zero : (g : GridSize) (bound : NodeBox → ℕ) (t : ℕ) (a : NodeBox) → IsIn g a → best_of g bound ≡ 0 → t ≡ 1
    → stops bound t a ≡ true → bound a ≡ 0
stops_at_zero g bound t a inside none least stop = elim (or_cases (is_single a) (nat_lt (bound a) t) stop) [
  | inl single ↦ let below' = best_single g bound a inside single in omega (arith, below', none)
  | inr low ↦ grind (arith, nat_tests)
]

module _ (g : GridSize) (roots : List NodeBox) (bound : NodeBox → ℕ) (margin : ℕ) where
  -- the cover of an event has at most as many boxes as there are nodes
  cover_few : AreRoots g roots → length (event_cover g roots bound margin) ≤ node_count g
  cover_few are =
      omega (
        arith,
        length-map (cover_of bound (event_threshold g bound margin) roots) (bounded bound),
        at_most_nodes g roots bound (event_threshold g bound margin) are,
      )

  -- a located event is at its best node
  located_best : AreRoots g roots → 1 ≤ node_count g → 1 ≤ best_of g bound → length (event_near g bound margin) ≤ 100000
      → IsLocatedAtBest g bound (located_value g roots bound margin)
  located_best are some scores few =
      let there = IsFirstBest-exists (node_count g) (judged_score g bound) some in
      let is : unwrap_or (first_best (node_count g) (judged_score g bound)) 0 ≡ there.0 =
      ap (λ o. unwrap_or o 0) (first_best-is (node_count g) (judged_score g bound) there.0 there.1) in
      record {
        first = subst (IsFirstBest (node_count g) (judged_score g bound)) (sym is) there.1;
        score = best_score-is (node_count g) (judged_score g bound) there.0 there.1 ∙ sym (ap (judged_score g bound) is);
        some = scores;
        near = few;
        boxes = cover_few are;
      }

  -- what an outcome says, by its tests
  says_by : (budget : ℕ) (a b c : Bool) → (a ≡ true → budget < event_met g roots bound margin)
      → (b ≡ true → (best_of g bound ≡ 0) × (length (event_cover g roots bound margin) ≤ node_count g))
      → (c ≡ true → 100000 < length (event_near g bound margin))
      → (b ≡ false → c ≡ false → IsLocatedAtBest g bound (located_value g roots bound margin))
      → Says g roots bound margin budget (if a then PassesBudget else (if b then FitsNowhere (event_cover g roots bound margin) (event_met g roots bound margin)
      else if c then PassesNearLimit else IsLocated (located_value g roots bound margin)))
  says_by budget true b c past none many here = past refl
  says_by budget false true c past none many here = none refl
  says_by budget false false true past none many here = many refl
  says_by budget false false false past none many here = here refl refl

  pub outcome_says-at : (budget : ℕ) → AreRoots g roots → 1 ≤ node_count g
      → Says g roots bound margin budget (outcome_of g roots bound margin budget)
  unfolding outcome_of found_of
  outcome_says-at budget are some =
      says_by budget (nat_lt budget (event_met g roots bound margin)) (best_of g bound == 0) (nat_lt 100000 (length (event_near g bound margin)))
      (λ past. grind (arith, nat_tests))
      (λ none. (grind (arith, nat_tests), cover_few are))
      (λ many. grind (arith, nat_tests))
      (λ scores few. located_best are some (grind (arith, nat_tests)) (grind (arith, nat_tests)))

  -- the cover of a threshold, as the shortest of its kind
  rule_cover : AreRoots g roots → (t : ℕ) → event_threshold g bound margin ≡ t → IsShortestCover roots bound t (event_cover g roots bound margin)
  rule_cover are t is = subst (λ u. IsShortestCover roots bound u (event_cover g roots bound margin)) is (record {
    rule = refl;
    shortest = subst (IsShortest roots bound (event_threshold g bound margin))
        (sym (areas_bounded bound (cover_of bound (event_threshold g bound margin) roots)))
        (shortest_cover g roots bound (event_threshold g bound margin) are);
  })

  shortest_by : (a b c : Bool) → AreRoots g roots → (b ≡ true → best_of g bound ≡ 0)
      → HasShortestCover roots bound margin (if a then PassesBudget else (if b then FitsNowhere (event_cover g roots bound margin) (event_met g roots bound margin)
      else if c then PassesNearLimit else IsLocated (located_value g roots bound margin)))
  shortest_by true b c are none = tt
  shortest_by false true c are none = rule_cover are 1 (ap (threshold_of margin) (none refl) ∙ omega arith)
  shortest_by false false true are none = tt
  shortest_by false false false are none = rule_cover are (event_threshold g bound margin) refl

  pub outcome_shortest-at : (budget : ℕ) → AreRoots g roots → HasShortestCover roots bound margin (outcome_of g roots bound margin budget)
  unfolding outcome_of found_of
  outcome_shortest-at budget are =
      shortest_by (nat_lt budget (event_met g roots bound margin)) (best_of g bound == 0) (nat_lt 100000 (length (event_near g bound margin))) are
      (λ none. grind (arith, nat_tests))

pub outcome_says : (g : GridSize) (roots : List NodeBox) (bound : NodeBox → ℕ) (margin budget : ℕ) → AreRoots g roots → 1 ≤ node_count g
    → Says g roots bound margin budget (outcome_of g roots bound margin budget)
outcome_says g roots bound margin budget = outcome_says-at g roots bound margin budget

pub outcome_shortest : (g : GridSize) (roots : List NodeBox) (bound : NodeBox → ℕ) (margin budget : ℕ) → AreRoots g roots
    → HasShortestCover roots bound margin (outcome_of g roots bound margin budget)
outcome_shortest g roots bound margin budget = outcome_shortest-at g roots bound margin budget

-- where no node scores, every bound of the cover is 0
pub zero_bounds : (g : GridSize) (roots : List NodeBox) (bound : NodeBox → ℕ) (margin : ℕ) → AreRoots g roots → best_of g bound ≡ 0
    → All (λ (b : BoxBound). b.bound ≡ 0) (event_cover g roots bound margin)
zero_bounds g roots bound margin are none =
    let t : ℕ = event_threshold g bound margin in
    let least : t ≡ 1 = ap (threshold_of margin) none ∙ omega arith in
    All-from_recursion (λ (b : BoxBound). b.bound ≡ 0) (event_cover g roots bound margin)
    (all-map (λ a. bound a ≡ 0) (λ (b : BoxBound). b.bound ≡ 0) (bounded bound) (λ a zero. zero) (cover_of bound t roots)
    (all-both (IsIn g) (λ a. stops bound t a ≡ true) (λ a. bound a ≡ 0) (λ a inside stop. stops_at_zero g bound t a inside none least stop)
    (cover_of bound t roots) (cover_within_grid g roots bound t are) (covers_stop bound t roots (roots_nonempty g roots are))))
