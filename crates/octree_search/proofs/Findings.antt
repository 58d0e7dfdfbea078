-- What was found is the outcome.
use Rattle.std.proofs.Common.{◌≡◌, inl, inr, ℕ, ◌+◌, ◌≤◌, ◌<◌, arith, Bool, true, false, List, [], ◌∷◌, length, map, take, refl, ap, sym, ◌∙◌, subst, filter}
use Rattle.std.specs.Prelude.{◌==◌, nat_le, nat_lt, if◌then◌else◌, unwrap_or, option_map, Result, Ok, Err, IfOk}
use Rattle.std.specs.List.{find}
use Rattle.std.specs.List.Sorted.{IsPermutation, IsNonDecreasingBy}
use Rattle.std.proofs.lemmas.Bool.Decides.{nat_tests}
use Rattle.node_boxes.specs.declared.node_box.NodeBox.{NodeBox}
use Rattle.node_boxes.specs.declared.node_box.BoxBound.{BoxBound}
use Rattle.node_boxes.specs.Grid.{GridSize, node_count}
use Rattle.node_boxes.specs.GridOrder.{all_nodes}
use Rattle.node_boxes.specs.Roots.{AreRoots}
use Rattle.edt_score.specs.Best.{first_best}
use Rattle.edt_score.specs.Judging.{BoundsFall, judged_score}
use Rattle.octree_search.specs.declared.arena.Met.{Met}
use Rattle.octree_search.specs.declared.found.Found.{Found}
use Rattle.octree_search.specs.declared.found.Found.TheVariants.{Located, NoFit, Budget, NearLimit}
use Rattle.octree_search.specs.Cover.{cover_of, threshold_of}
use Rattle.octree_search.specs.Near.{best_of, near_list}
use Rattle.octree_search.specs.Fewest.{IsShortest, IsCoverShortest}
use Rattle.octree_search.specs.Outcomes.{LocatedValue, IsLocated, FitsNowhere, PassesBudget, PassesNearLimit, Asks, bounded, event_cover, event_met, event_near, event_threshold, found_of, found_value, located_value, outcome_of}
use Rattle.octree_search.specs.Arena.{areas_met, IsExplored}
use Rattle.octree_search.specs.Inside.NearBoxes.{near_in}
use Rattle.octree_search.proofs.Choices.{by_test}
use Rattle.octree_search.proofs.FewestBoxes.{shortest_cover}
use Rattle.octree_search.proofs.NearLists.{near_is}
use Rattle.octree_search.proofs.Thresholds.{threshold_le}

-- a number that is tested
pub eq_test : (a b : ℕ) → a ≡ b → (a == b) ≡ true
eq_test a b e = grind (arith, nat_tests)

pub not_eq_test : (a b : ℕ) → (a ≡ b → ⊥) → (a == b) ≡ false
not_eq_test a b e = elim (by_test (a == b)) [
  | inl same ↦ absurd (e (grind (arith, nat_tests)))
  | inr other ↦ other
]

pub lt_test : (a b : ℕ) → a < b → nat_lt a b ≡ true
lt_test a b e = grind (arith, nat_tests)

pub not_lt_test : (a b : ℕ) → b ≤ a → nat_lt a b ≡ false
not_lt_test a b e = grind (arith, nat_tests)

-- the first node with a score is among those that reach a threshold up to it
pub first_near : (score : ℕ → ℕ) (s t : ℕ) → t ≤ s → (nodes : List ℕ)
    → option_map (λ (e : ℕ × ℕ). e.0) (find (λ (e : ℕ × ℕ). e.1 == s) (map (λ n. (n, score n)) (filter (λ n. nat_le t (score n)) nodes)))
    ≡ find (λ n. score n == s) nodes
first_near score s t low [] = refl
first_near score s t low (n ∷ nodes) = elim (by_test (score n == s)) [
  | inl same ↦
      let is : score n ≡ s = grind (arith, nat_tests) in
      let near : nat_le t (score n) ≡ true = let reaches : t ≤ score n = omega (arith, low, is) in grind (arith, nat_tests) in
      rw (near, same) refl
  | inr other ↦ elim (by_test (nat_le t (score n))) [
    | inl near ↦ rw (near, other) (first_near score s t low nodes)
    | inr far ↦ rw (far, other) (first_near score s t low nodes)
  ]
]

-- boxes without their bounds
pub areas_bounded : (bound : NodeBox → ℕ) (areas : List NodeBox) → map (λ (b : BoxBound). b.area) (map (bounded bound) areas) ≡ areas
areas_bounded bound [] = refl
areas_bounded bound (a ∷ areas) = ap (λ rest. a ∷ rest) (areas_bounded bound areas)

module _ (g : GridSize) (roots : List NodeBox) (bound : NodeBox → ℕ) (margin : ℕ) (met : List Met) (best : ℕ) (are : AreRoots g roots)
    (falls : BoundsFall g roots bound) (explored : IsExplored g roots bound margin met best) where
  -- the boxes that were collected are the cover
  pub cover_is : (boxes : List BoxBound) (count : ℕ) → length roots ≡ count
      → boxes ≡ map (bounded bound) (cover_of bound (event_threshold g bound margin) (take count (areas_met met)))
      → boxes ≡ event_cover g roots bound margin
  cover_is boxes count long is =
      is ∙ ap (λ k. map (bounded bound) (cover_of bound (event_threshold g bound margin) (take k (areas_met met)))) (sym long)
      ∙ ap (λ rs. map (bounded bound) (cover_of bound (event_threshold g bound margin) rs)) explored.first

  -- the threshold that the search used
  pub least_is : (least : ℕ) → least ≡ threshold_of margin best → least ≡ event_threshold g bound margin
  least_is least is = is ∙ ap (threshold_of margin) explored.best_is

  -- and the near nodes are those of the event
  pub near_found : (boxes : List BoxBound) (least : ℕ) (near : List (ℕ × ℕ)) → boxes ≡ event_cover g roots bound margin → least ≡ event_threshold g bound margin
      → IsPermutation (near_in g least boxes) near → IsNonDecreasingBy (λ (e : ℕ × ℕ). e.0) near → near ≡ event_near g bound margin
  near_found boxes least near boxes_is least_is swaps order =
      near_is g roots bound (event_threshold g bound margin) are falls boxes near boxes_is
      (subst (λ t. IsPermutation (near_in g t boxes) near) least_is swaps) order

  -- no node scores
  pub found_none : (boxes : List BoxBound) (n : ℕ) → best ≡ 0 → boxes ≡ event_cover g roots bound margin → n ≡ length met
      → FitsNowhere boxes n ≡ found_of g roots bound margin
  unfolding found_of
  found_none boxes n none boxes_is n_is =
      let zero : (best_of g bound == 0) ≡ true = eq_test (best_of g bound) 0 (sym explored.best_is ∙ none) in
      rw zero (ap (λ b. FitsNowhere b n) boxes_is ∙ ap (FitsNowhere (event_cover g roots bound margin)) (n_is ∙ explored.count))

  -- too many are near
  pub found_many : (near : List (ℕ × ℕ)) → (best ≡ 0 → ⊥) → near ≡ event_near g bound margin → 100000 < length near
      → PassesNearLimit ≡ found_of g roots bound margin
  unfolding found_of
  found_many near some near_is many =
      let scores : (best_of g bound == 0) ≡ false = not_eq_test (best_of g bound) 0 (λ none. some (explored.best_is ∙ none)) in
      let past : nat_lt 100000 (length (event_near g bound margin)) ≡ true = lt_test 100000 (length (event_near g bound margin)) (subst (λ n. 100000 < length n) near_is many) in
      rw (scores, past) refl

  -- the first best node is the first of the near ones with the best score
  pub hyp_found : (hyp : ℕ) (near : List (ℕ × ℕ)) → (best ≡ 0 → ⊥) → near ≡ event_near g bound margin
      → hyp ≡ unwrap_or (option_map (λ (e : ℕ × ℕ). e.0) (find (λ (e : ℕ × ℕ). e.1 == best) near)) 0
      → hyp ≡ unwrap_or (first_best (node_count g) (judged_score g bound)) 0
  unfolding near_list first_best
  hyp_found hyp near some near_is is =
      let s : ℕ = best_of g bound in
      let scores : 1 ≤ s = some_score (best_of g bound) (λ none. some (explored.best_is ∙ none)) in
      let low : event_threshold g bound margin ≤ s = omega (arith, threshold_le margin s, scores) in
      is ∙ ap (λ b. unwrap_or (option_map (λ (e : ℕ × ℕ). e.0) (find (λ (e : ℕ × ℕ). e.1 == b) near)) 0) explored.best_is
      ∙ ap (λ n. unwrap_or (option_map (λ (e : ℕ × ℕ). e.0) (find (λ (e : ℕ × ℕ). e.1 == s) n)) 0) near_is
      ∙ ap (λ o. unwrap_or o 0) (first_near (judged_score g bound) s (event_threshold g bound margin) low (all_nodes (node_count g)))
    where
      some_score : (n : ℕ) → (n ≡ 0 → ⊥) → 1 ≤ n
      some_score n some = elim (by_test (n == 0)) [
        | inl none ↦ absurd (some (grind (arith, nat_tests)))
        | inr more ↦ grind (arith, nat_tests)
      ]

  -- the event is located
  pub found_located : (hyp : ℕ) (near : List (ℕ × ℕ)) (boxes : List BoxBound) (n : ℕ) → (best ≡ 0 → ⊥)
      → hyp ≡ unwrap_or (first_best (node_count g) (judged_score g bound)) 0 → near ≡ event_near g bound margin → length near ≤ 100000
      → boxes ≡ event_cover g roots bound margin → n ≡ length met
      → IsLocated (record { hyp = hyp; score = best; near = near; boxes = boxes; met = n }) ≡ found_of g roots bound margin
  unfolding found_of
  found_located hyp near boxes n some hyp_is near_is few boxes_is n_is =
      let scores : (best_of g bound == 0) ≡ false = not_eq_test (best_of g bound) 0 (λ none. some (explored.best_is ∙ none)) in
      let within : nat_lt 100000 (length (event_near g bound margin)) ≡ false =
      not_lt_test 100000 (length (event_near g bound margin)) (subst (λ n. length n ≤ 100000) near_is few) in
      let met_is : n ≡ event_met g roots bound margin = n_is ∙ explored.count in
      rw (scores, within) (
      ap (λ h. IsLocated (record { hyp = h; score = best; near = near; boxes = boxes; met = n })) hyp_is
      ∙ ap (λ s. IsLocated (record { hyp = unwrap_or (first_best (node_count g) (judged_score g bound)) 0; score = s; near = near; boxes = boxes; met = n })) explored.best_is
      ∙ ap (λ l. IsLocated (record { hyp = unwrap_or (first_best (node_count g) (judged_score g bound)) 0; score = best_of g bound; near = l; boxes = boxes; met = n })) near_is
      ∙ ap (λ b. IsLocated (record { hyp = unwrap_or (first_best (node_count g) (judged_score g bound)) 0; score = best_of g bound; near = event_near g bound margin; boxes = b; met = n })) boxes_is
      ∙ ap (λ m. IsLocated (record { hyp = unwrap_or (first_best (node_count g) (judged_score g bound)) 0; score = best_of g bound; near = event_near g bound margin; boxes = event_cover g roots bound margin; met = m })) met_is
      )

-- within the budget and past it
pub outcome_within : (g : GridSize) (roots : List NodeBox) (bound : NodeBox → ℕ) (margin budget : ℕ) → event_met g roots bound margin ≤ budget
    → found_of g roots bound margin ≡ outcome_of g roots bound margin budget
unfolding outcome_of
outcome_within g roots bound margin budget few =
    let within : nat_lt budget (event_met g roots bound margin) ≡ false = not_lt_test budget (event_met g roots bound margin) few in
    rw within refl

pub outcome_past : (g : GridSize) (roots : List NodeBox) (bound : NodeBox → ℕ) (margin budget : ℕ) → budget < event_met g roots bound margin
    → PassesBudget ≡ outcome_of g roots bound margin budget
unfolding outcome_of
outcome_past g roots bound margin budget past =
    let over : nat_lt budget (event_met g roots bound margin) ≡ true = lt_test budget (event_met g roots bound margin) past in
    rw over refl

-- how often the judge was asked, whatever was found
pub asks_all : (before after budget met : ℕ) → after ≡ before + met → met ≤ budget → (f : Found) → Asks before after budget met f
asks_all before after budget met is few (Located _) = is
asks_all before after budget met is few (NoFit _ _) = is
asks_all before after budget met is few Budget = omega (arith, is, few)
asks_all before after budget met is few NearLimit = is

-- the parts of an outcome, told apart by its tests
pub located_is : (a b c : Bool) (boxes : List BoxBound) (n : ℕ) (value event : LocatedValue)
    → IsLocated event ≡ (if a then PassesBudget else (if b then FitsNowhere boxes n else if c then PassesNearLimit else IsLocated value)) → event.boxes ≡ value.boxes
located_is true b c boxes n value event is = absurd cc
located_is false true c boxes n value event is = absurd cc
located_is false false true boxes n value event is = absurd cc
located_is false false false boxes n value event is = let same : event ≡ value = cc in ap (λ (v : LocatedValue). v.boxes) same

pub fits_is : (a b c : Bool) (boxes : List BoxBound) (n : ℕ) (value : LocatedValue) (found : List BoxBound) (m : ℕ)
    → FitsNowhere found m ≡ (if a then PassesBudget else (if b then FitsNowhere boxes n else if c then PassesNearLimit else IsLocated value)) → found ≡ boxes
fits_is true b c boxes n value found m is = absurd cc
fits_is false true c boxes n value found m is = cc
fits_is false false true boxes n value found m is = absurd cc
fits_is false false false boxes n value found m is = absurd cc

-- the cover of what was found has the fewest boxes
pub shortest_found : (g : GridSize) (roots : List NodeBox) (bound : NodeBox → ℕ) (margin budget : ℕ) → AreRoots g roots → (f : Found)
    → found_value f ≡ outcome_of g roots bound margin budget → IsCoverShortest roots bound (event_threshold g bound margin) f
unfolding outcome_of found_of
shortest_found g roots bound margin budget are (Located event) is =
    let boxes : event.cover.items ≡ event_cover g roots bound margin =
    located_is (nat_lt budget (event_met g roots bound margin)) (best_of g bound == 0) (nat_lt 100000 (length (event_near g bound margin)))
    (event_cover g roots bound margin) (event_met g roots bound margin) (located_value g roots bound margin)
    (record { hyp = event.hyp; score = event.score; near = event.near.items; boxes = event.cover.items; met = event.met }) is in
    subst (IsShortest roots bound (event_threshold g bound margin))
    (sym (ap (map (λ (b : BoxBound). b.area)) boxes ∙ areas_bounded bound (cover_of bound (event_threshold g bound margin) roots)))
    (shortest_cover g roots bound (event_threshold g bound margin) are)
shortest_found g roots bound margin budget are (NoFit found met) is =
    let boxes : found.items ≡ event_cover g roots bound margin =
    fits_is (nat_lt budget (event_met g roots bound margin)) (best_of g bound == 0) (nat_lt 100000 (length (event_near g bound margin)))
    (event_cover g roots bound margin) (event_met g roots bound margin) (located_value g roots bound margin) found.items met is in
    subst (IsShortest roots bound (event_threshold g bound margin))
    (sym (ap (map (λ (b : BoxBound). b.area)) boxes ∙ areas_bounded bound (cover_of bound (event_threshold g bound margin) roots)))
    (shortest_cover g roots bound (event_threshold g bound margin) are)
shortest_found g roots bound margin budget are Budget is = tt
shortest_found g roots bound margin budget are NearLimit is = tt

-- what follows from an answer
pub ok_then : {T E : Type 0} (P Q : T → Type 0) (r : Result T E) → ((x : T) → P x → Q x) → IfOk r P → IfOk r Q
ok_then P Q (Ok x) step h = step x h
ok_then P Q (Err e) step h = tt

-- and what holds of every answer
pub asks_result : {E : Type 0} {P : Found → Type 0} (r : Result Found E) → ((f : Found) → P f) → IfOk r P
asks_result (Ok f) each = each f
asks_result (Err e) each = tt
