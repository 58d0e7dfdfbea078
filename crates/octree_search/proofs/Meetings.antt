-- Boxes that are met one after another.
use Rattle.std.proofs.Common.{◌≡◌, inl, inr, ℕ, zero, suc, ◌+◌, ◌≤◌, ◌<◌, arith, Bool, true, false, List, [], ◌∷◌, ◌++◌, length, get_or, map, take, max, refl, ap, sym, ◌∙◌, subst, sum_by, Contains}
use Rattle.std.specs.Prelude.{◌||◌, nat_lt, if◌then◌else◌}
use Rattle.std.specs.List.{AllByRecursion}
use Rattle.std.specs.List.Sorted.{IsPermutation}
use Rattle.std.proofs.lemmas.Bool.Decides.{nat_tests}
use Rattle.std.proofs.lemmas.List.{append_assoc, append-nil, length-take-le, map-append, take_more}
use Rattle.std.proofs.lemmas.List.Sorted.{IsPermutation-append_comm, IsPermutation-append_left, IsPermutation-append_right, IsPermutation-trans}
use Rattle.std.proofs.lemmas.List.Elements.{Contains-append_right}
use Rattle.std.proofs.lemmas.List.Sums.{sum_by-cons, sum_by-append}
use Rattle.node_boxes.specs.declared.node_box.NodeBox.{NodeBox}
use Rattle.node_boxes.specs.Grid.{GridSize}
use Rattle.node_boxes.specs.Boxes.{is_single}
use Rattle.node_boxes.specs.Roots.{AreRoots}
use Rattle.node_boxes.specs.Octree.{IsOctreeBox}
use Rattle.node_boxes.proofs.OctreeBoxes.{octree_inside}
use Rattle.edt_score.specs.Judging.{BoundsFall}
use Rattle.octree_search.specs.declared.arena.Met.{Met}
use Rattle.octree_search.specs.declared.queue.Waiting.{Waiting}
use Rattle.octree_search.specs.Cover.{threshold_of, stops, below}
use Rattle.octree_search.specs.Near.{best_of}
use Rattle.octree_search.specs.Arena.{fresh, waiting}
use Rattle.octree_search.specs.Inside.Meeting.{best_with, best_after, wait_of, waits}
use Rattle.octree_search.proofs.Choices.{by_test, or_cases, or_first, or_second, neither}
use Rattle.octree_search.proofs.Covers.{below_stop}
use Rattle.octree_search.proofs.Scores.{IsUnder, dominated, best_single, single_unit}
use Rattle.octree_search.proofs.Thresholds.{threshold_up, threshold_le}

module _ (margin : ℕ) (bound : NodeBox → ℕ) where
  -- one more box
  pub best_after-more : (best : ℕ) (areas : List NodeBox) (a : NodeBox)
      → best_after bound best (areas ++ a ∷ []) ≡ best_with bound (best_after bound best areas) a
  best_after-more best [] a = refl
  best_after-more best (b ∷ areas) a = best_after-more (best_with bound best b) areas a

  pub waits-more : (best from : ℕ) (areas : List NodeBox) (a : NodeBox)
      → waits margin bound best from (areas ++ a ∷ []) ≡ waits margin bound best from areas ++ wait_of margin bound (best_after bound best areas) (from + length areas) a
  waits-more best from [] a =
      let here : from ≡ from + 0 = omega arith in
      append-nil (wait_of margin bound best from a) ∙ ap (λ place. wait_of margin bound best place a) here
  waits-more best from (b ∷ areas) a =
      let here : from + 1 + length areas ≡ from + suc (length areas) = omega arith in
      ap (λ rest. wait_of margin bound best from b ++ rest) (waits-more (best_with bound best b) (from + 1) areas a
      ∙ ap (λ place. waits margin bound (best_with bound best b) (from + 1) areas ++ wait_of margin bound (best_after bound (best_with bound best b) areas) place a) here)
      ∙ sym (append_assoc (wait_of margin bound best from b) (waits margin bound (best_with bound best b) (from + 1) areas)
      (wait_of margin bound (best_after bound (best_with bound best b) areas) (from + suc (length areas)) a))

  -- the best score known never falls
  pub best_with-up : (best : ℕ) (a : NodeBox) → best ≤ best_with bound best a
  best_with-up best a = best_with-up-by (is_single a)
    where
      best_with-up-by : (b : Bool) → best ≤ (if b then max best (bound a) else best)
      best_with-up-by true = omega arith
      best_with-up-by false = omega arith

  pub best_after-up : (best : ℕ) (areas : List NodeBox) → best ≤ best_after bound best areas
  best_after-up best [] = omega arith
  best_after-up best (a ∷ areas) = omega (arith, best_with-up best a, best_after-up (best_with bound best a) areas)

  -- and a single box's score is at most that
  pub best_with-single : (best : ℕ) (a : NodeBox) → is_single a ≡ true → bound a ≤ best_with bound best a
  best_with-single best a single = rw single (omega arith)

  -- a box that is met waits where it has to be opened
  pub wait_here : (best from t : ℕ) (a : NodeBox) → threshold_of margin best ≤ t → stops bound t a ≡ false
      → wait_of margin bound best from a ≡ waiting bound from a ∷ []
  wait_here best from t a low open' =
      let parts = neither (is_single a) (nat_lt (bound a) t) open' in
      let high : nat_lt (bound a) (threshold_of margin best) ≡ false = let far = parts.1 in grind (arith, nat_tests) in
      rw (parts.0, high) refl

  -- and where it doesn't wait, it is single or below the threshold
  pub wait_not : (best from : ℕ) (a : NodeBox) → (is_single a || nat_lt (bound a) (threshold_of margin best)) ≡ true
      → wait_of margin bound best from a ≡ []
  wait_not best from a stop = rw stop refl

  pub wait_so : (best from : ℕ) (a : NodeBox) → (is_single a || nat_lt (bound a) (threshold_of margin best)) ≡ false
      → wait_of margin bound best from a ≡ waiting bound from a ∷ []
  wait_so best from a go = rw go refl

  -- what is below the threshold of a smaller best score stops at a greater one
  pub stops_up : (best t : ℕ) (a : NodeBox) → threshold_of margin best ≤ t → (is_single a || nat_lt (bound a) (threshold_of margin best)) ≡ true
      → stops bound t a ≡ true
  stops_up best t a low stop = elim (or_cases (is_single a) (nat_lt (bound a) (threshold_of margin best)) stop) [
    | inl single ↦ or_first (is_single a) (nat_lt (bound a) t) single
    | inr less ↦ or_second (is_single a) (nat_lt (bound a) t) (grind (arith, nat_tests))
  ]

  pub waits_have : (t : ℕ) (areas : List NodeBox) (best from j : ℕ) (d : NodeBox) → j < length areas
      → threshold_of margin (best_after bound best areas) ≤ t → stops bound t (get_or areas j d) ≡ false
      → Contains (waits margin bound best from areas) (waiting bound (from + j) (get_or areas j d))
  waits_have t [] best from j d below' low open' = absurd (omega (arith, below'))
  waits_have t (a ∷ areas) best from zero d below' low open' =
      let up = threshold_up margin best (best_after bound (best_with bound best a) areas)
      (omega (arith, best_with-up best a, best_after-up (best_with bound best a) areas)) in
      let here : from ≡ from + 0 = omega arith in
      subst (λ front. Contains (front ++ waits margin bound (best_with bound best a) (from + 1) areas) (waiting bound (from + 0) a))
      (sym (wait_here best from t a (omega (arith, up, low)) open'))
      (0, omega arith, ap (λ place. waiting bound place a) here)
  waits_have t (a ∷ areas) best from (suc j) d below' low open' =
      let here : from + 1 + j ≡ from + suc j = omega arith in
      Contains-append_right (wait_of margin bound best from a) (waits margin bound (best_with bound best a) (from + 1) areas) (waiting bound (from + suc j) (get_or areas j d))
      (subst (λ place. Contains (waits margin bound (best_with bound best a) (from + 1) areas) (waiting bound place (get_or areas j d))) here
      (waits_have t areas (best_with bound best a) (from + 1) j d (omega (arith, below')) low open'))

  -- the boxes that are met below those that wait are those below all boxes
  pub left_waits : (t : ℕ) (areas : List NodeBox) (best from : ℕ) → threshold_of margin (best_after bound best areas) ≤ t
      → sum_by (λ (w : Waiting). below bound t w.area) (waits margin bound best from areas) ≡ sum_by (below bound t) areas
  left_waits t [] best from low = refl
  left_waits t (a ∷ areas) best from low =
      let up = threshold_up margin best (best_after bound (best_with bound best a) areas)
      (omega (arith, best_with-up best a, best_after-up (best_with bound best a) areas)) in
      let rest = left_waits t areas (best_with bound best a) (from + 1) low in
      let parted = sum_by-append (λ (w : Waiting). below bound t w.area) (wait_of margin bound best from a) (waits margin bound (best_with bound best a) (from + 1) areas) in
      elim (by_test (is_single a || nat_lt (bound a) (threshold_of margin best))) [
        | inl stop ↦
            let none : sum_by (λ (w : Waiting). below bound t w.area) (wait_of margin bound best from a) ≡ 0 =
            ap (sum_by (λ (w : Waiting). below bound t w.area)) (wait_not best from a stop) in
            omega (arith, rest, parted, none, below_stop bound t a (stops_up best t a (omega (arith, up, low)) stop), sum_by-cons (below bound t) a areas)
        | inr go ↦
            let one : sum_by (λ (w : Waiting). below bound t w.area) (wait_of margin bound best from a) ≡ 0 + below bound t a =
            ap (sum_by (λ (w : Waiting). below bound t w.area)) (wait_so best from a go) in
            omega (arith, rest, parted, one, sum_by-cons (below bound t) a areas)
      ]

  -- so many at most wait
  pub few_waits : (areas : List NodeBox) (best from : ℕ) → length (waits margin bound best from areas) ≤ length areas
  few_waits [] best from = omega arith
  few_waits (a ∷ areas) best from =
      let rest = few_waits areas (best_with bound best a) (from + 1) in
      elim (by_test (is_single a || nat_lt (bound a) (threshold_of margin best))) [
        | inl stop ↦ rw (wait_not best from a stop) (omega (arith, rest))
        | inr go ↦ rw (wait_so best from a go) (omega (arith, rest))
      ]

-- what the scores of boxes that are met, and of those that wait, say of the best score
module _ (margin : ℕ) (g : GridSize) (roots : List NodeBox) (bound : NodeBox → ℕ) where
  -- the best score known isn't above the best one
  pub best_after-le : AreRoots g roots → (areas : List NodeBox) (best : ℕ) → best ≤ best_of g bound → AllByRecursion (IsOctreeBox roots) areas
      → best_after bound best areas ≤ best_of g bound
  best_after-le are [] best low trees = low
  best_after-le are (a ∷ areas) best low (tree, trees) =
      best_after-le are areas (best_with bound best a) (elim (by_test (is_single a)) [
        | inl single ↦ rw single (omega (arith, low, best_single g bound a (octree_inside g roots a are tree) single))
        | inr several ↦ rw several low
      ]) trees

  -- a single box whose bound isn't above u has no node that is
  pub single_under : (a : NodeBox) (u : ℕ) → is_single a ≡ true → bound a ≤ u → IsUnder bound a u
  single_under a u single low ix iy iz at =
      let is = single_unit a ix iy iz single at in rw (sym is) low

  -- where no node of the boxes that wait scores more than u, which isn't below the best score known, none of all boxes does
  pub waits_under : AreRoots g roots → BoundsFall g roots bound → (areas : List NodeBox) (best from u : ℕ) → AllByRecursion (IsOctreeBox roots) areas
      → best_after bound best areas ≤ u → AllByRecursion (λ (w : Waiting). IsUnder bound w.area u) (waits margin bound best from areas)
      → AllByRecursion (λ a. IsUnder bound a u) areas
  waits_under are falls [] best from u trees low all = tt
  waits_under are falls (a ∷ areas) best from u (tree, trees) low all =
      let first = best_with-up margin bound best a in
      let later = best_after-up margin bound (best_with bound best a) areas in
      elim (by_test (is_single a || nat_lt (bound a) (threshold_of margin best))) [
        | inl stop ↦
            let rest : AllByRecursion (λ (w : Waiting). IsUnder bound w.area u) (waits margin bound (best_with bound best a) (from + 1) areas) =
            subst (λ front. AllByRecursion (λ (w : Waiting). IsUnder bound w.area u) (front ++ waits margin bound (best_with bound best a) (from + 1) areas))
            (wait_not margin bound best from a stop) all in (
              elim (or_cases (is_single a) (nat_lt (bound a) (threshold_of margin best)) stop) [
                | inl single ↦ single_under a u single (omega (arith, best_with-single margin bound best a single, later, low))
                | inr less ↦ λ ix iy iz at.
                    let below' : bound a < threshold_of margin best = grind (arith, nat_tests) in
                    let under = dominated g roots bound are falls a tree ix iy iz at in
                    omega (arith, below', under, threshold_le margin best, first, later, low)
              ],
              waits_under are falls areas (best_with bound best a) (from + 1) u trees low rest,
            )
        | inr go ↦
            let both : IsUnder bound a u × AllByRecursion (λ (w : Waiting). IsUnder bound w.area u) (waits margin bound (best_with bound best a) (from + 1) areas) =
            subst (λ front. AllByRecursion (λ (w : Waiting). IsUnder bound w.area u) (front ++ waits margin bound (best_with bound best a) (from + 1) areas))
            (wait_so margin bound best from a go) all in
            (both.0, waits_under are falls areas (best_with bound best a) (from + 1) u trees low both.1)
      ]

-- one more box of a list is met
module _ (margin : ℕ) (bound : NodeBox → ℕ) where
  pub met_more : (met now new : List Met) (areas : List NodeBox) (i : ℕ) (d : NodeBox) → i < length areas
      → now ≡ met ++ map (fresh bound) (take i areas) → new ≡ now ++ fresh bound (get_or areas i d) ∷ []
      → new ≡ met ++ map (fresh bound) (take (i + 1) areas)
  met_more met now new areas i d below' now_is new_is =
      new_is ∙ ap (λ front. front ++ fresh bound (get_or areas i d) ∷ []) now_is
      ∙ append_assoc met (map (fresh bound) (take i areas)) (fresh bound (get_or areas i d) ∷ [])
      ∙ ap (λ rest. met ++ rest) (sym (map-append (fresh bound) (take i areas) (get_or areas i d ∷ [])))
      ∙ ap (λ all. met ++ map (fresh bound) all) (sym (take_more areas i d below'))

  pub best_more : (best now new : ℕ) (areas : List NodeBox) (i : ℕ) (d : NodeBox) → i < length areas
      → now ≡ best_after bound best (take i areas) → new ≡ best_with bound now (get_or areas i d)
      → new ≡ best_after bound best (take (i + 1) areas)
  best_more best now new areas i d below' now_is new_is =
      new_is ∙ ap (λ b. best_with bound b (get_or areas i d)) now_is ∙ sym (best_after-more margin bound best (take i areas) (get_or areas i d))
      ∙ ap (best_after bound best) (sym (take_more areas i d below'))

  pub queue_more : (best known from place : ℕ) (queue now new : List Waiting) (areas : List NodeBox) (i : ℕ) (d : NodeBox) → i < length areas
      → known ≡ best_after bound best (take i areas) → place ≡ from + i
      → IsPermutation (waits margin bound best from (take i areas) ++ queue) now
      → IsPermutation (wait_of margin bound known place (get_or areas i d) ++ now) new
      → IsPermutation (waits margin bound best from (take (i + 1) areas) ++ queue) new
  queue_more best known from place queue now new areas i d below' known_is place_is before after =
      let ws : List Waiting = waits margin bound best from (take i areas) in
      let one : List Waiting = wait_of margin bound known place (get_or areas i d) in
      let long : place ≡ from + length (take i areas) = omega (arith, place_is, length-take-le i areas (omega (arith, below'))) in
      let all : waits margin bound best from (take (i + 1) areas) ≡ ws ++ one =
      ap (waits margin bound best from) (take_more areas i d below') ∙ waits-more margin bound best from (take i areas) (get_or areas i d)
      ∙ ap (λ b. ws ++ wait_of margin bound b (from + length (take i areas)) (get_or areas i d)) (sym known_is)
      ∙ ap (λ k. ws ++ wait_of margin bound known k (get_or areas i d)) (sym long) in
      let turned : IsPermutation ((ws ++ one) ++ queue) ((one ++ ws) ++ queue) = IsPermutation-append_left queue (ws ++ one) (one ++ ws) (IsPermutation-append_comm ws one) in
      let inner : IsPermutation (one ++ (ws ++ queue)) (one ++ now) = IsPermutation-append_right one (ws ++ queue) now before in
      let joined : IsPermutation ((one ++ ws) ++ queue) (one ++ now) =
      subst (λ xs. IsPermutation xs (one ++ now)) (sym (append_assoc one ws queue)) inner in
      subst (λ xs. IsPermutation (xs ++ queue) new) (sym all)
      (IsPermutation-trans ((ws ++ one) ++ queue) (one ++ now) new
      (IsPermutation-trans ((ws ++ one) ++ queue) ((one ++ ws) ++ queue) (one ++ now) turned joined) after)
