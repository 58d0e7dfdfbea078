-- The greatest bound of all open and held boxes, which never rises, and what it means that the budget was passed.
use Rattle.std.proofs.Common.{◌≡◌, inl, inr, ℕ, ◌+◌, ◌≤◌, ◌<◌, arith, false, List, [], ◌∷◌, ◌++◌, length, get_or, max, refl, ap, sum_by, subst, Contains, All}
use Rattle.std.specs.Prelude.{nat_lt}
use Rattle.std.specs.List.{AllByRecursion}
use Rattle.std.specs.List.Sorted.{IsPermutation}
use Rattle.std.proofs.lemmas.Bool.Decides.{nat_tests}
use Rattle.std.proofs.lemmas.List.Elements.{All-from_recursion, recursion_from_All}
use Rattle.std.proofs.lemmas.List.Sorted.{All-permutation, IsPermutation-sym}
use Rattle.std.proofs.lemmas.List.Sums.{sum_by-cons}
use Rattle.node_boxes.specs.declared.node_box.NodeBox.{NodeBox}
use Rattle.node_boxes.specs.Grid.{GridSize}
use Rattle.node_boxes.specs.Boxes.{IsNonempty, is_single}
use Rattle.node_boxes.specs.Children.{children_of}
use Rattle.node_boxes.proofs.Lists.{first_or_rest}
use Rattle.edt_score.specs.Judging.{BoundsFall}
use Rattle.octree_search.specs.declared.arena.Met.{Met}
use Rattle.octree_search.specs.declared.queue.Waiting.{Waiting}
use Rattle.octree_search.specs.Cover.{below, boxes_met, stops, threshold_of}
use Rattle.octree_search.proofs.Choices.{neither}
use Rattle.octree_search.proofs.Covers.{below_open}
use Rattle.octree_search.proofs.Findings.{not_lt_test}
use Rattle.octree_search.proofs.Goes.{sum_ones}
use Rattle.octree_search.proofs.Thresholds.{threshold_up}
use Rattle.search_lanes.specs.Inside.Bags.{left_below, AllOpened, IsBagOf}
use Rattle.search_lanes.specs.Inside.Slots.{greatest_bound, is_low, waits_from}

-- bounds that fall in one octree fall in the same octree by another name
pub falls_same : (g h : GridSize) (roots rs : List NodeBox) (bound : NodeBox → ℕ) → h ≡ g → rs ≡ roots → BoundsFall h rs bound
    → BoundsFall g roots bound
falls_same g h roots rs bound same_grid same_roots falls =
    subst (λ s. BoundsFall s roots bound) same_grid (subst (λ r. BoundsFall h r bound) same_roots falls)

-- a sum is at least each of its terms
pub term_le : {X : Type 0} (f : X → ℕ) (xs : List X) (x : X) → Contains xs x → f x ≤ sum_by f xs
term_le f [] x (k, below', is) = absurd (omega arith)
term_le f (y ∷ xs) x at = elim (first_or_rest y xs x at) [
  | inl is ↦ omega (arith, ap f is, sum_by-cons f y xs)
  | inr after ↦ omega (arith, term_le f xs x after, sum_by-cons f y xs)
]

-- the greatest bound is at most u where each bound is, and each bound is at most that
pub greatest_under : (u : ℕ) (boxes : List Waiting) → AllByRecursion (λ (w : Waiting). w.bound ≤ u) boxes → greatest_bound boxes ≤ u
greatest_under u [] all = omega arith
greatest_under u (w ∷ boxes) (here, all) = omega (arith, here, greatest_under u boxes all)

pub all_under : (boxes : List Waiting) (u : ℕ) → greatest_bound boxes ≤ u → AllByRecursion (λ (w : Waiting). w.bound ≤ u) boxes
all_under [] u low = tt
all_under (w ∷ boxes) u low = (omega (arith, low), all_under boxes u (omega (arith, low)))

-- of two lists
pub greatest_append : (front back : List Waiting) → greatest_bound (front ++ back) ≡ max (greatest_bound front) (greatest_bound back)
greatest_append [] back = omega arith
greatest_append (w ∷ front) back = omega (arith, greatest_append front back)

-- the order is nothing to it
greatest_permuted_le : (boxes now : List Waiting) → IsPermutation boxes now → greatest_bound now ≤ greatest_bound boxes
greatest_permuted_le boxes now swaps =
    greatest_under (greatest_bound boxes) now (recursion_from_All (λ (w : Waiting). w.bound ≤ greatest_bound boxes) now
    (All-permutation (λ (w : Waiting). w.bound ≤ greatest_bound boxes) boxes now swaps
    (All-from_recursion (λ (w : Waiting). w.bound ≤ greatest_bound boxes) boxes (all_under boxes (greatest_bound boxes) (omega arith)))))

pub greatest_permuted : (boxes now : List Waiting) → IsPermutation boxes now → greatest_bound boxes ≡ greatest_bound now
greatest_permuted boxes now swaps =
    let down = greatest_permuted_le boxes now swaps in
    let up = greatest_permuted_le now boxes (IsPermutation-sym boxes now swaps) in
    omega (arith, down, up)

-- the bounds of boxes that were just met
pub waits_under : (bound : NodeBox → ℕ) (u : ℕ) (cs : List NodeBox) (from : ℕ) → AllByRecursion (λ c. bound c ≤ u) cs
    → greatest_bound (waits_from bound from cs) ≤ u
waits_under bound u [] from all = omega arith
waits_under bound u (c ∷ cs) from (here, all) = omega (arith, here, waits_under bound u cs (from + 1) all)

-- it doesn't rise where a box is opened whose children have no greater bounds
pub upper_falls : (bound : NodeBox → ℕ) (top : Waiting) (rest : List Waiting) (cs : List NodeBox) (from : ℕ)
    → AllByRecursion (λ c. bound c ≤ top.bound) cs
    → greatest_bound (waits_from bound from cs ++ rest) ≤ greatest_bound (top ∷ rest)
upper_falls bound top rest cs from all =
    omega (arith, greatest_append (waits_from bound from cs) rest, waits_under bound top.bound cs from all)

-- and stays where the box that is opened isn't one of those with the greatest bound
pub upper_stays : (bound : NodeBox → ℕ) (top : Waiting) (rest : List Waiting) (cs : List NodeBox) (from : ℕ)
    → AllByRecursion (λ c. bound c ≤ top.bound) cs → top.bound < greatest_bound (top ∷ rest)
    → greatest_bound (waits_from bound from cs ++ rest) ≡ greatest_bound (top ∷ rest)
upper_stays bound top rest cs from all less =
    omega (arith, less, greatest_append (waits_from bound from cs) rest, waits_under bound top.bound cs from all)

-- a box that was ready still is where the greatest bound has fallen
pub low_still : (margin upper now : ℕ) (w : Waiting) → now ≤ upper → is_low margin upper w ≡ false → is_low margin now w ≡ false
low_still margin upper now w fell ready =
    let parts = neither (is_single w.area) (nat_lt w.bound (threshold_of margin upper)) ready in
    let reaches : threshold_of margin upper ≤ w.bound = let far = parts.1 in grind (arith, nat_tests) in
    let far : nat_lt w.bound (threshold_of margin now) ≡ false =
    not_lt_test w.bound (threshold_of margin now) (omega (arith, reaches, threshold_up margin now upper fell)) in
    rw (parts.0, far) refl

pub ready_still : (margin upper now : ℕ) (boxes : List Waiting) → now ≤ upper → All (λ w. is_low margin upper w ≡ false) boxes
    → All (λ w. is_low margin now w ≡ false) boxes
ready_still margin upper now boxes fell ready k d below' = low_still margin upper now (get_or boxes k d) fell (ready k d below')

-- what a ready box has: it isn't single, and its bound reaches the threshold of the greatest bound
pub record IsReadyBox (margin upper : ℕ) (w : Waiting) : Type 0 where
  pub several : is_single w.area ≡ false
  pub reaches : threshold_of margin upper ≤ w.bound

pub ready_box : (margin upper : ℕ) (w : Waiting) → is_low margin upper w ≡ false → IsReadyBox margin upper w
ready_box margin upper w ready =
    let parts = neither (is_single w.area) (nat_lt w.bound (threshold_of margin upper)) ready in
    record { several = parts.0; reaches = (let far = parts.1 in grind (arith, nat_tests)) }

-- more boxes are met than the budget allows where the children of a box that has to be opened are too many
pub past_budget : (g : GridSize) (roots : List NodeBox) (budget : ℕ) (met : List Met) (boxes : List Waiting) (bound : NodeBox → ℕ) (t : ℕ) (w : Waiting)
    → IsBagOf g roots budget met boxes → 0 < length met → AllOpened (λ a. stops bound t a ≡ false) met
    → Contains boxes w → IsNonempty w.area → stops bound t w.area ≡ false
    → budget < length met + length (children_of w.area) → budget < boxes_met bound t roots
past_budget g roots budget met boxes bound t w bag began opened at some open' past =
    let count = bag.count bound t began opened in
    let least = term_le (left_below bound t) boxes w at in
    omega (arith, past, count, least, below_open bound t w.area some open', sum_ones (below bound t) (children_of w.area))
