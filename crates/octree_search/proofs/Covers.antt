-- The cover of a box by cases: the box itself, or the covers of its children.
use Rattle.std.proofs.Common.{◌≡◌, inl, inr, ℕ, zero, suc, ◌+◌, ◌≤◌, ◌<◌, arith, Bool, true, false, [], ◌∷◌, refl, ap, sum_by}
use Rattle.std.specs.Prelude.{if◌then◌else◌}
use Rattle.std.specs.List.{flat_map, AllByRecursion}
use Rattle.node_boxes.specs.declared.node_box.NodeBox.{NodeBox}
use Rattle.node_boxes.specs.Boxes.{IsNonempty, IsPartOf, IsSplittable, is_single, node_count_of}
use Rattle.node_boxes.specs.Children.{children_of}
use Rattle.node_boxes.proofs.ChildBoxes.{children_parts, children_smaller, node_count-some}
use Rattle.node_boxes.proofs.Lists.{all-weaker}
use Rattle.octree_search.specs.Cover.{stops, cover_within, below_within, cover, below}
use Rattle.octree_search.proofs.Choices.{by_test, neither, flat_map-same, sum_by-same_terms, all-both}

-- a child has nodes, and fewer than its box
pub record IsSmaller (depth : ℕ) (child : NodeBox) : Type 0 where
  pub nonempty : IsNonempty child
  pub smaller : node_count_of child ≤ depth

-- a box that is opened can be split
pub splittable : (bound : NodeBox → ℕ) (t : ℕ) (a : NodeBox) → IsNonempty a → stops bound t a ≡ false → IsSplittable a
splittable bound t a some open' = record { nonempty = some; several = (neither (is_single a) _ open').0 }

-- each child of a box of at most so many nodes and one more
pub smaller_children : (bound : NodeBox → ℕ) (t depth : ℕ) (a : NodeBox) → IsNonempty a → stops bound t a ≡ false
    → node_count_of a ≤ suc depth → AllByRecursion (IsSmaller depth) (children_of a)
smaller_children bound t depth a some open' few =
    all-both (IsPartOf a) (λ c. node_count_of c < node_count_of a) (IsSmaller depth)
    (λ c part less. record { nonempty = part.nonempty; smaller = omega (arith, less, few) })
    (children_of a) (children_parts a some) (children_smaller a (splittable bound t a some open'))

module _ (bound : NodeBox → ℕ) (t : ℕ) where
  cover_step : (n m : ℕ) (a : NodeBox) (b : Bool) → stops bound t a ≡ b
      → (stops bound t a ≡ false → AllByRecursion (λ c. cover_within bound t n c ≡ cover_within bound t m c) (children_of a))
      → (if b then a ∷ [] else flat_map (cover_within bound t n) (children_of a)) ≡ (if b then a ∷ [] else flat_map (cover_within bound t m) (children_of a))
  cover_step n m a true is same = refl
  cover_step n m a false is same = flat_map-same (cover_within bound t n) (cover_within bound t m) (children_of a) (same is)

  -- each depth from the number of nodes on gives the same cover
  pub cover_deep : (n m : ℕ) (a : NodeBox) → IsNonempty a → node_count_of a ≤ n → node_count_of a ≤ m
      → cover_within bound t n a ≡ cover_within bound t m a
  unfolding cover_within
  cover_deep zero m a some few fewer = absurd (omega (arith, node_count-some a some))
  cover_deep (suc n) zero a some few fewer = absurd (omega (arith, node_count-some a some))
  cover_deep (suc n) (suc m) a some few fewer =
      cover_step n m a (stops bound t a) refl (λ open'.
      all-both (IsSmaller n) (IsSmaller m) (λ c. cover_within bound t n c ≡ cover_within bound t m c)
      (λ c one other. cover_deep n m c one.nonempty one.smaller other.smaller)
      (children_of a) (smaller_children bound t n a some open' few) (smaller_children bound t m a some open' fewer))

  below_step : (n m : ℕ) (a : NodeBox) (b : Bool) → stops bound t a ≡ b
      → (stops bound t a ≡ false → AllByRecursion (λ c. below_within bound t n c ≡ below_within bound t m c) (children_of a))
      → (if b then 0 else sum_by (λ c. 1 + below_within bound t n c) (children_of a)) ≡ (if b then 0 else sum_by (λ c. 1 + below_within bound t m c) (children_of a))
  below_step n m a true is same = refl
  below_step n m a false is same =
      sum_by-same_terms (λ c. 1 + below_within bound t n c) (λ c. 1 + below_within bound t m c) (children_of a)
      (all-weaker (λ c. below_within bound t n c ≡ below_within bound t m c) (λ c. 1 + below_within bound t n c ≡ 1 + below_within bound t m c)
      (λ c e. ap (λ k. 1 + k) e) (children_of a) (same is))

  pub below_deep : (n m : ℕ) (a : NodeBox) → IsNonempty a → node_count_of a ≤ n → node_count_of a ≤ m
      → below_within bound t n a ≡ below_within bound t m a
  unfolding below_within
  below_deep zero m a some few fewer = absurd (omega (arith, node_count-some a some))
  below_deep (suc n) zero a some few fewer = absurd (omega (arith, node_count-some a some))
  below_deep (suc n) (suc m) a some few fewer =
      below_step n m a (stops bound t a) refl (λ open'.
      all-both (IsSmaller n) (IsSmaller m) (λ c. below_within bound t n c ≡ below_within bound t m c)
      (λ c one other. below_deep n m c one.nonempty one.smaller other.smaller)
      (children_of a) (smaller_children bound t n a some open' few) (smaller_children bound t m a some open' fewer))

  -- a box that isn't opened is its own cover, and no box is met below it
  pub cover_stop-at : (n : ℕ) (a : NodeBox) → stops bound t a ≡ true → cover_within bound t n a ≡ a ∷ []
  unfolding cover_within
  cover_stop-at zero a stop = refl
  cover_stop-at (suc n) a stop = rw stop refl

  pub cover_stop : (a : NodeBox) → stops bound t a ≡ true → cover bound t a ≡ a ∷ []
  cover_stop a stop = cover_stop-at (node_count_of a) a stop

  pub below_stop-at : (n : ℕ) (a : NodeBox) → stops bound t a ≡ true → below_within bound t n a ≡ 0
  unfolding below_within
  below_stop-at zero a stop = refl
  below_stop-at (suc n) a stop = rw stop refl

  pub below_stop : (a : NodeBox) → stops bound t a ≡ true → below bound t a ≡ 0
  below_stop a stop = below_stop-at (node_count_of a) a stop

  -- the cover of a box that is opened is that of its children
  pub cover_open-at : (n : ℕ) (a : NodeBox) → IsNonempty a → stops bound t a ≡ false → node_count_of a ≤ n
      → cover_within bound t n a ≡ flat_map (cover bound t) (children_of a)
  unfolding cover_within
  cover_open-at zero a some open' few = absurd (omega (arith, node_count-some a some))
  cover_open-at (suc n) a some open' few =
      rw open' (flat_map-same (cover_within bound t n) (cover bound t) (children_of a)
      (all-weaker (IsSmaller n) (λ c. cover_within bound t n c ≡ cover bound t c)
      (λ c small. cover_deep n (node_count_of c) c small.nonempty small.smaller (omega arith))
      (children_of a) (smaller_children bound t n a some open' few)))

  pub cover_open : (a : NodeBox) → IsNonempty a → stops bound t a ≡ false → cover bound t a ≡ flat_map (cover bound t) (children_of a)
  cover_open a some open' = cover_open-at (node_count_of a) a some open' (omega arith)

  pub below_open-at : (n : ℕ) (a : NodeBox) → IsNonempty a → stops bound t a ≡ false → node_count_of a ≤ n
      → below_within bound t n a ≡ sum_by (λ c. 1 + below bound t c) (children_of a)
  unfolding below_within
  below_open-at zero a some open' few = absurd (omega (arith, node_count-some a some))
  below_open-at (suc n) a some open' few =
      rw open' (sum_by-same_terms (λ c. 1 + below_within bound t n c) (λ c. 1 + below bound t c) (children_of a)
      (all-weaker (IsSmaller n) (λ c. 1 + below_within bound t n c ≡ 1 + below bound t c)
      (λ c small. ap (λ k. 1 + k) (below_deep n (node_count_of c) c small.nonempty small.smaller (omega arith)))
      (children_of a) (smaller_children bound t n a some open' few)))

  pub below_open : (a : NodeBox) → IsNonempty a → stops bound t a ≡ false → below bound t a ≡ sum_by (λ c. 1 + below bound t c) (children_of a)
  below_open a some open' = below_open-at (node_count_of a) a some open' (omega arith)

  -- what holds of a box that isn't opened, and of an opened one where it holds of its children, holds of every box
  pub by_cover-at : (P : NodeBox → Type 0) → ((a : NodeBox) → IsNonempty a → stops bound t a ≡ true → P a)
      → ((a : NodeBox) → IsNonempty a → stops bound t a ≡ false → AllByRecursion P (children_of a) → P a)
      → (n : ℕ) (a : NodeBox) → IsNonempty a → node_count_of a ≤ n → P a
  by_cover-at P leaf node zero a some few = absurd (omega (arith, node_count-some a some))
  by_cover-at P leaf node (suc n) a some few = elim (by_test (stops bound t a)) [
    | inl stop ↦ leaf a some stop
    | inr open' ↦ node a some open' (all-weaker (IsSmaller n) P (λ c small. by_cover-at P leaf node n c small.nonempty small.smaller)
        (children_of a) (smaller_children bound t n a some open' few))
  ]

  pub by_cover : (P : NodeBox → Type 0) → ((a : NodeBox) → IsNonempty a → stops bound t a ≡ true → P a)
      → ((a : NodeBox) → IsNonempty a → stops bound t a ≡ false → AllByRecursion P (children_of a) → P a)
      → (a : NodeBox) → IsNonempty a → P a
  by_cover P leaf node a some = by_cover-at P leaf node (node_count_of a) a some (omega arith)
