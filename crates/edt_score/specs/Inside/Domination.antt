-- A bound is no less than that of narrower spans, pair by pair; so it is no less than the bound of a
-- part of the nodes, and than the score of one of them.
use Rattle.std.specs.Prelude.{◌≡◌, ℕ, ℤ, List, [], ◌∷◌, ◌*◌, ◌<◌, ◌≤◌, ◌-ℤ◌, ◌+ℤ◌, ◌≤ℤ◌, pos, negsuc, max, map, unsigned_abs, sum_by, length, Contains}
use Rattle.std.proofs.Common.{zero, suc, inl, inr, ◌⊎◌, arith, refl, ap, subst, ◌∙◌}
use Rattle.std.proofs.Math.Nat.{mul-le-mul}
use Rattle.std.proofs.lemmas.Bool.{cases_lt}
use Rattle.std.proofs.lemmas.Int.{ints}
use Rattle.std.proofs.lemmas.List.Sums.{sum_by-cons}
use Rattle.kernel_table.specs.declared.kernels.Shape.{Shape}
use Rattle.kernel_table.specs.Kernel.{kernel_value}
use Rattle.kernel_table.proofs.KernelLaws.{kernel_value-never_rises, kernel_value-never_falls}
use Rattle.pair_weights.specs.Weight.{weight_of}
use Rattle.pair_weights.proofs.Scales.{scale_of-is, scale_of-rises}
use Rattle.pair_weights.proofs.Weights.{weight_of-falls}
use Rattle.edt_score.specs.declared.problem.ProblemPick.{ProblemPick}
use Rattle.edt_score.specs.Bound.{IsPart, bound_by, bound_over, excess, gap_of, pair_bound}
use Rattle.minmax_pyramid.specs.Spans.{greatest, least, span_over}
use Rattle.edt_score.specs.Score.{misfit_of, pair_scale, pair_score, pair_sum, score_of, variance_at}

-- a span lies within another
pub record IsWithin (narrow wide : ℕ × ℕ) : Type 0 where
  pub least : wide.0 ≤ narrow.0
  pub greatest : narrow.1 ≤ wide.1

-- an excess never falls
excess-rises : (x y : ℤ) → x ≤ℤ y → excess x ≤ excess y
excess-rises (pos m) (pos n) h = omega (arith, ints)
excess-rises (pos m) (negsuc n) h = omega (arith, ints)
excess-rises (negsuc m) (pos n) h = omega (arith, ints)
excess-rises (negsuc m) (negsuc n) h = omega (arith, ints)

max-rises : (m n k l : ℕ) → m ≤ k → n ≤ l → max m n ≤ max k l
max-rises m n k l p q = omega arith

-- wider spans leave no greater gap
pub gap_of-falls : (oa ob : ℤ) (s t wide_s wide_t : ℕ × ℕ) → IsWithin s wide_s → IsWithin t wide_t → gap_of oa ob wide_s wide_t ≤ gap_of oa ob s t
gap_of-falls oa ob s t wide_s wide_t in_s in_t =
    let least_s = in_s.least in
    let least_t = in_t.least in
    let greatest_s = in_s.greatest in
    let greatest_t = in_t.greatest in
    max-rises _ _ _ _
    (excess-rises ((pos wide_s.0 -ℤ pos wide_t.1) -ℤ (oa -ℤ ob)) ((pos s.0 -ℤ pos t.1) -ℤ (oa -ℤ ob)) (omega (arith, ints)))
    (excess-rises ((oa -ℤ ob) -ℤ (pos wide_s.1 -ℤ pos wide_t.0)) ((oa -ℤ ob) -ℤ (pos s.1 -ℤ pos t.0)) (omega (arith, ints)))

-- a variance never falls with the travel time
variance_at-rises : (pick : ProblemPick) (time later : ℕ) → time ≤ later → variance_at pick time ≤ variance_at pick later
variance_at-rises pick time later h = omega arith

-- nor does a scale
pair_scale-rises : (a b : ProblemPick) (ta tb ua ub : ℕ) → ta ≤ ua → tb ≤ ub → pair_scale a b ta tb ≤ pair_scale a b ua ub
pair_scale-rises a b ta tb ua ub first second =
    scale_of-rises (variance_at a ta) (variance_at b tb) (variance_at a ua) (variance_at b ub) (variance_at-rises a ta ua first) (variance_at-rises b tb ub second)

pair_scale-least : (a b : ProblemPick) (ta tb : ℕ) → 1000 ≤ pair_scale a b ta tb
pair_scale-least a b ta tb = (scale_of-is (variance_at a ta) (variance_at b tb)).at_least

-- wider spans leave no lower bound of a pair
pair_bound-rises : (shape : Shape) (a b : ProblemPick) (s t wide_s wide_t : ℕ × ℕ) → IsWithin s wide_s → IsWithin t wide_t
    → pair_bound shape a b s t ≤ pair_bound shape a b wide_s wide_t
pair_bound-rises shape a b s t wide_s wide_t in_s in_t =
    let wide_low = pair_scale-least a b wide_s.0 wide_t.0 in
    let narrow_high = pair_scale-least a b s.1 t.1 in
    let weights = weight_of-falls a.weight b.weight (pair_scale a b wide_s.0 wide_t.0) (pair_scale a b s.0 t.0) wide_low (pair_scale-rises a b wide_s.0 wide_t.0 s.0 t.0 in_s.least in_t.least) in
    let gap = gap_of a.time b.time s t in
    let wide_gap = gap_of a.time b.time wide_s wide_t in
    let nearer = kernel_value-never_rises shape wide_gap gap (pair_scale a b s.1 t.1) (omega arith) (gap_of-falls a.time b.time s t wide_s wide_t in_s in_t) in
    let wider = kernel_value-never_falls shape wide_gap (pair_scale a b s.1 t.1) (pair_scale a b wide_s.1 wide_t.1) (omega arith) (pair_scale-rises a b s.1 t.1 wide_s.1 wide_t.1 in_s.greatest in_t.greatest) in
    let values : kernel_value shape gap (pair_scale a b s.1 t.1) ≤ kernel_value shape wide_gap (pair_scale a b wide_s.1 wide_t.1) = omega (arith, nearer, wider) in
    mul-le-mul weights values

-- sums over pairs follow their terms
sum_by-rises : {X : Type 0} (f g : X → ℕ) → ((x : X) → f x ≤ g x) → (xs : List X) → sum_by f xs ≤ sum_by g xs
sum_by-rises f g below [] = omega arith
sum_by-rises f g below (x ∷ xs) = omega (arith, sum_by-cons f x xs, sum_by-cons g x xs, below x, sum_by-rises f g below xs)

pair_sum-rises : {X : Type 0} (f g : X → X → ℕ) → ((a b : X) → f a b ≤ g a b) → (xs : List X) → pair_sum f xs ≤ pair_sum g xs
pair_sum-rises f g below [] = omega arith
pair_sum-rises f g below (x ∷ xs) = omega (arith, sum_by-rises (f x) (g x) (below x) xs, pair_sum-rises f g below xs)

sum_by-same : {X : Type 0} (f g : X → ℕ) → ((x : X) → f x ≡ g x) → (xs : List X) → sum_by f xs ≡ sum_by g xs
sum_by-same f g same [] = refl
sum_by-same f g same (x ∷ xs) = omega (arith, sum_by-cons f x xs, sum_by-cons g x xs, same x, sum_by-same f g same xs)

pair_sum-same : {X : Type 0} (f g : X → X → ℕ) → ((a b : X) → f a b ≡ g a b) → (xs : List X) → pair_sum f xs ≡ pair_sum g xs
pair_sum-same f g same [] = refl
pair_sum-same f g same (x ∷ xs) = omega (arith, sum_by-same (f x) (g x) (same x) xs, pair_sum-same f g same xs)

-- so wider spans leave no lower bound
pub bound_by-rises : (shape : Shape) (narrow wide : ℕ → ℕ × ℕ) (picks : List ProblemPick) → ((row : ℕ) → IsWithin (narrow row) (wide row))
    → bound_by shape narrow picks ≤ bound_by shape wide picks
bound_by-rises shape narrow wide picks within =
    pair_sum-rises (λ a b. pair_bound shape a b (narrow a.row) (narrow b.row)) (λ a b. pair_bound shape a b (wide a.row) (wide b.row))
    (λ a b. pair_bound-rises shape a b (narrow a.row) (narrow b.row) (wide a.row) (wide b.row) (within a.row) (within b.row)) picks

-- the greater of the excesses of a number and of its negative is its size
excess-size : (x y : ℤ) → x +ℤ y ≡ pos 0 → max (excess x) (excess y) ≡ unsigned_abs y
excess-size (pos m) (pos n) h = omega (arith, ints)
excess-size (pos m) (negsuc n) h = omega (arith, ints)
excess-size (negsuc m) (pos n) h = omega (arith, ints)
excess-size (negsuc m) (negsuc n) h = omega (arith, ints)

-- two times leave the misfit as their gap
gap_of-times : (oa ob : ℤ) (ta tb : ℕ) → gap_of oa ob (ta, ta) (tb, tb) ≡ misfit_of oa ob ta tb
gap_of-times oa ob ta tb = excess-size ((pos ta -ℤ pos tb) -ℤ (oa -ℤ ob)) ((oa -ℤ ob) -ℤ (pos ta -ℤ pos tb)) (omega (arith, ints))

-- so the bound of times is a score
pub bound_by-times : (shape : Shape) (times : ℕ → ℕ → ℕ) (picks : List ProblemPick) (node : ℕ)
    → bound_by shape (λ row. (times row node, times row node)) picks ≡ score_of shape times picks node
bound_by-times shape times picks node =
    pair_sum-same (λ a b. pair_bound shape a b (times a.row node, times a.row node) (times b.row node, times b.row node))
    (λ a b. pair_score shape a b (times a.row node) (times b.row node))
    (λ a b. ap (λ gap. weight_of a.weight b.weight (pair_scale a b (times a.row node) (times b.row node)) * kernel_value shape gap (pair_scale a b (times a.row node) (times b.row node)))
    (gap_of-times a.time b.time (times a.row node) (times b.row node)))
    picks

-- one of a list is its first or one of the others
contains-cases : (n : ℕ) (ns : List ℕ) (m : ℕ) → Contains (n ∷ ns) m → (n ≡ m) ⊎ Contains ns m
contains-cases n ns m (zero, below, is) = inl is
contains-cases n ns m (suc k, below, is) = inr (k, omega arith, is)

contains-more : (n : ℕ) (ns : List ℕ) (m : ℕ) → Contains ns m → Contains (n ∷ ns) m
contains-more n ns m (k, below, is) = (suc k, omega arith, is)

module _ (time : ℕ → ℕ) where
  -- the least time is at most each, and is one of them
  pub least-below : (nodes : List ℕ) (node : ℕ) → Contains nodes node → least (map time nodes) ≤ time node
  least-below [] node (k, below, is) = absurd (omega arith)
  least-below (n ∷ []) node has = elim (contains-cases n [] node has) [
    | inl here ↦ omega (arith, ap time here)
    | inr later ↦ absurd (let below = later.1 in omega arith)
  ]
  least-below (n ∷ (m ∷ ns)) node has = elim (contains-cases n (m ∷ ns) node has) [
    | inl here ↦ omega (arith, ap time here)
    | inr later ↦ omega (arith, least-below (m ∷ ns) node later)
  ]

  pub least-found : (nodes : List ℕ) → 0 < length nodes → (node : ℕ) × Contains nodes node × (least (map time nodes) ≡ time node)
  least-found [] some = absurd (omega arith)
  least-found (n ∷ []) some = (n, (0, omega arith, refl), refl)
  least-found (n ∷ (m ∷ ns)) some =
      let rest = least-found (m ∷ ns) (omega arith) in
      elim (cases_lt (time n) (least (map time (m ∷ ns)))) [
        | inl here ↦ (n, (0, omega arith, refl), omega arith)
        | inr later ↦ (rest.0, contains-more n (m ∷ ns) rest.0 rest.1, omega (arith, rest.2))
      ]

  -- and the greatest is at least each, and is one of them
  pub greatest-above : (nodes : List ℕ) (node : ℕ) → Contains nodes node → time node ≤ greatest (map time nodes)
  greatest-above [] node (k, below, is) = absurd (omega arith)
  greatest-above (n ∷ ns) node has = elim (contains-cases n ns node has) [
    | inl here ↦ omega (arith, ap time here)
    | inr later ↦ omega (arith, greatest-above ns node later)
  ]

  pub greatest-found : (nodes : List ℕ) → 0 < length nodes → (node : ℕ) × Contains nodes node × (greatest (map time nodes) ≡ time node)
  greatest-found [] some = absurd (omega arith)
  greatest-found (n ∷ []) some = (n, (0, omega arith, refl), omega arith)
  greatest-found (n ∷ (m ∷ ns)) some =
      let rest = greatest-found (m ∷ ns) (omega arith) in
      elim (cases_lt (time n) (greatest (map time (m ∷ ns)))) [
        | inl later ↦ (rest.0, contains-more n (m ∷ ns) rest.0 rest.1, omega (arith, rest.2))
        | inr here ↦ (n, (0, omega arith, refl), omega arith)
      ]

  -- so the span of a part lies within that of all
  pub span_over-part : (part nodes : List ℕ) → IsPart part nodes → IsWithin (span_over time part) (span_over time nodes)
  span_over-part part nodes is =
      let low = least-found part is.some in
      let high = greatest-found part is.some in
      record {
        least = omega (arith, least-below nodes low.0 (is.within low.0 low.1), low.2);
        greatest = omega (arith, greatest-above nodes high.0 (is.within high.0 high.1), high.2);
      }

  span_over-one : (node : ℕ) → span_over time (node ∷ []) ≡ (time node, time node)
  span_over-one node = ap (λ high. (time node, high)) (omega arith)

-- a part of the nodes has no greater bound
pub bound_over-part : (shape : Shape) (times : ℕ → ℕ → ℕ) (picks : List ProblemPick) (part nodes : List ℕ) → IsPart part nodes
    → bound_over shape times picks part ≤ bound_over shape times picks nodes
bound_over-part shape times picks part nodes is =
    bound_by-rises shape (λ row. span_over (times row) part) (λ row. span_over (times row) nodes) picks (λ row. span_over-part (times row) part nodes is)

bound_by-same : (shape : Shape) (one other : ℕ → ℕ × ℕ) (picks : List ProblemPick) → ((row : ℕ) → one row ≡ other row)
    → bound_by shape one picks ≡ bound_by shape other picks
bound_by-same shape one other picks same =
    pair_sum-same (λ a b. pair_bound shape a b (one a.row) (one b.row)) (λ a b. pair_bound shape a b (other a.row) (other b.row))
    (λ a b. ap (λ s. pair_bound shape a b s (one b.row)) (same a.row) ∙ ap (λ t. pair_bound shape a b (other a.row) t) (same b.row)) picks

-- one node has its score as its bound
pub bound_over-one : (shape : Shape) (times : ℕ → ℕ → ℕ) (picks : List ProblemPick) (node : ℕ)
    → bound_over shape times picks (node ∷ []) ≡ score_of shape times picks node
bound_over-one shape times picks node =
    bound_by-same shape (λ row. span_over (times row) (node ∷ [])) (λ row. (times row node, times row node)) picks (λ row. span_over-one (times row) node)
    ∙ bound_by-times shape times picks node

-- and no node of a list has a score above its bound
pub bound_over-above : (shape : Shape) (times : ℕ → ℕ → ℕ) (picks : List ProblemPick) (nodes : List ℕ) (node : ℕ) → Contains nodes node
    → score_of shape times picks node ≤ bound_over shape times picks nodes
bound_over-above shape times picks nodes node has =
    let is : IsPart (node ∷ []) nodes = record {
      some = omega arith;
      within = λ other one. elim (contains-cases node [] other one) [
        | inl here ↦ subst (Contains nodes) here has
        | inr none ↦ absurd (let below = none.1 in omega arith)
      ];
    } in
    omega (arith, bound_over-part shape times picks (node ∷ []) nodes is, bound_over-one shape times picks node)
