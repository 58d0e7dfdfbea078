-- The table of ends and pairs has the bound of the definition, whatever the spans.
use Rattle.std.proofs.Common.{◌≡◌, ℕ, ℤ, List, [], ◌∷◌, ◌++◌, ◌+◌, ◌-◌, ◌*◌, ◌≤◌, ◌-ℤ◌, ◌+ℤ◌, pos, negsuc, max, All, arith, refl, sym, ap, ◌∙◌, inl, inr, ◌⊎◌, length, map, unsigned_abs, sum_by, bit_or}
use Rattle.std.specs.Int.Bits.{or_zero_l, or_zero_r}
use Rattle.std.proofs.lemmas.Bool.{cases_lt}
use Rattle.std.proofs.lemmas.Int.{ints}
use Rattle.std.proofs.lemmas.List.{length-append, length-map, drop_at}
use Rattle.std.proofs.lemmas.List.Elements.{All-head, All-tail}
use Rattle.std.proofs.lemmas.List.Sums.{sum_by-cons}
use Rattle.kernel_table.specs.declared.kernels.Shape.{Shape}
use Rattle.kernel_table.specs.Kernel.{kernel_value}
use Rattle.edt_score.specs.declared.problem.ProblemPick.{ProblemPick}
use Rattle.edt_score.specs.PairTerms.{PairTerms, pairs_of, terms_of}
use Rattle.edt_score.specs.Bound.{IsTimeSpan, bound_by, excess, gap_of, pair_bound}
use Rattle.edt_score.specs.Inside.Ends.{IsNear, end_of, ends_gap, ends_of, ends_value, ends_within, row_total, table_total}
use Rattle.edt_score.specs.Inside.Pairs.{pair_count}

pub length-pairs_of : (picks : List ProblemPick) → length (pairs_of picks) ≡ pair_count (length picks)
length-pairs_of [] = refl
length-pairs_of (pick ∷ picks) =
    simp (length-append, length-map) (ap (λ n. length picks + n) (length-pairs_of picks))

-- so there is one for each pair of as many ends
pub pairs-counted : {X : Type 0} (picks : List ProblemPick) (pairs : List PairTerms) (ends : List X) → pairs ≡ pairs_of picks → length ends ≡ length picks
    → length pairs ≡ pair_count (length ends)
pairs-counted picks pairs ends p q = rw (p, q) (length-pairs_of picks)

-- a difference of natural numbers is the excess of that of whole numbers
excess-monus : (m n : ℕ) (z : ℤ) → pos m -ℤ pos n ≡ z → m - n ≡ excess z
excess-monus m n (pos k) is = omega (arith, ints)
excess-monus m n (negsuc k) is = omega (arith, ints)

-- a near time, less a travel time, is above 0 once it is lifted
lifted : (start observed : ℤ) (time : ℕ) → unsigned_abs (observed -ℤ start) ≤ 2200000000000 → time ≤ 4294967295
    → pos (end_of start observed time) ≡ ((observed -ℤ start) -ℤ pos time) +ℤ pos 4398046511104
lifted start observed time close limit = omega (arith, ints)

-- of two numbers of which one is 0
or-max : (m n : ℕ) → (m ≡ 0) ⊎ (n ≡ 0) → bit_or m n ≡ max m n
or-max m n (inl none) = rw none (or_zero_l n ∙ omega arith)
or-max m n (inr none) = rw none (or_zero_r m ∙ omega arith)

-- ranges in order aren't above each other both ways
one-none : (low high other last : ℕ) → low ≤ high → other ≤ last → (low - last ≡ 0) ⊎ (other - high ≡ 0)
one-none low high other last first second = elim (cases_lt last low) [ inl above ↦ inr (omega arith) | inr below ↦ inl (omega arith) ]

order-max : (m n m' n' : ℕ) → m ≡ m' → n ≡ n' → max m n ≡ max n' m'
order-max m n m' n' p q = omega arith

-- the gap between the ends of two picks is the least misfit that their spans allow
pub gap-ends : (start oa ob : ℤ) (s t : ℕ × ℕ) → unsigned_abs (oa -ℤ start) ≤ 2200000000000 → unsigned_abs (ob -ℤ start) ≤ 2200000000000
    → IsTimeSpan s → IsTimeSpan t → ends_gap (ends_within start oa s) (ends_within start ob t) ≡ gap_of oa ob s t
gap-ends start oa ob s t near_a near_b in_s in_t =
    let order_s = in_s.order in
    let order_t = in_t.order in
    let limit_s = in_s.limit in
    let limit_t = in_t.limit in
    let low_a = lifted start oa s.1 near_a limit_s in
    let high_a = lifted start oa s.0 near_a (omega arith) in
    let low_b = lifted start ob t.1 near_b limit_t in
    let high_b = lifted start ob t.0 near_b (omega arith) in
    let above : pos (end_of start ob t.1) -ℤ pos (end_of start oa s.0) ≡ (pos s.0 -ℤ pos t.1) -ℤ (oa -ℤ ob) = omega (arith, ints, low_b, high_a) in
    let below : pos (end_of start oa s.1) -ℤ pos (end_of start ob t.0) ≡ (oa -ℤ ob) -ℤ (pos s.1 -ℤ pos t.0) = omega (arith, ints, low_a, high_b) in
    let before = excess-monus (end_of start ob t.1) (end_of start oa s.0) ((pos s.0 -ℤ pos t.1) -ℤ (oa -ℤ ob)) above in
    let after = excess-monus (end_of start oa s.1) (end_of start ob t.0) ((oa -ℤ ob) -ℤ (pos s.1 -ℤ pos t.0)) below in
    let in_a : end_of start oa s.1 ≤ end_of start oa s.0 = omega (arith, ints, low_a, high_a) in
    let in_b : end_of start ob t.1 ≤ end_of start ob t.0 = omega (arith, ints, low_b, high_b) in
    let either = one-none (end_of start oa s.1) (end_of start oa s.0) (end_of start ob t.1) (end_of start ob t.0) in_a in_b in
    or-max (end_of start oa s.1 - end_of start ob t.0) (end_of start ob t.1 - end_of start oa s.0) either
    ∙ order-max _ _ _ _ after before

module _ (shape : Shape) (start : ℤ) (spans : ℕ → ℕ × ℕ) where
  -- one pair
  pair-ends : (a b : ProblemPick) → IsNear start spans a → IsNear start spans b
      → ends_value shape (ends_of start spans a) (ends_of start spans b) (terms_of a b) ≡ pair_bound shape a b (spans a.row) (spans b.row)
  pair-ends a b near_a near_b =
      ap (λ gap. (terms_of a b).weight * kernel_value shape gap (terms_of a b).scale)
      (gap-ends start a.time b.time (spans a.row) (spans b.row) near_a.close near_b.close near_a.span near_b.span)

  -- a row of the table is a row of the sum over all pairs
  row_total-pairs : (a : ProblemPick) (others : List ProblemPick) (later : List PairTerms) → IsNear start spans a → All (IsNear start spans) others
      → row_total shape (ends_of start spans a) (map (ends_of start spans) others) (map (terms_of a) others ++ later)
      ≡ sum_by (λ b. pair_bound shape a b (spans a.row) (spans b.row)) others
  row_total-pairs a [] later near_a near = refl
  row_total-pairs a (b ∷ others) later near_a near =
      let first = pair-ends a b near_a (All-head (IsNear start spans) b others near) in
      let rest = row_total-pairs a others later near_a (All-tail (IsNear start spans) b others near) in
      rw (first, rest) (sym (sum_by-cons (λ b. pair_bound shape a b (spans a.row) (spans b.row)) b others))

  -- the table has the bound of the definition
  pub table_total-bound : (picks : List ProblemPick) → All (IsNear start spans) picks
      → table_total shape (map (ends_of start spans) picks) (pairs_of picks) ≡ bound_by shape spans picks
  table_total-bound [] near = refl
  table_total-bound (a ∷ others) near =
      let rows : length (map (terms_of a) others) ≡ length (map (ends_of start spans) others) = simp length-map in
      let near_a = All-head (IsNear start spans) a others near in
      let near_others = All-tail (IsNear start spans) a others near in
      rw (
        row_total-pairs a others (pairs_of others) near_a near_others,
        drop_at (map (terms_of a) others) (pairs_of others) (length (map (ends_of start spans) others)) rows,
        table_total-bound others near_others,
      )
