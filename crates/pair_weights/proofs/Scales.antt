-- Laws of the scale: it is the least number from 1000 on whose square is large enough, it is the
-- only such number, and it never falls where a variance grows.
use Rattle.std.proofs.Common.{◌≡◌, ℕ, ◌+◌, ◌*◌, max, ◌<◌, ◌≤◌, zero, suc, add-zero, arith, nat_le, inl, inr, subst}
use Rattle.std.proofs.Math.Nat.{mul-le-mul, mul-le-mul_left, eq-or-lt_of_le, le_antisymm}
use Rattle.std.proofs.lemmas.Bool.{cases_lt}
use Rattle.std.proofs.lemmas.Bool.Decides.{leb_tells}
use Rattle.pair_weights.specs.LeastRoot.{IsLeastRoot}
use Rattle.pair_weights.specs.Scale.{IsScale, first_from, scale_of}

-- `first` passes the test `n ≤ value first`, and no number from `from` to it does
record IsFirst (value : ℕ → ℕ) (n from first : ℕ) : Type 0 where
  behind : from ≤ first
  passes : n ≤ value first
  before : (k : ℕ) → from ≤ k → k < first → value k < n

-- where the last number passes, the first is found
first_from-is : (value : ℕ → ℕ) (n steps from : ℕ) → n ≤ value (from + steps)
    → IsFirst value n from (first_from (λ s. nat_le n (value s)) steps from)
first_from-is value n zero from last =
    record { behind = omega arith; passes = rw add-zero at last; before = λ k low high. absurd (omega arith) }
first_from-is value n (suc steps) from last =
    elim (leb_tells n (value from)) [
      | inl here ↦ rw here.0 (record { behind = omega arith; passes = here.1; before = λ k low high. absurd (omega arith) })
      | inr later ↦
          let move : from + suc steps ≡ from + 1 + steps = omega arith in
          let rest = first_from-is value n steps (from + 1) (rw move at last) in
          rw later.0 (record {
            behind = omega arith;
            passes = rest.passes;
            before = λ k low high. elim (eq-or-lt_of_le low) [
              | inl same ↦ let Below : ℕ → Type 0 = λ j. value j < n in subst Below same later.1
              | inr above ↦ rest.before k (omega arith) high
            ];
          })
    ]

pub scale_of-is : (va vb : ℕ) → IsScale va vb (scale_of va vb)
unfolding scale_of
scale_of-is va vb =
    let n : ℕ = va + vb in
    let square : (1000 + n) * 1 ≤ (1000 + n) * (1000 + n) = mul-le-mul_left (1000 + n) (omega arith) in
    let first = first_from-is (λ s. s * s) n n 1000 (omega arith) in
    record {
      at_least = first.behind;
      enough = first.passes;
      least = λ s high enough. elim (cases_lt s (first_from (λ s. nat_le n (s * s)) n 1000)) [
        | inl below ↦ absurd (let missed = first.before s high below in omega arith)
        | inr above ↦ above
      ];
    }

-- two scales of the same variances are equal
pub scale-unique : (va vb s t : ℕ) → IsScale va vb s → IsScale va vb t → s ≡ t
scale-unique va vb s t one other =
    le_antisymm (one.least t other.at_least other.enough) (other.least s one.at_least one.enough)

pub scale_of-rises : (va vb wa wb : ℕ) → va ≤ wa → vb ≤ wb → scale_of va vb ≤ scale_of wa wb
scale_of-rises va vb wa wb first second =
    let larger = scale_of-is wa wb in
    let enough = larger.enough in
    (scale_of-is va vb).least (scale_of wa wb) larger.at_least (omega arith)

-- the greater of the least root of the sum and 1000 is the scale
pub scale_from_root : (va vb root s : ℕ) → IsLeastRoot (va + vb) root → s ≡ max root 1000 → s ≡ scale_of va vb
scale_from_root va vb root s is greater =
    let above : root ≤ s = omega arith in
    let square : root * root ≤ s * s = mul-le-mul above above in
    let enough = is.enough in
    scale-unique va vb s (scale_of va vb)
    (record {
      at_least = omega arith;
      enough = omega arith;
      least = λ k high room. let below = is.least k room in omega arith;
    })
    (scale_of-is va vb)
