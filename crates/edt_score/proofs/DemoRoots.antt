-- The least number whose square is at least a number is found by trying each from 0, and there is only one.
use Rattle.std.proofs.Common.{◌≡◌, ℕ, ◌+◌, ◌*◌, ◌<◌, ◌≤◌, zero, suc, add-zero, arith, nat_le, inl, inr, subst}
use Rattle.std.proofs.Math.Nat.{mul-le-mul_left, eq-or-lt_of_le, le_antisymm}
use Rattle.std.proofs.lemmas.Bool.{cases_lt}
use Rattle.std.proofs.lemmas.Bool.Decides.{leb_tells}
use Rattle.pair_weights.specs.LeastRoot.{IsLeastRoot}
use Rattle.pair_weights.specs.Scale.{first_from}
use Rattle.edt_score.specs.Demo.{least_root}

-- the square of `first` is large enough, and that of no smaller number from `from` on
record IsFirst (n from first : ℕ) : Type 0 where
  passes : n ≤ first * first
  before : (k : ℕ) → from ≤ k → k < first → k * k < n

-- where the last number passes, the first is found
first_is : (n steps from : ℕ) → n ≤ (from + steps) * (from + steps) → IsFirst n from (first_from (λ root. nat_le n (root * root)) steps from)
first_is n zero from last = record { passes = rw add-zero at last; before = λ k low high. absurd (omega arith) }
first_is n (suc steps) from last =
    elim (leb_tells n (from * from)) [
      | inl here ↦ rw here.0 (record { passes = here.1; before = λ k low high. absurd (omega arith) })
      | inr later ↦
          let move : from + suc steps ≡ from + 1 + steps = omega arith in
          let rest = first_is n steps (from + 1) (rw move at last) in
          rw later.0 (record {
            passes = rest.passes;
            before = λ k low high. elim (eq-or-lt_of_le low) [
              | inl same ↦ let Below : ℕ → Type 0 = λ j. j * j < n in subst Below same later.1
              | inr above ↦ rest.before k (omega arith) high
            ];
          })
    ]

-- the number that is found is the least one
pub least_root_is : (n : ℕ) → IsLeastRoot n (least_root n)
unfolding least_root
least_root_is n =
    let square : n ≤ (0 + n) * (0 + n) = subst (λ m. n ≤ m * m) (plus_zero n) (self_square n) in
    let first = first_is n n 0 square in
    record {
      enough = first.passes;
      least = λ k enough. elim (cases_lt k (first_from (λ root. nat_le n (root * root)) n 0)) [
        | inl below ↦ absurd (let missed = first.before k (omega arith) below in omega arith)
        | inr above ↦ above
      ];
    }
  where
    self_square : (m : ℕ) → m ≤ m * m
    self_square zero = omega arith
    self_square (suc m) = let more : suc m * 1 ≤ suc m * suc m = mul-le-mul_left (suc m) (omega arith) in omega arith

    plus_zero : (m : ℕ) → m ≡ 0 + m
    plus_zero m = omega arith

-- a least root is that one
pub root_is : (n root : ℕ) → IsLeastRoot n root → root ≡ least_root n
root_is n root is =
    let found = least_root_is n in
    le_antisymm (is.least (least_root n) found.enough) (found.least root is.enough)

-- a wave crosses the greatest cube in less than 19 seconds
pub time_limit : (square root : ℕ) → square ≤ 11907 → IsLeastRoot (28900000000 * square) root → root ≤ 18700000
time_limit square root few is = is.least 18700000 (omega arith)
