-- A product with the reciprocal of a scale, cut after 64 bits, is the quotient that the kernel asks
-- for: the reciprocal is at most 1 too great, and what that adds over a whole misfit is less than
-- what the quotient lacks to the next number.
use Rattle.std.proofs.Common.{◌≡◌, ℕ, ◌+◌, ◌*◌, ◌/◌, ◌^◌, ◌<◌, ◌≤◌, min, sym, ap, ◌∙◌, inl, inr, arith}
use Rattle.std.proofs.Math.Nat.{mul-le-mul, mul-le-mul_left, le_of_mul-le-mul_right, lt_of_mul-lt-mul_right, div-le_of_le-mul, div-mul-le_self, lt-div-mul-add, le_antisymm}
use Rattle.std.proofs.lemmas.Nat.{le-div, div_below}
use Rattle.std.proofs.lemmas.Bool.{cases_lt}
use Rattle.kernel_table.specs.Kernel.{gauss_entry, gauss_value}
use Rattle.kernel_table.specs.Reciprocal.{IsReciprocal}
use Rattle.kernel_table.proofs.KernelLaws.{gauss_entry-zero}

-- the product reaches each number that the quotient reaches
product-from : (g s m q : ℕ) → 0 < s → q * s ≤ 64 * g → 2 ^ 70 ≤ m * s → q * 2 ^ 64 ≤ g * m
product-from g s m q some reached enough =
    let times : g * 2 ^ 70 ≤ g * (m * s) = mul-le-mul_left g enough in
    let all : q * 2 ^ 64 * s ≤ g * m * s = omega (arith, times) in
    le_of_mul-le-mul_right all some

-- and no number past it
product-below : (g s m q : ℕ) → s ≤ 200000000 → g ≤ 4 * s → 64 * g < q * s + s → m * s ≤ 2 ^ 70 + s → g * m < (q + 1) * 2 ^ 64
product-below g s m q at_most near below little =
    let times : g * (m * s) ≤ g * (2 ^ 70 + s) = mul-le-mul_left g little in
    let gap : g ≤ 800000000 = omega arith in
    let square : g * s ≤ 800000000 * 200000000 = mul-le-mul gap at_most in
    let all : g * m * s < (q + 1) * 2 ^ 64 * s = omega (arith, times, square) in
    lt_of_mul-lt-mul_right s all

-- so both are the same place
pub place-is : (g s m : ℕ) → 1000 ≤ s → s ≤ 200000000 → g ≤ 4 * s → m ≡ 2 ^ 70 / s + 1 → g * m / 2 ^ 64 ≡ 64 * g / s
place-is g s m at_least at_most near m_is =
    let q : ℕ = 64 * g / s in
    let some : 0 < s = omega arith in
    let product : m * s ≡ 2 ^ 70 / s * s + s = rw m_is (omega arith) in
    let low = div-mul-le_self (2 ^ 70) s in
    let high = lt-div-mul-add {a = 2 ^ 70} some in
    let from = product-from g s m q some (div-mul-le_self (64 * g) s) (omega arith) in
    let below = product-below g s m q at_most near (lt-div-mul-add {a = 64 * g} some) (omega arith) in
    let up : g * m / 2 ^ 64 < q + 1 = div_below (g * m) (2 ^ 64) (q + 1) (omega arith) below in
    le_antisymm (omega arith) (le-div q (g * m) (2 ^ 64) (omega arith) from)

-- the entry at the place that the product gives, for a misfit that is cut at the table's end
pub entry-by : (gap near s factor last : ℕ) → IsReciprocal s factor last → near ≡ min gap last
    → (near * factor / 2 ^ 64 ≤ 256) × (gauss_entry (near * factor / 2 ^ 64) ≡ gauss_value gap s)
entry-by gap near s factor last is cut =
    let at_least = is.at_least in
    let last_is = is.last_is in
    let near_last : near ≤ 4 * s = omega arith in
    let same = place-is near s factor at_least is.at_most near_last is.factor_is in
    let within : 64 * near / s ≤ 256 = div-le_of_le-mul s (omega arith) in (
      omega arith,
      elim (cases_lt last gap) [
        | inr here ↦ let is_gap : near ≡ gap = omega arith in ap gauss_entry same ∙ ap (λ g. gauss_entry (64 * g / s)) is_gap
        | inl past ↦
            let at_end : 256 ≤ 64 * near / s = le-div 256 (64 * near) s (omega arith) (omega arith) in
            let after : 256 ≤ 64 * gap / s = le-div 256 (64 * gap) s (omega arith) (omega arith) in
            gauss_entry-zero (near * factor / 2 ^ 64) (omega arith) ∙ sym (gauss_entry-zero (64 * gap / s) (omega arith))
      ],
    )
