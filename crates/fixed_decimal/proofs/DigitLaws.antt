-- The digits among bytes, one place further on.
use Rattle.std.proofs.Common.{◌≡◌, ℕ, ◌+◌, ◌-◌, ◌*◌, ◌^◌, ◌<◌, ◌≤◌, true, List, [], ◌∷◌, length, get_or, drop, drop-cons, add-one, refl, arith}
use Rattle.std.specs.Prelude.{filter}
use Rattle.std.specs.Char.{is_ascii_digit}
use Rattle.std.proofs.Math.Nat.{pow-le-pow_right}
use Rattle.text_terms.specs.Numerals.{value_after, value_of}

-- a byte that is a digit
pub digits-digit : (bytes : List ℕ) (i : ℕ) → i < length bytes → is_ascii_digit (get_or bytes i 0) ≡ true
    → filter is_ascii_digit (drop i bytes) ≡ get_or bytes i 0 ∷ filter is_ascii_digit (drop (i + 1) bytes)
digits-digit bytes i within digit = rw (add-one, drop-cons bytes i 0 within, digit) refl

-- more digits make no number smaller
pub value_after-grows : (n : ℕ) (digits : List ℕ) → n ≤ value_after n digits
value_after-grows n [] = omega arith
value_after-grows n (digit ∷ digits) = omega (arith, value_after-grows (10 * n + (digit - 48)) digits)

-- what a number of at most 30 digits stays below
pub below_power : (n k : ℕ) → n < 10 ^ k → k ≤ 30 → n < 10 ^ 30
below_power n k small few = omega (arith, pow-le-pow_right {n = 10} (omega arith) few)

-- a number that passes 30 as far as its digits were read passes it as a whole
pub passes_on : (bytes : List ℕ) (i n digit : ℕ) → i < length bytes → is_ascii_digit (get_or bytes i 0) ≡ true
    → value_after n (filter is_ascii_digit (drop i bytes)) ≡ value_of (filter is_ascii_digit bytes)
    → digit ≡ get_or bytes i 0 - 48 → 30 < 10 * n + digit → 30 < value_of (filter is_ascii_digit bytes)
passes_on bytes i n digit within is_digit value is large =
    let read : value_after (10 * n + (get_or bytes i 0 - 48)) (filter is_ascii_digit (drop (i + 1) bytes)) ≡ value_of (filter is_ascii_digit bytes) =
    rw (digits-digit bytes i within is_digit) at value in
    omega (arith, read, is, value_after-grows (10 * n + (get_or bytes i 0 - 48)) (filter is_ascii_digit (drop (i + 1) bytes)))
