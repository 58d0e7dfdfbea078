-- The bytes of a decimal differ.
use Rattle.std.proofs.Common.{◌≡◌, ℕ, true, false, arith}
use Rattle.std.specs.Char.{is_ascii_digit}
use Rattle.std.proofs.lemmas.Grind.{common_steps}
use Rattle.fixed_decimal.specs.Form.{is_sign, is_mark, is_point}

pub digit-no_mark : (b : ℕ) → is_ascii_digit b ≡ true → is_mark b ≡ false
digit-no_mark b e = grind (arith, common_steps)

pub digit-no_point : (b : ℕ) → is_ascii_digit b ≡ true → is_point b ≡ false
digit-no_point b e = grind (arith, common_steps)

pub digit-no_sign : (b : ℕ) → is_ascii_digit b ≡ true → is_sign b ≡ false
digit-no_sign b e = grind (arith, common_steps)

pub point-no_mark : (b : ℕ) → is_point b ≡ true → is_mark b ≡ false
point-no_mark b e = grind (arith, common_steps)

pub mark-no_digit : (b : ℕ) → is_mark b ≡ true → is_ascii_digit b ≡ false
mark-no_digit b e = grind (arith, common_steps)

pub mark-no_point : (b : ℕ) → is_mark b ≡ true → is_point b ≡ false
mark-no_point b e = grind (arith, common_steps)

pub mark-no_sign : (b : ℕ) → is_mark b ≡ true → is_sign b ≡ false
mark-no_sign b e = grind (arith, common_steps)

pub sign-no_mark : (b : ℕ) → is_sign b ≡ true → is_mark b ≡ false
sign-no_mark b e = grind (arith, common_steps)

pub sign-no_digit : (b : ℕ) → is_sign b ≡ true → is_ascii_digit b ≡ false
sign-no_digit b e = grind (arith, common_steps)

pub sign-no_point : (b : ℕ) → is_sign b ≡ true → is_point b ≡ false
sign-no_point b e = grind (arith, common_steps)
