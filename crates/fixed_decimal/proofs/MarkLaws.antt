-- What stands before the mark and after it, one byte further on.
use Rattle.std.proofs.Common.{◌≡◌, ℕ, suc, ◌+◌, true, false, List, [], ◌∷◌, take, drop, refl, arith}
use Rattle.std.specs.List.{position_or_len}
use Rattle.fixed_decimal.specs.Form.{is_mark, mantissa_of, exponent_of, has_mark}

pub mantissa_of-mark : (b : ℕ) (text : List ℕ) → is_mark b ≡ true → mantissa_of (b ∷ text) ≡ []
mantissa_of-mark b text e = rw e refl

take_more : (k b : ℕ) (text : List ℕ) → take (1 + k) (b ∷ text) ≡ b ∷ take k text
take_more k b text = let e : 1 + k ≡ suc k = omega arith in rw e refl

pub mantissa_of-other : (b : ℕ) (text : List ℕ) → is_mark b ≡ false → mantissa_of (b ∷ text) ≡ b ∷ mantissa_of text
mantissa_of-other b text e = rw e (take_more (position_or_len is_mark text) b text)

pub exponent_of-mark : (b : ℕ) (text : List ℕ) → is_mark b ≡ true → exponent_of (b ∷ text) ≡ text
exponent_of-mark b text e = rw e refl

drop_more : (k b : ℕ) (text : List ℕ) → drop (1 + k + 1) (b ∷ text) ≡ drop (k + 1) text
drop_more k b text = let e : 1 + k + 1 ≡ suc (k + 1) = omega arith in rw e refl

pub exponent_of-other : (b : ℕ) (text : List ℕ) → is_mark b ≡ false → exponent_of (b ∷ text) ≡ exponent_of text
exponent_of-other b text e = rw e (drop_more (position_or_len is_mark text) b text)

pub has_mark-mark : (b : ℕ) (text : List ℕ) → is_mark b ≡ true → has_mark (b ∷ text) ≡ true
has_mark-mark b text e = rw e refl

pub has_mark-other : (b : ℕ) (text : List ℕ) → is_mark b ≡ false → has_mark (b ∷ text) ≡ has_mark text
has_mark-other b text e = rw e refl
