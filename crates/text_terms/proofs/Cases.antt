-- Splits into cases.
use Rattle.std.proofs.Common.{◌≡◌, ℕ, ◌<◌, ◌≤◌, Bool, true, false, ◌⊎◌, inl, inr, refl, arith}
use Rattle.std.specs.Prelude.{nat_lt}
use Rattle.std.proofs.lemmas.Grind.{common_steps}

-- a test is true or false
pub by_bool : (b : Bool) → (b ≡ true) ⊎ (b ≡ false)
by_bool true = inl refl
by_bool false = inr refl

-- one number is below another or not
pub less_or_not : (m n : ℕ) → (m < n) ⊎ (n ≤ m)
less_or_not m n = elim (by_bool (nat_lt m n)) [
  | inl less ↦ inl (grind (arith, common_steps))
  | inr not_less ↦ inr (grind (arith, common_steps))
]
