-- Counts that rise exactly where a test is true.
use Rattle.std.proofs.Common.{◌≡◌, ℕ, ◌-◌, ◌^◌, ◌<◌, Bool, true, false, refl, IsTrue, arith}
use Rattle.edt_outside.specs.Counts.{Rose, RisesExactly}

-- below its last value such a count rose exactly where the test is true
pub RisesExactly-rose : (test : Bool) (before after : ℕ) → RisesExactly test before after → after < 2 ^ 64 - 1
    → (IsTrue test → Rose before after) × (Rose before after → IsTrue test)
RisesExactly-rose true before after rises below = (λ _. rises.1, λ _. refl)
RisesExactly-rose false before after rises below = (λ (never : false ≡ true). absurd (cc), λ rose. absurd (omega arith))
