-- The state with which the generator begins.
use Rattle.std.proofs.Common.{◌≡◌, ℕ, ℤ, ◌<◌, ◌^◌, ap, ◌∙◌, arith}
use Rattle.std.specs.Prelude.{pos, negsuc, FitsSigned}
use Rattle.std.specs.Int.{cast_signed, cast_unsigned, w64}
use Rattle.std.proofs.lemmas.Int.{to_z-of_z}
use Rattle.search_lanes.specs.Schedule.{seed_state}

-- it is the seed, read without its sign
pub seed_is : (seed : ℤ) → FitsSigned w64 seed → cast_unsigned w64 seed ≡ seed_state seed
seed_is (pos n) fits = let below : n < 2 ^ 63 = fits.sfits in omega (arith, below)
seed_is (negsuc n) fits = let below : n < 2 ^ 63 = fits.sfits in omega (arith, below)

-- also where it was read and written before
pub seed_read : (seed : ℤ) (state : ℕ) → FitsSigned w64 seed → state ≡ cast_unsigned w64 (cast_signed w64 (cast_unsigned w64 seed)) → state ≡ seed_state seed
seed_read seed state fits is = is ∙ ap (cast_unsigned w64) (to_z-of_z w64 seed fits) ∙ seed_is seed fits
