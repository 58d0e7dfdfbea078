-- What readers of a date and a clock found, as the words' values.
use Rattle.std.proofs.Common.{◌≡◌, true, false, Option, Some, None, refl}
use Rattle.std.specs.Prelude.{is_some, unwrap_or}
use Rattle.std.specs.Option.{option_map}

-- a mapped value comes from a value
pub mapped_some : {A B : Type 0} (f : A → B) (o : Option A) (d : A) (y : B) → Some y ≡ option_map f o → (is_some o ≡ true) × (y ≡ f (unwrap_or o d))
mapped_some f None d y e = absurd cc
mapped_some f (Some x) d y e = (refl, cc)

pub mapped_none : {A B : Type 0} (f : A → B) (o : Option A) → None ≡ option_map f o → is_some o ≡ false
mapped_none f None e = refl
mapped_none f (Some x) e = absurd cc
