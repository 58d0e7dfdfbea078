-- The first cause of a list that is put together.
use Rattle.std.proofs.Common.{◌≡◌, List, [], ◌∷◌, ◌++◌, Option, Some, None, refl, ap}
use Rattle.text_terms.specs.Faults.{first_cause}

-- there is none before the second list
pub first_of_second : {Cause : Type 0} (xs ys : List (Option Cause)) → first_cause xs ≡ None → first_cause (xs ++ ys) ≡ first_cause ys
first_of_second [] ys none = refl
first_of_second (None ∷ xs) ys none = first_of_second xs ys none
first_of_second (Some cause ∷ xs) ys none = absurd (cc none)

-- there is one in the first list
pub first_of_first : {Cause : Type 0} (xs ys : List (Option Cause)) (cause : Cause) → first_cause xs ≡ Some cause → first_cause (xs ++ ys) ≡ Some cause
first_of_first [] ys cause some = absurd (cc some)
first_of_first (None ∷ xs) ys cause some = first_of_first xs ys cause some
first_of_first (Some found ∷ xs) ys cause some = some

-- what stands first is the first, or there is none there
pub first_here : {Cause : Type 0} (found : Option Cause) (rest : List (Option Cause)) (cause : Cause) → found ≡ Some cause
    → first_cause (found ∷ rest) ≡ Some cause
first_here found rest cause is = ap (λ o. first_cause (o ∷ rest)) is

pub first_after : {Cause : Type 0} (found : Option Cause) (rest : List (Option Cause)) → found ≡ None
    → first_cause (found ∷ rest) ≡ first_cause rest
first_after found rest is = ap (λ o. first_cause (o ∷ rest)) is

-- where there is none at all, none stands first and none after it
pub first_none : {Cause : Type 0} (found : Option Cause) (rest : List (Option Cause)) → first_cause (found ∷ rest) ≡ None
    → (found ≡ None) × (first_cause rest ≡ None)
first_none None rest none = (refl, none)
first_none (Some cause) rest none = absurd cc

-- the first of a first cause and others
pub first_flat : {Cause : Type 0} (xs ys : List (Option Cause)) → first_cause (first_cause xs ∷ ys) ≡ first_cause (xs ++ ys)
first_flat [] ys = refl
first_flat (None ∷ xs) ys = first_flat xs ys
first_flat (Some cause ∷ xs) ys = refl
