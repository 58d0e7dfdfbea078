-- Tests of the items of a list.
use Rattle.std.proofs.Common.{◌≡◌, Bool, All, List, [], ◌∷◌, ◌++◌, length, refl, subst, arith}
use Rattle.std.specs.List.{list_any}
use Rattle.std.proofs.lemmas.List.{get_or_append_left, get_or_push, length_push}

-- two tests that agree find the same
pub list_any_same : {A : Type 0} (p q : A → Bool) → ((x : A) → p x ≡ q x) → (xs : List A) → list_any p xs ≡ list_any q xs
list_any_same p q same [] = refl
list_any_same p q same (x ∷ xs) = rw (same x, list_any_same p q same xs) refl

-- what holds of each item of a list and of one more
pub All-split : {A : Type 0} (P : A → Type 0) (xs : List A) (x : A) → All P (xs ++ x ∷ []) → All P xs × P x
All-split P xs x all = (
  λ k d below. subst P (get_or_append_left xs (x ∷ []) d k below) (all k d (omega (arith, length_push xs x))),
  subst P (get_or_push xs x x (length xs) refl) (all (length xs) x (omega (arith, length_push xs x))),
)
