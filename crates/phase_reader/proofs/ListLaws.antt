-- Numbered lists, and what holds where there is a value.
use Rattle.std.proofs.Common.{◌≡◌, ℕ, zero, suc, ◌+◌, List, [], ◌∷◌, ◌++◌, take, Some, Result, Ok, Err, refl, ap, arith}
use Rattle.std.specs.Prelude.{OnOk}
use Rattle.std.specs.List.{slice_get, enumerate_from}

-- what stands at a place of a numbered list, and the list up to it
pub record IsNumbered {A : Type 0} (n k : ℕ) (xs : List A) (x : A) : Type 0 where
  pub here : slice_get (enumerate_from n xs) k ≡ Some (n + k, x)
  pub upto : take (suc k) (enumerate_from n xs) ≡ take k (enumerate_from n xs) ++ (n + k, x) ∷ []

pub numbered_here : {A : Type 0} (n k : ℕ) (xs : List A) (x : A) → slice_get xs k ≡ Some x → IsNumbered n k xs x
numbered_here n zero [] x e = absurd cc
numbered_here n zero (y ∷ ys) x e =
    let same : y ≡ x = cc in
    let sum : n + 0 ≡ n = omega arith in
    record { here = rw (sum, same) refl; upto = rw (sum, same) refl }
numbered_here n (suc k) [] x e = absurd cc
numbered_here n (suc k) (y ∷ ys) x e =
    let more : IsNumbered (n + 1) k ys x = numbered_here (n + 1) k ys x e in
    let sum : n + suc k ≡ n + 1 + k = omega arith in
    record { here = rw sum more.here; upto = rw sum (ap (λ zs. (n, y) ∷ zs) more.upto) }

-- what holds where there is a value
pub ok_is : {T E P : Type 0} (r : Result T E) → P → OnOk r P
ok_is (Ok x) p = p
ok_is (Err e) p = tt

pub both_ok : {T E P Q R : Type 0} (r : Result T E) → OnOk r P → OnOk r Q → (P → Q → R) → OnOk r R
both_ok (Ok x) p q f = f p q
both_ok (Err e) p q f = tt
