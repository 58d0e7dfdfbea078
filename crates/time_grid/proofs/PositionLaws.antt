-- The first element of a list that passes a test.
use Rattle.std.proofs.Common.{◌≡◌, ℕ, ◌<◌, Bool, true, false, ltb, List, length, get_or, Some, None, position, arith, refl}
use Rattle.std.specs.List.{position_or_len}
use Rattle.std.proofs.lemmas.List.Sums.{position_or_len_is}
use Rattle.std.proofs.lemmas.Bool.Decides.{Decides-ltb, nat_tests}

pub position_is : (p : ℕ → Bool) (xs : List ℕ) (i : ℕ) → i < length xs → p (get_or xs i 0) ≡ true
    → ((k : ℕ) → k < i → p (get_or xs k 0) ≡ false) → position p xs ≡ Some i
position_is p xs i below here before =
    let found : position_or_len p xs ≡ i = position_or_len_is p xs i 0 (omega arith) before (λ _. here) in
    let inside : ltb i (length xs) ≡ true = (Decides-ltb i (length xs)).1 below in
    rw (found, inside) refl

pub position_is_none : (p : ℕ → Bool) (xs : List ℕ) → ((k : ℕ) → k < length xs → p (get_or xs k 0) ≡ false) → position p xs ≡ None
position_is_none p xs none =
    let past : position_or_len p xs ≡ length xs = position_or_len_is p xs (length xs) 0 (omega arith) none (λ b. absurd (omega arith)) in
    let outside : ltb (length xs) (length xs) ≡ false = grind (arith, nat_tests) in
    rw (past, outside) refl
