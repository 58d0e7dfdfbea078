-- The first place that passes a test.
use Rattle.std.proofs.Common.{◌≡◌, ℕ, ◌<◌, Bool, true, false, List, ◌++◌, length, get_or, Some, None, refl, arith, length-append}
use Rattle.std.specs.List.{position, position_or_len}
use Rattle.std.proofs.lemmas.Bool.{le-ltb, lt-ltb}
use Rattle.std.proofs.lemmas.List.Sums.{position_or_len_is}
use Rattle.std.proofs.lemmas.List.Quantifiers.{position-Some}
use Rattle.std.proofs.Math.ListN.{get_or-append}

-- it is the place that passes with none before it
pub position_at : (p : ℕ → Bool) (xs : List ℕ) (i : ℕ) → i < length xs → p (get_or xs i 0) ≡ true → ((k : ℕ) → k < i → p (get_or xs k 0) ≡ false)
    → position p xs ≡ Some i
position_at p xs i inside here before =
    let is : position_or_len p xs ≡ i = position_or_len_is p xs i 0 (omega arith) before (λ below. here) in
    rw (is, lt-ltb i (length xs) inside) refl

-- there is none where no place passes
pub position_nowhere : (p : ℕ → Bool) (xs : List ℕ) → ((k : ℕ) → k < length xs → p (get_or xs k 0) ≡ false) → position p xs ≡ None
position_nowhere p xs none =
    let is : position_or_len p xs ≡ length xs = position_or_len_is p xs (length xs) 0 (omega arith) none (λ below. absurd (omega arith)) in
    rw (is, le-ltb (length xs) (length xs) (omega arith)) refl

-- it stays where more follow
pub position_stays : (p : ℕ → Bool) (xs ys : List ℕ) (i : ℕ) → position p xs ≡ Some i → position p (xs ++ ys) ≡ Some i
position_stays p xs ys i found =
    let at = position-Some p xs i 0 found in
    let inside : i < length xs = at.0 in
    position_at p (xs ++ ys) i (omega (arith, length-append xs ys)) (rw (get_or-append xs ys 0 i inside) at.1)
    (λ k less. let below : k < length xs = omega arith in rw (get_or-append xs ys 0 k below) (at.2 k less))
