-- Numbers that are written one after another.
use Rattle.std.proofs.Common.{◌≡◌, ℕ, ◌-◌, ◌≤◌, List, [], ◌∷◌, ◌++◌, length, get_or, take, drop, refl, sym, ◌∙◌, ap, arith, append-nil, append_assoc}
use Rattle.std.specs.Prelude.{decimal}
use Rattle.std.specs.List.{flat_map}
use Rattle.std.proofs.lemmas.List.{take_all}
use Rattle.cover_certificate.specs.BlockLines.{spaced}

-- each number after the first has a blank before it
pub spaced_from : (n : ℕ) (numbers : List ℕ) → spaced (n ∷ numbers) ≡ decimal n ++ flat_map (λ m. 32 ∷ decimal m) numbers
spaced_from n [] = sym (append-nil (decimal n))
spaced_from n (m ∷ numbers) = ap (λ bytes. decimal n ++ 32 ∷ bytes) (spaced_from m numbers)

-- what is written of the first number and of the others is all
pub spaced_all : (numbers rest before first after : List ℕ) (i : ℕ) → 1 ≤ length numbers → rest ≡ take (length numbers - 1) (drop 1 numbers)
    → length rest ≤ i → first ≡ before ++ decimal (get_or numbers 0 0)
    → after ≡ first ++ flat_map (λ m. 32 ∷ decimal m) (take i rest) → after ≡ before ++ spaced numbers
spaced_all [] rest before first after i some is past one others = absurd (omega arith)
spaced_all (n ∷ numbers) rest before first after i some is past one others =
    let whole : rest ≡ numbers = is ∙ take_all (length (n ∷ numbers) - 1) numbers (omega arith) in
    let upto : take i rest ≡ numbers = take_all i rest past ∙ whole in
    others ∙ rw (one, upto, spaced_from n numbers, append_assoc) refl
