-- Places in lists that are put together.
use Rattle.std.proofs.Common.{◌≡◌, ℕ, zero, suc, ◌+◌, ◌<◌, ◌≤◌, Bool, List, [], ◌∷◌, ◌++◌, length, take, drop, get_or, Some, refl, ◌∙◌, ap, arith}
use Rattle.std.specs.Prelude.{map, count_by}
use Rattle.std.specs.Option.{option_map}
use Rattle.std.proofs.lemmas.Option.{slice_get-map, slice_get_read}
use Rattle.std.proofs.lemmas.List.{take-append-drop}
use Rattle.std.specs.List.{slice_get, slice_split}
use Rattle.std.proofs.lemmas.Grind.{common_steps}
use Rattle.std.proofs.lemmas.List.Splits.{length-slice_split}
use Rattle.std.proofs.lemmas.List.Sums.{count_by-le-length}
use Rattle.text_terms.specs.Lines.{is_line_feed, lines_of_parts, lines_of}

-- an element of a front stands at its place of the whole
pub get_front : {A : Type 0} (front rest : List A) (j : ℕ) → j < length front → slice_get (front ++ rest) j ≡ slice_get front j
get_front [] rest j less = absurd (omega (arith, less))
get_front (x ∷ front) rest zero less = refl
get_front (x ∷ front) rest (suc j) less = get_front front rest j (omega (arith, less))

pub get_next : {A : Type 0} (front rest : List A) (x : A) → slice_get (front ++ x ∷ rest) (length front) ≡ Some x
get_next [] rest x = refl
get_next (y ∷ front) rest x = get_next front rest x

-- a file has at most one line more than bytes
few_last : (part : List ℕ) → length (lines_of_parts (part ∷ [])) ≤ 1
few_last [] = omega arith
few_last (b ∷ part) = grind (arith, common_steps)

few_parts : (parts : List (List ℕ)) → length (lines_of_parts parts) ≤ length parts
few_parts [] = omega arith
few_parts (part ∷ []) = few_last part
few_parts (part ∷ next ∷ more) = omega (arith, few_parts (next ∷ more))

pub few_lines : (bytes : List ℕ) → length (lines_of bytes) ≤ length bytes + 1
few_lines bytes =
    omega (arith, few_parts (slice_split is_line_feed bytes), length-slice_split is_line_feed bytes, count_by-le-length is_line_feed bytes)

-- the front of a list has no more elements that pass a test
pub count_front : {A : Type 0} (p : A → Bool) (k : ℕ) (xs : List A) → count_by p (take k xs) ≤ count_by p xs
count_front p k xs =
    let split : count_by p (take k xs ++ drop k xs) ≡ count_by p (take k xs) + count_by p (drop k xs) = grind (arith, common_steps) in
    let whole = ap (count_by p) (take-append-drop k xs) in
    omega (arith, split, whole)

-- what a list's element becomes
pub get_mapped : {A B : Type 0} (f : A → B) (xs : List A) (k : ℕ) (x : A) → k < length xs → x ≡ get_or xs k x → slice_get (map f xs) k ≡ Some (f x)
get_mapped f xs k x less is = slice_get-map f xs k ∙ ap (option_map f) (slice_get_read xs (length xs) k x refl less is)
