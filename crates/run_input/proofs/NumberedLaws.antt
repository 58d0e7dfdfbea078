-- What is made of items that are numbered from 1, item by item.
use Rattle.std.proofs.Common.{◌≡◌, ℕ, suc, ◌+◌, ◌<◌, List, [], ◌∷◌, ◌++◌, length, take, drop, get_or, drop-cons, map, sym, ◌∙◌, ap, arith}
use Rattle.std.proofs.Math.Seq.{take-suc}
use Rattle.std.proofs.lemmas.List.{take-append-drop, map-append, length-take-le, get_or_default}
use Rattle.std.specs.List.{enumerate_from}

-- what a function makes of numbered items
abbrev pub numbered : {X Y : Type 0} → (ℕ × X → Y) → List X → List Y
numbered f xs = map f (enumerate_from 1 xs)

enumerate_append : {X : Type 0} (n : ℕ) (xs ys : List X) → enumerate_from n (xs ++ ys) ≡ enumerate_from n xs ++ enumerate_from (n + length xs) ys
enumerate_append n [] ys = ap (λ k. enumerate_from k ys) (omega arith)
enumerate_append n (x ∷ xs) ys =
    let at : n + 1 + length xs ≡ n + length (x ∷ xs) = omega arith in
    ap (λ es. (n, x) ∷ es) (enumerate_append (n + 1) xs ys ∙ ap (λ k. enumerate_from (n + 1) xs ++ enumerate_from k ys) at)

-- what is made of the items up to a place, of the one there, and of the rest
pub numbered_at : {X Y : Type 0} (f : ℕ × X → Y) (xs : List X) (i : ℕ) (d : X) → i < length xs
    → numbered f xs ≡ numbered f (take i xs) ++ f (i + 1, get_or xs i d) ∷ map f (enumerate_from (i + 1 + 1) (drop (suc i) xs))
numbered_at {X} f xs i d within =
    let cut : xs ≡ take i xs ++ (get_or xs i d ∷ drop (suc i) xs) = sym (take-append-drop i xs) ∙ ap (λ rest. take i xs ++ rest) (drop-cons xs i d within) in
    let at : 1 + length (take i xs) ≡ i + 1 = omega (arith, length-take-le i xs (omega arith)) in
    ap (numbered f) cut
    ∙ (ap (map f) (enumerate_append 1 (take i xs) (get_or xs i d ∷ drop (suc i) xs))
    ∙ (map-append f (enumerate_from 1 (take i xs)) (enumerate_from (1 + length (take i xs)) (get_or xs i d ∷ drop (suc i) xs))
    ∙ ap (λ k. numbered f (take i xs) ++ map f (enumerate_from k (get_or xs i d ∷ drop (suc i) xs))) at))

-- and up to the next place
pub numbered_upto : {X Y : Type 0} (f : ℕ × X → Y) (xs : List X) (i : ℕ) (d : X) → i < length xs
    → numbered f (take (suc i) xs) ≡ numbered f (take i xs) ++ f (i + 1, get_or xs i d) ∷ []
numbered_upto f xs i d within =
    let at : 1 + length (take i xs) ≡ i + 1 = omega (arith, length-take-le i xs (omega arith)) in
    ap (numbered f) (take-suc xs i d within)
    ∙ (ap (map f) (enumerate_append 1 (take i xs) (get_or xs i d ∷ []))
    ∙ (map-append f (enumerate_from 1 (take i xs)) (enumerate_from (1 + length (take i xs)) (get_or xs i d ∷ []))
    ∙ ap (λ k. numbered f (take i xs) ++ map f (enumerate_from k (get_or xs i d ∷ []))) at))

-- an item of a list is one of an equal list, whatever stands for one that is missing
pub item_is : {X : Type 0} (xs ys : List X) (i : ℕ) (x d : X) → xs ≡ ys → i < length xs → x ≡ get_or xs i d → x ≡ get_or ys i x
item_is xs ys i x d same within is = is ∙ (get_or_default xs i d x within ∙ ap (λ l. get_or l i x) same)
