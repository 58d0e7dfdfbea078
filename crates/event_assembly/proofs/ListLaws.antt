-- Lists that are walked from the front.
use Rattle.std.proofs.Common.{◌≡◌, ℕ, zero, suc, ◌+◌, ◌<◌, ◌≤◌, List, [], ◌∷◌, ◌++◌, map, take, get_or, length, Some, refl, sym, ap, subst, ◌∙◌}
use Rattle.std.specs.List.{slice_get}
use Rattle.std.proofs.lemmas.List.{take_all, take_more, get_or-map, length-map}
use Rattle.std.proofs.lemmas.Option.{slice_get-get_or}
use Rattle.std.proofs.lemmas.List.Elements.{All-get_or}
use Rattle.std.specs.Prelude.{All}

-- the first items, and one more
pub take_here : {A : Type 0} (i : ℕ) (xs : List A) (x : A) → slice_get xs i ≡ Some x → take (suc i) xs ≡ take i xs ++ x ∷ []
take_here i [] x here = absurd cc
take_here zero (y ∷ ys) x here = let same : y ≡ x = cc in rw same refl
take_here (suc i) (y ∷ ys) x here = ap (λ zs. y ∷ zs) (take_here i ys x here)

-- all items
pub take_whole : {A : Type 0} (i : ℕ) (xs : List A) → length xs ≤ i → take i xs ≡ xs
take_whole i xs all = take_all i xs all

-- what is made of each item, and of one more
pub map_push : {A B : Type 0} (f : A → B) (xs : List A) (x : A) → map f (xs ++ x ∷ []) ≡ map f xs ++ f x ∷ []
map_push f [] x = refl
map_push f (y ∷ ys) x = ap (λ zs. f y ∷ zs) (map_push f ys x)

pub map_more : {A B : Type 0} (f : A → B) (i : ℕ) (xs : List A) (x : A) (made : List B) (one : B) → slice_get xs i ≡ Some x → made ≡ map f (take i xs)
    → one ≡ f x → made ++ one ∷ [] ≡ map f (take (suc i) xs)
map_more f i xs x made one here before is = rw (before, is, take_here i xs x here) (sym (map_push f (take i xs) x))

-- the item of a loop stands at its place
pub item_here : {A : Type 0} (xs : List A) (i : ℕ) (x : A) → i < length xs → x ≡ get_or xs i x → slice_get xs i ≡ Some x
item_here xs i x below is = slice_get-get_or xs i x below ∙ ap (λ y. Some y) (sym is)

-- and has what all have
pub at_item : {A : Type 0} (P : A → Type 0) (xs : List A) (i : ℕ) (x : A) → i < length xs → x ≡ get_or xs i x → All P xs → P x
at_item P xs i x below is all = subst P (sym is) (All-get_or P xs i x below all)

-- what is made of it has what all have that are made so
pub at_made : {A B : Type 0} (P : B → Type 0) (f : A → B) (xs : List A) (i : ℕ) (x : A) → i < length xs → x ≡ get_or xs i x → All P (map f xs) → P (f x)
at_made P f xs i x below is all =
    subst P (get_or-map f xs i x (f x) below ∙ ap f (sym is)) (All-get_or P (map f xs) i (f x) (rw (length-map xs f) below) all)

-- the first items and this one
pub take_item : {A : Type 0} (xs : List A) (i : ℕ) (x : A) → i < length xs → x ≡ get_or xs i x → take (i + 1) xs ≡ take i xs ++ x ∷ []
take_item xs i x below is = take_more xs i x below ∙ ap (λ y. take i xs ++ y ∷ []) (sym is)
