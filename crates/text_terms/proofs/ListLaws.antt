-- What holds of lists: by one more item at their end, over lists of lists, at one item, and of one that is found.
use Rattle.std.proofs.Common.{◌≡◌, ℕ, zero, suc, ◌+◌, ◌<◌, ◌≤◌, Bool, inl, inr, All, List, [], ◌∷◌, ◌++◌, length, take, drop, Some, refl, sym, ap, subst, ◌∙◌, arith, append_assoc, length-drop}
use Rattle.std.specs.Prelude.{IfSome}
use Rattle.std.specs.List.{find, flat_map, range_with_len, slice_get}
use Rattle.std.proofs.lemmas.Bool.{cases_Bool}
use Rattle.std.proofs.lemmas.List.{append-nil}
use Rattle.std.proofs.lemmas.List.Elements.{All-append, All-head, All-nil, All-tail}

-- what holds of no items, and of one more where it holds of those before, holds of each list
module _ {A : Type 0} (P : List A → Type 0) (none : P []) (more : (xs : List A) (x : A) → P xs → P (xs ++ x ∷ [])) where
  after : (xs ys : List A) → P xs → P (xs ++ ys)
  after xs [] p = subst P (sym (append-nil xs)) p
  after xs (y ∷ ys) p = subst P (append_assoc xs (y ∷ []) ys) (after (xs ++ y ∷ []) ys (more xs y p))

  pub by_push : (xs : List A) → P xs
  by_push xs = after [] xs none

-- what holds of each item of each list holds of each item of all
pub All-flat_map : {A B : Type 0} (P : B → Type 0) (f : A → List B) (xs : List A) → All (λ x. All P (f x)) xs → All P (flat_map f xs)
All-flat_map P f [] all = All-nil P
All-flat_map P f (x ∷ xs) all =
    All-append P (f x) (flat_map f xs) (All-head (λ y. All P (f y)) x xs all) (All-flat_map P f xs (All-tail (λ y. All P (f y)) x xs all))

-- one more number of a range
pub range_push : (a n : ℕ) → range_with_len a (suc n) ≡ range_with_len a n ++ (a + n) ∷ []
range_push a zero = let e : a + 0 ≡ a = omega arith in rw e refl
range_push a (suc n) =
    let e : a + 1 + n ≡ a + suc n = omega arith in
    ap (λ ns. a ∷ ns) (range_push (a + 1) n ∙ ap (λ k. range_with_len (a + 1) n ++ k ∷ []) e)

-- two functions that agree on a range give the same lists over it
pub range_same : {A : Type 0} (f g : ℕ → List A) (a n : ℕ) → ((k : ℕ) → k < a + n → f k ≡ g k)
    → flat_map f (range_with_len a n) ≡ flat_map g (range_with_len a n)
range_same f g a zero same = refl
range_same f g a (suc n) same = (λ j. same a (omega arith) j ++ range_same f g (a + 1) n (λ k below. same k (omega arith)) j)

-- the item at a place of a list, with what stands before and after it
pub record IsHere {A : Type 0} (k : ℕ) (xs : List A) (x : A) (rest : List A) : Type 0 where
  pub within : k < length xs
  pub here : slice_get xs k ≡ Some x
  pub whole : xs ≡ take k xs ++ x ∷ rest
  pub upto : take (suc k) xs ≡ take k xs ++ x ∷ []
  pub behind : drop (suc k) xs ≡ rest

pub drop_here : {A : Type 0} (k : ℕ) (xs : List A) (x : A) (rest : List A) → drop k xs ≡ x ∷ rest → IsHere k xs x rest
drop_here zero [] x rest e = absurd cc
drop_here zero (y ∷ ys) x rest e =
    let same : y ≡ x = cc in
    record { within = omega arith; here = cc; whole = e; upto = rw same refl; behind = cc }
drop_here (suc k) [] x rest e = absurd cc
drop_here (suc k) (y ∷ ys) x rest e =
    let more : IsHere k ys x rest = drop_here k ys x rest e in
    record {
      within = omega (arith, more.within);
      here = more.here;
      whole = ap (λ zs. y ∷ zs) more.whole;
      upto = ap (λ zs. y ∷ zs) more.upto;
      behind = more.behind;
    }

-- a list that is passed over whole is no longer than what was passed over
pub drop_none : {A : Type 0} (k : ℕ) (xs : List A) → drop k xs ≡ [] → length xs ≤ k
drop_none k xs e = omega (arith, length-drop k xs, ap length e)

-- what holds of each item holds of the one that is found
pub find-All : {A : Type 0} (P : A → Type 0) (test : A → Bool) (xs : List A) → All P xs → IfSome (find test xs) P
find-All P test [] all = tt
find-All P test (x ∷ xs) all = elim (cases_Bool (test x)) [
  | inl here ↦ rw here (All-head P x xs all)
  | inr not_here ↦ rw not_here (find-All P test xs (All-tail P x xs all))
]
