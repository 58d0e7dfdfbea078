-- The longest runs between the bytes that a test parts them by, one after another.
use Rattle.std.proofs.Common.{◌≡◌, ℕ, zero, suc, ◌+◌, ◌<◌, ◌≤◌, Bool, true, false, not, List, [], ◌∷◌, length, get_or, take, drop, length-drop, Some, None, inl, inr, refl, sym, ◌∙◌, ap, arith}
use Rattle.std.specs.Prelude.{filter}
use Rattle.std.specs.List.{slice_split, onto_first, position_or_len}
use Rattle.std.proofs.lemmas.List.Splits.{slice_split-cons_yes, slice_split-cons_no}
use Rattle.std.specs.Prelude.{position, nat_lt, unwrap_or}
use Rattle.std.proofs.lemmas.List.Quantifiers.{position-Some}
use Rattle.std.proofs.lemmas.List.Sums.{prefix_len-le-length, fails_before_first}
use Rattle.std.proofs.lemmas.Grind.{common_steps}
use Rattle.text_terms.specs.Words.{is_word, runs}
use Rattle.text_terms.proofs.Cases.{by_bool}

-- a run that holds a byte is a word
is_word-cons : (x : ℕ) (xs : List ℕ) → is_word (x ∷ xs) ≡ true
is_word-cons x xs = grind (arith, common_steps)

-- a byte that parts runs, in front, changes none
pub runs-cons_parts : (p : ℕ → Bool) (b : ℕ) (bytes : List ℕ) → p b ≡ true → runs p (b ∷ bytes) ≡ runs p bytes
runs-cons_parts p b bytes parts = rw (slice_split-cons_yes p b bytes parts) refl

-- a first part that holds a byte stays the first run when a byte comes in front
onto_filtered : (x y : ℕ) (parts : List (List ℕ))
    → filter is_word (onto_first x (onto_first y parts)) ≡ onto_first x (filter is_word (onto_first y parts))
onto_filtered x y [] = refl
onto_filtered x y (part ∷ parts) = rw (is_word-cons x (y ∷ part), is_word-cons y part) refl

-- one more to take or to drop passes over the first
take_more : (k y : ℕ) (ys : List ℕ) → take (1 + k) (y ∷ ys) ≡ y ∷ take k ys
take_more k y ys = let e : 1 + k ≡ suc k = omega arith in rw e refl

drop_more : (k y : ℕ) (ys : List ℕ) → drop (1 + k) (y ∷ ys) ≡ drop k ys
drop_more k y ys = let e : 1 + k ≡ suc k = omega arith in rw e refl

-- the first place that passes, one byte further on
place_at : (p : ℕ → Bool) (y : ℕ) (ys : List ℕ) → p y ≡ true → position_or_len p (y ∷ ys) ≡ 0
place_at p y ys here = rw here refl

place_behind : (p : ℕ → Bool) (y : ℕ) (ys : List ℕ) → p y ≡ false → position_or_len p (y ∷ ys) ≡ 1 + position_or_len p ys
place_behind p y ys not_here = rw not_here refl

-- a byte that parts no runs begins the first run, which goes up to the first byte that parts them
runs_onto : (p : ℕ → Bool) (x : ℕ) (bytes : List ℕ)
    → filter is_word (onto_first x (slice_split p bytes))
    ≡ (x ∷ take (position_or_len p bytes) bytes) ∷ runs p (drop (position_or_len p bytes) bytes)
runs_onto p x [] = refl
runs_onto p x (y ∷ bytes) = elim (by_bool (p y)) [
  | inl parts ↦ rw (slice_split-cons_yes p y bytes parts, place_at p y bytes parts) (rw (slice_split-cons_yes p y bytes parts) refl)
  | inr inside ↦
      rw (slice_split-cons_no p y bytes inside, place_behind p y bytes inside, take_more, drop_more, onto_filtered)
      (ap (onto_first x) (runs_onto p y bytes))
]

-- a list whose first byte parts no runs begins with a run
pub runs-first : (p : ℕ → Bool) (bytes : List ℕ) → 0 < length bytes → p (get_or bytes 0 0) ≡ false
    → runs p bytes ≡ take (position_or_len p bytes) bytes ∷ runs p (drop (position_or_len p bytes) bytes)
runs-first p [] some inside = absurd (omega arith)
runs-first p (x ∷ bytes) some inside =
    rw (slice_split-cons_no p x bytes inside, place_behind p x bytes inside, take_more, drop_more) (runs_onto p x bytes)

-- bytes that part runs, in front, change none
pub runs-drop : (p : ℕ → Bool) (k : ℕ) (bytes : List ℕ) → k ≤ length bytes → ((j : ℕ) → j < k → p (get_or bytes j 0) ≡ true)
    → runs p (drop k bytes) ≡ runs p bytes
runs-drop p zero bytes within parts = refl
runs-drop p (suc k) [] within parts = absurd (omega arith)
runs-drop p (suc k) (x ∷ bytes) within parts =
    runs-drop p k bytes (omega arith) (λ j less. parts (suc j) (omega arith)) ∙ sym (runs-cons_parts p x bytes (parts 0 (omega arith)))

-- where no byte fails the test, there is no run
pub runs-none : (p : ℕ → Bool) (bytes : List ℕ) → ((j : ℕ) → j < length bytes → p (get_or bytes j 0) ≡ true) → runs p bytes ≡ []
runs-none p [] parts = refl
runs-none p (x ∷ bytes) parts =
    runs-cons_parts p x bytes (parts 0 (omega arith)) ∙ runs-none p bytes (λ j less. parts (suc j) (omega arith))

-- what isn't the negation of a test is the test
pub unnot : (b : Bool) → not b ≡ false → b ≡ true
unnot true e = refl
unnot false e = cc

pub unnot_true : (b : Bool) → not b ≡ true → b ≡ false
unnot_true true e = cc
unnot_true false e = refl

-- no place passes a test where there is no first one
pub position-None : (q : ℕ → Bool) (xs : List ℕ) → position q xs ≡ None → (j : ℕ) → j < length xs → q (get_or xs j 0) ≡ false
position-None q xs none j less = elim (by_bool (nat_lt (position_or_len q xs) (length xs))) [
  | inl found ↦
      let some : position q xs ≡ Some (position_or_len q xs) = rw found refl in
      absurd cc
  | inr missing ↦ fails_before_first q xs j 0 (grind (arith, common_steps))
]

-- a search for the first byte of a run that finds none
pub runs-absent : (p : ℕ → Bool) (bytes : List ℕ) → position (λ b. not (p b)) bytes ≡ None → runs p bytes ≡ []
runs-absent p bytes none =
    runs-none p bytes (λ j less. unnot (p (get_or bytes j 0)) (position-None (λ b. not (p b)) bytes none j less))

-- and one that finds it, and then the end of the run
pub runs-found : (p : ℕ → Bool) (bytes : List ℕ) (k : ℕ) → position (λ b. not (p b)) bytes ≡ Some k
    → runs p bytes ≡ take (position_or_len p (drop k bytes)) (drop k bytes) ∷ runs p (drop (position_or_len p (drop k bytes)) (drop k bytes))
runs-found p bytes k found =
    let at = position-Some (λ b. not (p b)) bytes k 0 found in
    let within : k ≤ length bytes = omega (arith, at.0) in
    let some : 0 < length (drop k bytes) = omega (arith, at.0, length-drop k bytes) in
    let here : get_or (drop k bytes) 0 0 ≡ get_or bytes k 0 = grind (arith, common_steps) in
    let inside : p (get_or (drop k bytes) 0 0) ≡ false = rw here (unnot_true (p (get_or bytes k 0)) at.1) in
    sym (runs-drop p k bytes within (λ j less. unnot (p (get_or bytes j 0)) (at.2 j less))) ∙ runs-first p (drop k bytes) some inside

-- the first place that passes, or else the length
place_or_length : (p : ℕ → Bool) (xs : List ℕ) → unwrap_or (position p xs) (length xs) ≡ position_or_len p xs
place_or_length p xs = elim (by_bool (nat_lt (position_or_len p xs) (length xs))) [
  | inl less ↦ rw less refl
  | inr not_less ↦
      let within : position_or_len p xs ≤ length xs = prefix_len-le-length (λ x. not (p x)) xs in
      let all : length xs ≡ position_or_len p xs = grind (arith, common_steps) in
      rw not_less all
]

-- the first run, cut off at its ends
pub runs-cut : (p : ℕ → Bool) (bytes tail word rest : List ℕ) (k end : ℕ) → position (λ b. not (p b)) bytes ≡ Some k
    → tail ≡ drop k bytes → end ≡ unwrap_or (position p tail) (length tail) → word ≡ take end tail → rest ≡ drop end tail
    → runs p bytes ≡ word ∷ runs p rest
runs-cut p bytes tail word rest k end found from upto is behind =
    let place : end ≡ position_or_len p (drop k bytes) = rw (upto, from) (place_or_length p (drop k bytes)) in
    rw (is, behind, place, from) (runs-found p bytes k found)
