-- Keys that are the same, and their places among others.
use Rattle.std.proofs.Common.{◌≡◌, ℕ, ◌+◌, ◌<◌, Bool, true, false, List, [], ◌∷◌, length, get_or, take, map, inl, inr, refl, sym, subst, ◌∙◌, arith}
use Rattle.std.specs.Bool.{beq}
use Rattle.std.specs.List.{list_any, position, position_or_len}
use Rattle.std.specs.Str.{bytes_eq}
use Rattle.std.proofs.lemmas.Bool.{cases_Bool, and_parts}
use Rattle.std.proofs.lemmas.List.{take_more, length-map, length-take, map_push, get_or_default, get_or-take}
use Rattle.std.proofs.lemmas.List.Folds.{Any-from_list_any}
use Rattle.std.proofs.lemmas.Slice.Eq.{bytes_eq-Decides}
use Rattle.indexmap.specs.IndexSet.{insert_key}
use Rattle.station_table.specs.declared.keys.GridKey.{GridKey}
use Rattle.station_table.specs.Keys.{same_key}
use Rattle.station_table.specs.Limits.{KeysDiffer}

-- bytes are equal to themselves
bytes_eq-refl : (a : List ℕ) → bytes_eq a a ≡ true
bytes_eq-refl a = (bytes_eq-Decides a a).1 refl

beq-is : (a b : Bool) → beq a b ≡ true → a ≡ b
beq-is true true e = refl
beq-is false false e = refl
beq-is true false e = absurd cc
beq-is false true e = absurd cc

beq-refl : (a : Bool) → beq a a ≡ true
beq-refl true = refl
beq-refl false = refl

-- a key is the same as itself
pub same_key-refl : (a : GridKey) → same_key a a ≡ true
same_key-refl a = rw (bytes_eq-refl a.station, bytes_eq-refl a.phase, bytes_eq-refl a.grid_phase, beq-refl a.converted) refl

-- keys that are the same are equal
pub same_key-is : (a b : GridKey) → same_key a b ≡ true → a ≡ b
same_key-is a b e =
    let first = and_parts _ _ e in
    let second = and_parts _ _ first.1 in
    let third = and_parts _ _ second.1 in
    let station : a.station ≡ b.station = (bytes_eq-Decides a.station b.station).0 first.0 in
    let phase : a.phase ≡ b.phase = (bytes_eq-Decides a.phase b.phase).0 second.0 in
    let grid_phase : a.grid_phase ≡ b.grid_phase = (bytes_eq-Decides a.grid_phase b.grid_phase).0 third.0 in
    let converted : a.converted ≡ b.converted = beq-is a.converted b.converted third.1 in
    λ j. record { station = station j; phase = phase j; grid_phase = grid_phase j; converted = converted j }

-- equal keys are the same
pub same_key-equal : (a b : GridKey) → a ≡ b → same_key a b ≡ true
same_key-equal a b e = subst (λ k. same_key a k ≡ true) e (same_key-refl a)

-- what a test finds in a list and in its image
module _ {A B : Type 0} (f : A → B) (p : A → Bool) (q : B → Bool) (same : (x : A) → p x ≡ q (f x)) where
  pub any_of_map : (xs : List A) → list_any p xs ≡ list_any q (map f xs)
  any_of_map [] = refl
  any_of_map (x ∷ xs) = rw (same x, any_of_map xs) refl

  place_of_map : (xs : List A) → position_or_len p xs ≡ position_or_len q (map f xs)
  place_of_map [] = refl
  place_of_map (x ∷ xs) = rw (same x, place_of_map xs) refl

  pub position_of_map : (xs : List A) → position p xs ≡ position q (map f xs)
  position_of_map xs = rw (place_of_map xs, length-map xs f) refl

-- a key is put after others as its words are put after theirs
pub put_map : {A : Type 0} (f : A → GridKey) (eq : A → A → Bool) → ((x y : A) → eq x y ≡ same_key (f x) (f y)) → (xs : List A) (x : A)
    → map f (insert_key eq xs x) ≡ insert_key same_key (map f xs) (f x)
put_map f eq same xs x = elim (cases_Bool (list_any (eq x) xs)) [
  | inl there ↦ let e = sym (any_of_map f (eq x) (same_key (f x)) (same x) xs) ∙ there in rw (there, e) refl
  | inr none ↦ let e = sym (any_of_map f (eq x) (same_key (f x)) (same x) xs) ∙ none in rw (none, e) (map_push f xs x)
]

-- a key differs from those before it
pub none_before : (keys : List GridKey) (i : ℕ) (d : GridKey) → KeysDiffer keys → i < length keys → list_any (same_key (get_or keys i d)) (take i keys) ≡ false
none_before keys i d differ below = elim (cases_Bool (list_any (same_key (get_or keys i d)) (take i keys))) [
  | inr none ↦ none
  | inl there ↦
      let found = Any-from_list_any (same_key (get_or keys i d)) (take i keys) there in
      let before : found.0 < i = omega (arith, found.2, length-take i keys) in
      let other : get_or keys found.0 d ≡ found.1 = sym (get_or_default keys found.0 found.1 d (omega arith)) ∙ sym (get_or-take i keys found.0 found.1 before) ∙ found.3 in
      let equal : get_or keys i d ≡ found.1 = same_key-is (get_or keys i d) found.1 found.4 in
      let apart : same_key (get_or keys found.0 d) (get_or keys i d) ≡ false = differ found.0 i d before below in
      let alike : same_key (get_or keys found.0 d) (get_or keys i d) ≡ true = same_key-equal (get_or keys found.0 d) (get_or keys i d) (other ∙ sym equal) in
      absurd cc
]

-- so the keys up to a place are put one after the other
pub put_next : (keys : List GridKey) (i : ℕ) (d : GridKey) → KeysDiffer keys → i < length keys
    → insert_key same_key (take i keys) (get_or keys i d) ≡ take (i + 1) keys
put_next keys i d differ below = rw (none_before keys i d differ below) (sym (take_more keys i d below))
