-- What stands before the first byte that passes a test, and after it.
use Rattle.std.proofs.Common.{◌≡◌, ℕ, ◌+◌, ◌-◌, ◌≤◌, cond, Bool, not, List, [], length, take, drop, Some, None, inl, inr, refl, sym, arith, add-one}
use Rattle.std.specs.Prelude.{position, nat_lt, filter, count_by}
use Rattle.std.specs.List.{position_or_len, before_first, after_first}
use Rattle.std.proofs.lemmas.List.{take_all}
use Rattle.std.proofs.lemmas.List.Sums.{prefix_len-le-length, sum_by-take-drop, length-filter}
use Rattle.std.proofs.lemmas.Grind.{common_steps}
use Rattle.std.proofs.Math.ListN.{drop_of_length-le}
use Rattle.text_terms.proofs.Cases.{by_bool}
use Rattle.text_terms.proofs.LineCuts.{behind_first}

-- a place that was found
place_found : (p : ℕ → Bool) (xs : List ℕ) (k : ℕ) → Some k ≡ position p xs → position_or_len p xs ≡ k
place_found p xs k found = elim (by_bool (nat_lt (position_or_len p xs) (length xs))) [
  | inl less ↦ let some : position p xs ≡ Some (position_or_len p xs) = rw less refl in cc
  | inr not_less ↦ let none : position p xs ≡ None = rw not_less refl in cc
]

-- and one that wasn't
place_absent : (p : ℕ → Bool) (xs : List ℕ) → None ≡ position p xs → position_or_len p xs ≡ length xs
place_absent p xs absent = elim (by_bool (nat_lt (position_or_len p xs) (length xs))) [
  | inl less ↦ let some : position p xs ≡ Some (position_or_len p xs) = rw less refl in cc
  | inr not_less ↦
      let within : position_or_len p xs ≤ length xs = prefix_len-le-length (λ x. not (p x)) xs in
      grind (arith, common_steps)
]

pub front_found : (p : ℕ → Bool) (xs : List ℕ) (k : ℕ) → Some k ≡ position p xs → take k xs ≡ before_first p xs
front_found p xs k found = rw (place_found p xs k found) refl

pub back_found : (p : ℕ → Bool) (xs rest : List ℕ) (k : ℕ) → Some k ≡ position p xs → rest ≡ drop k xs
    → take (length rest - 1) (drop 1 rest) ≡ after_first p xs
back_found p xs rest k found is = rw (place_found p xs k found, add-one) (behind_first xs rest k is)

pub front_absent : (p : ℕ → Bool) (xs : List ℕ) → None ≡ position p xs → xs ≡ before_first p xs
front_absent p xs absent = rw (place_absent p xs absent) (sym (take_all (length xs) xs (omega arith)))

pub back_absent : (p : ℕ → Bool) (xs : List ℕ) → None ≡ position p xs → [] ≡ after_first p xs
back_absent p xs absent =
    let past : length xs ≤ length xs + 1 = omega arith in
    rw (place_absent p xs absent) (sym (drop_of_length-le xs past))

-- no more bytes pass after a place than in the whole list
pub count_behind : (p q : ℕ → Bool) (xs : List ℕ) → count_by p (after_first q xs) ≤ length (filter p xs)
count_behind p q xs =
    rw (length-filter p xs) (omega (arith, sum_by-take-drop (λ x. cond (p x) 1 0) xs (position_or_len q xs + 1)))
