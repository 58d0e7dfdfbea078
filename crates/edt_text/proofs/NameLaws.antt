-- Bytes that may form a name.
use Rattle.std.proofs.Common.{◌≡◌, ℕ, ◌<◌, ◌≤◌, true, IsTrue, not, List, length, get_or, None, inl, inr, refl, lit<, arith}
use Rattle.std.specs.Prelude.{position, nat_le}
use Rattle.std.specs.List.{list_all}
use Rattle.std.specs.Str.{IsUtf8}
use Rattle.std.proofs.lemmas.List.{get_or_default}
use Rattle.std.proofs.lemmas.List.Sums.{AllPass-from_list_all, list_all-from_AllPass}
use Rattle.std.proofs.lemmas.Str.{IsUtf8-from_ascii}
use Rattle.std.proofs.lemmas.Grind.{common_steps}
use Rattle.std.proofs.Math.ListN.{get_or-eq_default}
use Rattle.text_terms.specs.Names.{is_name, is_name_byte}
use Rattle.text_terms.proofs.RunLaws.{position-None, unnot}
use Rattle.text_terms.proofs.Cases.{less_or_not}

-- no byte at any place is one that no name may hold
good_at : (bytes : List ℕ) → position (λ b. not (is_name_byte b)) bytes ≡ None → (j : ℕ) → j < length bytes → is_name_byte (get_or bytes j 0) ≡ true
good_at bytes none j less = unnot (is_name_byte (get_or bytes j 0)) (position-None (λ b. not (is_name_byte b)) bytes none j less)

-- bytes of which each may stand in a name are a name if they are neither none nor too many
pub is_name-from_search : (bytes : List ℕ) → 0 < length bytes → length bytes ≤ 512
    → position (λ b. not (is_name_byte b)) bytes ≡ None → is_name 512 bytes ≡ true
is_name-from_search bytes some few none =
    let all : list_all is_name_byte bytes ≡ true =
    list_all-from_AllPass is_name_byte bytes (λ j d less. rw (get_or_default bytes j d 0 less) (good_at bytes none j less)) in
    let low : nat_le 1 (length bytes) ≡ true = grind (arith, common_steps) in
    let high : nat_le (length bytes) 512 ≡ true = grind (arith, common_steps) in
    rw (low, high, all) refl

-- a byte of a name is ASCII, and so is what stands past the end of one
small_at : (bytes : List ℕ) → list_all is_name_byte bytes ≡ true → (j : ℕ) → get_or bytes j 0 < 128
small_at bytes all j = elim (less_or_not j (length bytes)) [
  | inl less ↦ name_byte_small (get_or bytes j 0) (AllPass-from_list_all is_name_byte bytes all j 0 less)
  | inr past ↦ rw (get_or-eq_default bytes 0 past) (lit< tt)
]
  where
    name_byte_small : (b : ℕ) → is_name_byte b ≡ true → b < 128
    name_byte_small b good = grind (arith, common_steps)

-- so a name is a text
pub text-of_name : (bytes : List ℕ) → IsTrue (is_name 512 bytes) → IsUtf8 bytes
text-of_name bytes named =
    let bytes_are : list_all is_name_byte bytes ≡ true = grind (arith, common_steps) in
    IsUtf8-from_ascii bytes (small_at bytes bytes_are)
