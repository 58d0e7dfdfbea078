-- Digits, read one after another.
use Rattle.std.proofs.Common.{◌≡◌, ℕ, suc, get_or, drop, drop-cons, ◌+◌, ◌-◌, ◌*◌, ◌<◌, ◌≤◌, ◌^◌, true, false, List, [], ◌∷◌, length, Some, None, inl, inr, refl, sym, ◌∙◌, ap, arith}
use Rattle.std.specs.Prelude.{nat_le}
use Rattle.std.specs.Fmt.{decimal}
use Rattle.std.specs.Char.{is_ascii_digit}
use Rattle.std.specs.Str.{all_ascii_digits}
use Rattle.std.proofs.lemmas.Grind.{common_steps}
use Rattle.text_terms.specs.Numerals.{value_after, value_of, is_shortest_decimal}
use Rattle.text_terms.proofs.NumeralLaws.{decimal-value_of, digits_of-shortest, shortest-decimal, value_of-decimal}
use Rattle.text_terms.proofs.Cases.{by_bool}
use Rattle.edt_text.specs.Reading.{reading_of, value_within}
use Rattle.edt_text.specs.Inside.Digits.{with_digit}

-- more digits make no number smaller
pub value_after-grows : (n : ℕ) (digits : List ℕ) → n ≤ value_after n digits
value_after-grows n [] = omega arith
value_after-grows n (digit ∷ digits) = omega (arith, value_after-grows (10 * n + (digit - 48)) digits)

-- a list that isn't of digits alone has no value
pub within-no_digits : (most : ℕ) (word : List ℕ) → all_ascii_digits word ≡ false → value_within most word ≡ None
within-no_digits most word other = rw other refl

-- nor has one whose value is too large
pub within-large : (most : ℕ) (word : List ℕ) → most < value_of word → value_within most word ≡ None
within-large most word large =
    let over : nat_le (value_of word) most ≡ false = grind (arith, common_steps) in
    elim (by_bool (all_ascii_digits word)) [
      | inl digits ↦ rw (digits, over) refl
      | inr other ↦ rw other refl
    ]

-- a list of digits whose value is within the limit has it
pub within-digits : (most : ℕ) (word : List ℕ) → all_ascii_digits word ≡ true → value_of word ≤ most → value_within most word ≡ Some (value_of word)
within-digits most word digits small =
    let fits : nat_le (value_of word) most ≡ true = grind (arith, common_steps) in
    rw (digits, fits) refl

-- a digit that can't be read on leaves no value to the whole list
pub within-stops : (most : ℕ) (word digits : List ℕ) (n byte : ℕ) → all_ascii_digits (byte ∷ digits) ≡ all_ascii_digits word
    → value_after n (byte ∷ digits) ≡ value_of word → with_digit most n byte ≡ None → value_within most word ≡ None
within-stops most word digits n byte same value stops = elim (by_bool (is_ascii_digit byte)) [
  | inl digit ↦ elim (by_bool (nat_le (10 * n + (byte - 48)) most)) [
    | inl small ↦
        let some : with_digit most n byte ≡ Some (10 * n + (byte - 48)) = rw (digit, small) refl in
        absurd cc
    | inr large ↦
        let much : most < 10 * n + (byte - 48) = grind (arith, common_steps) in
        within-large most word (omega (arith, value_after-grows (10 * n + (byte - 48)) digits))
  ]
  | inr other ↦ within-no_digits most word (sym same ∙ rw other refl)
]

-- the same, at a place of the list
pub within-stops_at : (most : ℕ) (word : List ℕ) (i n : ℕ) → i < length word → all_ascii_digits (drop i word) ≡ all_ascii_digits word
    → value_after n (drop i word) ≡ value_of word → with_digit most n (get_or word i 0) ≡ None → value_within most word ≡ None
within-stops_at most word i n within same value stops =
    let here : drop i word ≡ get_or word i 0 ∷ drop (suc i) word = drop-cons word i 0 within in
    within-stops most word (drop (suc i) word) n (get_or word i 0) (rw here at same) (rw here at value) stops

-- a list whose digits were all read on
pub within-ends : (most : ℕ) (word rest : List ℕ) (n : ℕ) → rest ≡ [] → all_ascii_digits rest ≡ all_ascii_digits word
    → value_after n rest ≡ value_of word → n ≤ most → Some n ≡ value_within most word
within-ends most word rest n end same value small =
    let digits : all_ascii_digits word ≡ true = sym (rw end at same) in
    let is : n ≡ value_of word = rw end at value in
    rw is (sym (within-digits most word digits (rw is at small)))

-- a digit that is read on gives a number within the limit
pub with_digit-small : (most n byte m : ℕ) → with_digit most n byte ≡ Some m → m ≤ most
with_digit-small most n byte m e = grind (arith, common_steps)

-- a digit that is read on is one, and stands in the number
pub with_digit-Some : (most n byte m : ℕ) → with_digit most n byte ≡ Some m → (is_ascii_digit byte ≡ true) × (m ≡ 10 * n + (byte - 48))
with_digit-Some most n byte m e = grind (arith, common_steps)

-- a shortest decimal of a number below 2^64 is read
pub reading_of-shortest : (word : List ℕ) (n : ℕ) → is_shortest_decimal word ≡ true → value_of word ≡ n → n < 2 ^ 64 → reading_of word ≡ Some n
reading_of-shortest word n shortest is small =
    rw shortest (within-digits (2 ^ 64 - 1) word (digits_of-shortest word shortest) (omega (arith, is)) ∙ ap Some is)

-- a word that is read is the decimal of its number
pub reading_of-Some : (word : List ℕ) (n : ℕ) → reading_of word ≡ Some n → word ≡ decimal n
reading_of-Some word n read = elim (by_bool (is_shortest_decimal word)) [
  | inl shortest ↦ elim (by_bool (nat_le (value_of word) (2 ^ 64 - 1))) [
    | inl fits ↦
        let some : reading_of word ≡ Some (value_of word) = rw (shortest, digits_of-shortest word shortest, fits) refl in
        let is : value_of word ≡ n = cc in
        let small : value_of word < 2 ^ 64 = grind (arith, common_steps) in
        sym (decimal-value_of word shortest small) ∙ ap decimal is
    | inr over ↦
        let none : reading_of word ≡ None = rw (shortest, digits_of-shortest word shortest, over) refl in
        absurd cc
  ]
  | inr other ↦
      let none : reading_of word ≡ None = rw other refl in
      absurd cc
]

-- the decimal of a number is read as it, and no other word is
pub reading_of-decimal : (n : ℕ) → n < 2 ^ 64
    → (reading_of (decimal n) ≡ Some n) × ((word : List ℕ) → reading_of word ≡ Some n → word ≡ decimal n)
reading_of-decimal n small =
    (reading_of-shortest (decimal n) n (shortest-decimal n small) (value_of-decimal n small) small, λ word read. reading_of-Some word n read)
