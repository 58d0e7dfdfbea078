-- Digits of a word of a given length.
use Rattle.std.proofs.Common.{◌≡◌, ℕ, ◌^◌, ◌<◌, ◌≤◌, List, length, Some, inl, inr, arith}
use Rattle.std.specs.Str.{all_ascii_digits}
use Rattle.std.proofs.lemmas.Str.Parse.{digits_value_short}
use Rattle.std.proofs.lemmas.Grind.{common_steps}
use Rattle.text_terms.specs.Numerals.{value_of}
use Rattle.text_terms.proofs.NumeralLaws.{numerals}
use Rattle.text_terms.proofs.Cases.{by_bool}
use Rattle.edt_text.specs.Reading.{value_within}
use Rattle.phase_reader.specs.PickFields.{digits_of}

-- a word of at most eight digits is read within eight digits
pub read_within : (word : List ℕ) (count : ℕ) → length word ≡ count → count ≤ 8 → value_within 99999999 word ≡ digits_of count word
read_within word count many few = elim (by_bool (all_ascii_digits word)) [
  | inl digits ↦
      let small : value_of word < 10 ^ 8 = digits_value_short numerals word 8 digits (omega (arith, many)) in
      grind (arith, common_steps)
  | inr other ↦ grind (arith, common_steps)
]

-- a number that is read has no more digits than its word
pub read_small : (word : List ℕ) (n count : ℕ) → length word ≡ count → value_within 99999999 word ≡ Some n → n < 10 ^ count
read_small word n count many read = elim (by_bool (all_ascii_digits word)) [
  | inl digits ↦
      let small : value_of word < 10 ^ count = digits_value_short numerals word count digits (omega (arith, many)) in
      let is : n ≡ value_of word = grind (arith, common_steps) in
      rw is small
  | inr other ↦ absurd (grind (arith, common_steps))
]
