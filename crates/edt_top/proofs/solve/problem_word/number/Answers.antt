use Rattle.std.proofs.Common.{◌≡◌, ◌<◌, ◌≤◌, ◌^◌, ◌-◌, ℕ, List, Option, Some, None, length, true, inl, inr, if◌then◌else◌, ◌∙◌, arith}
use Rattle.std.specs.Str.{all_ascii_digits}
use Rattle.std.proofs.lemmas.Str.Parse.{digits_value_short}
use Rattle.std.proofs.lemmas.Grind.{common_steps}
use Rattle.text_terms.specs.Numerals.{value_of}
use Rattle.text_terms.proofs.NumeralLaws.{numerals}
use Rattle.text_terms.proofs.Cases.{by_bool}
use Rattle.edt_text.specs.Reading.{value_within}
use Rattle.edt_top.specs.Solve.ProblemFile.{is_number}
use Rattle.edt_top.proofs.solve.problem_word.number.Goals as goal

-- digits of which there are some, and at most 19, are below 2^64
within_is : (word : List ℕ) → 0 < length word → length word ≤ 19
    → value_within (2 ^ 64 - 1) word ≡ (if is_number word then Some (value_of word) else None)
within_is word some few = elim (by_bool (all_ascii_digits word)) [
  | inl digits ↦
      let small : value_of word < 10 ^ 19 = digits_value_short numerals word 19 digits few in
      grind (arith, common_steps)
  | inr other ↦ grind (arith, common_steps)
]

pub returns : goal.returns
returns c =
    let some : 0 < length c.args.word.now = grind (arith, common_steps) in
    let few : length c.args.word.now ≤ 19 = grind (arith, common_steps) in
    c.digits_within.ensures ∙ within_is c.args.word.now some few
