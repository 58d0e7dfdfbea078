use Rattle.std.proofs.Common.{◌≡◌, ◌≤◌, drop}
use Rattle.std.specs.Str.{all_ascii_digits}
use Rattle.text_terms.specs.Numerals.{value_after, value_of}
use Rattle.edt_text.proofs.digits.digits_within.Given as goal

abbrev pub invariant-loop-byte : goal.invariant-loop-byte
invariant-loop-byte l = record {
  digits : all_ascii_digits (drop l.byte-index l.word) ≡ all_ascii_digits l.word;
  small : l.value ≤ l.most;
  value : value_after l.value (drop l.byte-index l.word) ≡ value_of l.word;
}
