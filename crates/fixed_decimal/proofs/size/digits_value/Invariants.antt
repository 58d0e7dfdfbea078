use Rattle.std.proofs.Common.{◌≡◌, ◌+◌, ◌^◌, ◌<◌, ◌≤◌, length, drop}
use Rattle.std.specs.Prelude.{filter}
use Rattle.std.specs.Char.{is_ascii_digit}
use Rattle.text_terms.specs.Numerals.{value_after, value_of}
use Rattle.fixed_decimal.proofs.size.digits_value.Given as goal

abbrev pub invariant-loop-byte : goal.invariant-loop-byte
invariant-loop-byte l = record {
  few : l.count ≤ 30;
  small : l.value < 10 ^ l.count;
  count : l.count + length (filter is_ascii_digit (drop l.byte-index l.mantissa)) ≡ length (filter is_ascii_digit l.mantissa);
  value : value_after l.value (filter is_ascii_digit (drop l.byte-index l.mantissa)) ≡ value_of (filter is_ascii_digit l.mantissa);
}
