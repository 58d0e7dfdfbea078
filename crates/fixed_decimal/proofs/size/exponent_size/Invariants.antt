use Rattle.std.proofs.Common.{◌≡◌, ◌≤◌, drop}
use Rattle.std.specs.Prelude.{filter}
use Rattle.std.specs.Char.{is_ascii_digit}
use Rattle.text_terms.specs.Numerals.{value_after, value_of}
use Rattle.fixed_decimal.proofs.size.exponent_size.Given as goal

abbrev pub invariant-loop-byte : goal.invariant-loop-byte
invariant-loop-byte l = record {
  small : l.size ≤ 30;
  value : value_after l.size (filter is_ascii_digit (drop l.byte-index l.exponent)) ≡ value_of (filter is_ascii_digit l.exponent);
}
