-- The number that a word of digits writes, and the one that it is the shortest decimal of.
use Rattle.std.specs.Prelude.{ℕ, ◌^◌, ◌-◌, ◌&&◌, nat_le, if◌then◌else◌, List, Option, Some, None}
use Rattle.std.specs.Str.{all_ascii_digits}
use Rattle.text_terms.specs.Numerals.{value_of, is_shortest_decimal}

-- the number, up to a limit, that a list of digits writes
abbrev pub value_within : ℕ → List ℕ → Option ℕ
value_within most word = if all_ascii_digits word && nat_le (value_of word) most then Some (value_of word) else None

-- the number, below 2^64, of which the word is the shortest decimal
abbrev pub reading_of : List ℕ → Option ℕ
reading_of word = if is_shortest_decimal word then value_within (2 ^ 64 - 1) word else None
