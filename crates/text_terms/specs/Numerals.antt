-- Numerals: digits, their value, and the shortest decimal.
use Rattle.std.specs.Prelude.{ℕ, ◌+◌, ◌-◌, ◌*◌, Bool, ◌==◌, ◌&&◌, ◌||◌, not, List, [], ◌∷◌, length, slice_index}
use Rattle.std.specs.Str.{all_ascii_digits}

-- one digit or more, and nothing else
abbrev pub is_numeral : List ℕ → Bool
is_numeral word = not (length word == 0) && all_ascii_digits word

-- the number that digits write when they follow those of n
abbrev pub value_after : ℕ → List ℕ → ℕ
value_after n [] = n
value_after n (digit ∷ digits) = value_after (10 * n + (digit - 48)) digits

-- the number that digits write
abbrev pub value_of : List ℕ → ℕ
value_of word = value_after 0 word

-- the shortest decimal of a number: one digit, or several of which the first isn't 0
abbrev pub is_shortest_decimal : List ℕ → Bool
is_shortest_decimal word = is_numeral word && (length word == 1 || not (slice_index word 0 == 48))
