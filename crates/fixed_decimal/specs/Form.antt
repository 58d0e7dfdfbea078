-- The form of a decimal: an optional sign, digits with at most one point and at least one digit, and then, after a mark `e` or `E`,
-- an optional sign and at least one digit.
use Rattle.std.specs.Prelude.{ℕ, ◌==◌, ◌&&◌, ◌||◌, not, nat_le, Bool, if◌then◌else◌, List, [], ◌∷◌, count_by}
use Rattle.std.specs.Char.{is_ascii_digit}
use Rattle.std.specs.List.{list_all, list_any, before_first, after_first}
use Rattle.text_terms.specs.Numerals.{is_numeral}

-- `+` or `-`
abbrev pub is_sign : ℕ → Bool
is_sign b = b == 43 || b == 45

-- `e` or `E`
abbrev pub is_mark : ℕ → Bool
is_mark b = b == 101 || b == 69

-- `.`
abbrev pub is_point : ℕ → Bool
is_point b = b == 46

-- what stands after an optional sign
abbrev pub without_sign : List ℕ → List ℕ
without_sign [] = []
without_sign (b ∷ bytes) = if is_sign b then bytes else b ∷ bytes

-- digits with at most one point, and at least one digit
abbrev pub is_mantissa : List ℕ → Bool
is_mantissa bytes =
    list_all (λ b. is_ascii_digit b || is_point b) bytes
    && nat_le (count_by is_point bytes) 1
    && nat_le 1 (count_by is_ascii_digit bytes)

-- an optional sign, and at least one digit
abbrev pub is_exponent : List ℕ → Bool
is_exponent bytes = is_numeral (without_sign bytes)

-- what stands before the mark, or the whole text where it has none
abbrev pub mantissa_of : List ℕ → List ℕ
mantissa_of text = before_first is_mark text

-- what stands after the mark
abbrev pub exponent_of : List ℕ → List ℕ
exponent_of text = after_first is_mark text

-- the text has a mark
abbrev pub has_mark : List ℕ → Bool
has_mark text = list_any is_mark text

-- the text has the form of a decimal
unfoldable pub has_form : List ℕ → Bool
has_form text = is_mantissa (without_sign (mantissa_of text)) && (not (has_mark text) || is_exponent (exponent_of text))
