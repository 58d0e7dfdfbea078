-- The value of a decimal in millionths.
use Rattle.std.specs.Prelude.{ℕ, ◌+◌, ◌*◌, ◌/◌, ◌%◌, ◌^◌, ◌==◌, ◌&&◌, ◌||◌, not, nat_lt, nat_le, Bool, if◌then◌else◌, List, length, filter, count_by, slice_index, Option, Some, None, ℤ, pos, ◌-ℤ◌}
use Rattle.std.specs.Char.{is_ascii_digit}
use Rattle.std.specs.List.{after_first}
use Rattle.text_terms.specs.Numerals.{value_of}
use Rattle.fixed_decimal.specs.Form.{is_point, mantissa_of, exponent_of, has_form}
use Rattle.fixed_decimal.specs.Nearest.{nearest}

-- the digits before and after the point
abbrev pub digits_of : List ℕ → List ℕ
digits_of text = filter is_ascii_digit (mantissa_of text)

-- how many digits stand after the point
abbrev pub places_of : List ℕ → ℕ
places_of text = count_by is_ascii_digit (after_first is_point (mantissa_of text))

-- the exponent's size, 0 where there is none
abbrev pub exponent_size : List ℕ → ℕ
exponent_size text = value_of (filter is_ascii_digit (exponent_of text))

-- the bytes begin with `-`
abbrev pub is_negative : List ℕ → Bool
is_negative bytes = slice_index bytes 0 == 45

-- by how many powers of ten the digits are raised for millionths, and by how many lowered: together 10^(e + 6 - f), with the exponent
-- e and f digits after the point
abbrev pub raised_by : List ℕ → ℕ
raised_by text = 6 + (if is_negative (exponent_of text) then 0 else exponent_size text)

abbrev pub lowered_by : List ℕ → ℕ
lowered_by text = places_of text + (if is_negative (exponent_of text) then exponent_size text else 0)

-- the size of the value in millionths is this over that
abbrev pub top_of : List ℕ → ℕ
top_of text = value_of (digits_of text) * 10 ^ raised_by text

abbrev pub bottom_of : List ℕ → ℕ
bottom_of text = 10 ^ lowered_by text

-- the size, rounded
unfoldable pub size_of : List ℕ → ℕ
size_of text = nearest (top_of text) (bottom_of text)

-- more than 30 digits before the exponent, zeros counted; or an exponent of more than 30 in size
abbrev pub is_long : List ℕ → Bool
is_long text = nat_lt 30 (length (digits_of text)) || nat_lt 30 (exponent_size text)

-- or a rounded size of 10^15 or more
unfoldable pub is_out_of_range : List ℕ → Bool
is_out_of_range text = is_long text || nat_le (10 ^ 15) (size_of text)

-- a whole number of a size, with its sign
abbrev pub signed : Bool → ℕ → ℤ
signed negative n = if negative then pos 0 -ℤ pos n else pos n

-- the reading of a text in millionths, if it has one
unfoldable pub millionths_of : List ℕ → Option ℤ
millionths_of text = if has_form text && not (is_out_of_range text) then Some (signed (is_negative text) (size_of text)) else None

-- the reading of a text as a whole number, if it has one: its millionths are a multiple of a million
unfoldable pub whole_of : List ℕ → Option ℤ
whole_of text =
    if has_form text && not (is_out_of_range text) && size_of text % 1000000 == 0
    then Some (signed (is_negative text) (size_of text / 1000000))
    else None
