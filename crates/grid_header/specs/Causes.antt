-- The first cause for which a header is refused.
use Rattle.std.specs.Prelude.{ℕ, not, if◌then◌else◌, List, Option, Some, None}
use Rattle.grid_header.specs.declared.header.HeaderError.{HeaderError}
use Rattle.grid_header.specs.declared.header.HeaderError.TheVariants.{Shape, Kind, FloatBody, Number, Limit}
use Rattle.grid_header.specs.Layout.{grid_words, source_words, has_shape, is_of_times, is_of_microseconds}
use Rattle.grid_header.specs.Numbers.{has_numbers, is_within_limits}

-- the first cause that holds of the whole header, in the order in which they are tested
unfoldable pub cause_of : List ℕ → Option HeaderError
cause_of bytes =
    if not (has_shape bytes) then Some Shape
    else if not (is_of_times (grid_words bytes)) then Some Kind
    else if not (is_of_microseconds (grid_words bytes)) then Some FloatBody
    else if not (has_numbers (grid_words bytes) (source_words bytes)) then Some Number
    else if not (is_within_limits (grid_words bytes) (source_words bytes)) then Some Limit
    else None
