-- The numbers of a header and their limits.
use Rattle.std.specs.Prelude.{ℕ, ◌*◌, ◌^◌, Bool, false, ◌&&◌, nat_le, List, map, get_or, Option, Some, None, is_some, ℤ, pos, int_le, unsigned_abs}
use Rattle.std.specs.List.{list_all}
use Rattle.node_boxes.specs.declared.limits.TheConstants.{FARTHEST_ORIGIN, MOST_ON_AXIS, WIDEST_SPACING}
use Rattle.fixed_decimal.specs.Value.{millionths_of, whole_of}
use Rattle.grid_header.specs.Layout.{three_from}

-- the readings of xNum, yNum and zNum
abbrev pub counts_of : List (List ℕ) → List (Option ℤ)
counts_of grid = map whole_of (three_from 0 grid)

-- the readings of xOrig, yOrig and zOrig in millimetres: a millionth of a kilometre is a millimetre
abbrev pub origin_of : List (List ℕ) → List (Option ℤ)
origin_of grid = map millionths_of (three_from 3 grid)

-- the readings of dx, dy and dz in millimetres
abbrev pub spacing_of : List (List ℕ) → List (Option ℤ)
spacing_of grid = map millionths_of (three_from 6 grid)

-- the readings of xSrce, ySrce and zSrce in millimetres
abbrev pub source_of : List (List ℕ) → List (Option ℤ)
source_of source = map millionths_of (three_from 1 source)

-- each number word of the two lines has a reading
abbrev pub has_numbers : List (List ℕ) → List (List ℕ) → Bool
has_numbers grid source =
    list_all is_some (counts_of grid)
    && list_all is_some (origin_of grid)
    && list_all is_some (spacing_of grid)
    && list_all is_some (source_of source)

-- a number from one limit to another
abbrev pub is_within : ℤ → ℤ → Option ℤ → Bool
is_within low high None = false
is_within low high (Some n) = int_le low n && int_le n high

-- 1 to 4096 nodes on an axis
abbrev pub is_count : Option ℤ → Bool
is_count n = is_within (pos 1) (pos MOST_ON_AXIS) n

-- 1 to 10^9 mm
abbrev pub is_spacing : Option ℤ → Bool
is_spacing n = is_within (pos 1) (pos WIDEST_SPACING) n

-- at most 10^10 mm in size
abbrev pub is_coordinate : Option ℤ → Bool
is_coordinate None = false
is_coordinate (Some n) = nat_le (unsigned_abs n) FARTHEST_ORIGIN

-- the size of a number, 0 where there is none
abbrev pub size_of_number : Option ℤ → ℕ
size_of_number None = 0
size_of_number (Some n) = unsigned_abs n

-- how many nodes three counts make
abbrev pub nodes_of : List (Option ℤ) → ℕ
nodes_of counts =
    size_of_number (get_or counts 0 None) * size_of_number (get_or counts 1 None) * size_of_number (get_or counts 2 None)

-- each count is 1 to 4096, and together they make at most 16,000,000 nodes
abbrev pub are_counts : List (Option ℤ) → Bool
are_counts counts = list_all is_count counts && nat_le (nodes_of counts) 16000000

-- each number is within its limits
abbrev pub is_within_limits : List (List ℕ) → List (List ℕ) → Bool
is_within_limits grid source =
    are_counts (counts_of grid)
    && list_all is_coordinate (origin_of grid)
    && list_all is_spacing (spacing_of grid)
    && list_all is_coordinate (source_of source)
