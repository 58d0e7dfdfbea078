-- What the numbers that were read from the words are.
use Rattle.std.specs.Prelude.{◌≡◌, ℕ, Bool, ◌&&◌, List, [], ◌∷◌, Option, Some, ℤ, unsigned_abs}
use Rattle.std.specs.List.{list_all}
use Rattle.grid_header.specs.declared.header.Header.{Header}
use Rattle.grid_header.specs.declared.numbers.Triple.{Triple}
use Rattle.grid_header.specs.declared.numbers.Numbers.{Numbers}
use Rattle.grid_header.specs.Numbers.{counts_of, origin_of, spacing_of, source_of, are_counts, is_spacing, is_coordinate}

-- the numbers of the three axes
abbrev pub three_numbers : Triple → List (Option ℤ)
three_numbers n = Some n.x ∷ Some n.y ∷ Some n.z ∷ []

-- the readings of the words of the two lines
pub record AreNumbersOf (first second : List (List ℕ)) (n : Numbers) : Type 0 where
  pub counts : counts_of first ≡ three_numbers n.counts
  pub origin : origin_of first ≡ three_numbers n.origin
  pub spacing : spacing_of first ≡ three_numbers n.spacing
  pub source : source_of second ≡ three_numbers n.source

-- each number is within its limits
abbrev pub are_all_within : Numbers → Bool
are_all_within n =
    are_counts (three_numbers n.counts)
    && list_all is_coordinate (three_numbers n.origin)
    && list_all is_spacing (three_numbers n.spacing)
    && list_all is_coordinate (three_numbers n.source)

-- the header whose fields are the numbers, of which a count is taken without its sign
abbrev pub header_with : Numbers → Header
header_with n = record {
  x = unsigned_abs n.counts.x;
  y = unsigned_abs n.counts.y;
  z = unsigned_abs n.counts.z;
  ox = n.origin.x;
  oy = n.origin.y;
  oz = n.origin.z;
  dx = n.spacing.x;
  dy = n.spacing.y;
  dz = n.spacing.z;
  sx = n.source.x;
  sy = n.source.y;
  sz = n.source.z;
}
