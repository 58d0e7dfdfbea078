-- The distance of a grid's source from the middle of the search grid.
use Rattle.std.specs.Prelude.{ℕ, ◌+◌, ◌*◌, ◌-◌, Bool, false, ◌&&◌, ◌||◌, nat_lt, ℤ, pos, ◌-ℤ◌, ◌*ℤ◌, int_lt, unsigned_abs}
use Rattle.node_boxes.specs.declared.frame.Frame.{Frame}
use Rattle.control_reader.specs.ControlValues.{ControlValues}
use Rattle.station_table.specs.declared.keys.Place.{Place}
use Rattle.station_table.specs.declared.keys.Place.TheVariants.{Absent, At}

-- twice the distance along an axis from its middle, which lies half-way between its first node and its last
abbrev pub twice_from_middle : ℤ → ℤ → ℕ → ℤ → ℤ
twice_from_middle origin spacing nodes at =
    (pos 2 *ℤ at) -ℤ (pos 2 *ℤ origin) -ℤ (pos (nodes - 1) *ℤ spacing)

-- the square of a whole number
abbrev pub square : ℤ → ℕ
square n = unsigned_abs n * unsigned_abs n

-- the square of twice the horizontal distance of a place from the middle of the search grid
unfoldable pub twice_distance_squared : Frame → ℤ → ℤ → ℕ
twice_distance_squared frame x y =
    square (twice_from_middle frame.ox frame.dx frame.grid.x x) + square (twice_from_middle frame.oy frame.dy frame.grid.y y)

-- the distance passes the greatest one, where there is one, or is below the least one, where there is one
unfoldable pub is_too_far : ControlValues → Place → Bool
is_too_far control Absent = false
is_too_far control (At x y) =
    (int_lt (pos 0) control.max_dist && nat_lt (4 * square control.max_dist) (twice_distance_squared control.frame x y))
    || (int_lt (pos 0) control.min_dist && nat_lt (twice_distance_squared control.frame x y) (4 * square control.min_dist))
