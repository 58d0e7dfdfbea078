-- Why a body has no reading.
use Rattle.std.specs.Prelude.{ℕ, ◌*◌, nat_lt, if◌then◌else◌, List, length, Option, Some, option_map, position}
use Rattle.time_grid.specs.declared.faults.GridFault.{GridFault}
use Rattle.time_grid.specs.declared.faults.GridFault.TheVariants.{Short, Long, TimeLimit}
use Rattle.time_grid.specs.declared.numbers.ByteOrder.{ByteOrder}
use Rattle.time_grid.specs.Numbers.{body_times, is_over}

-- the first fault of the body of a grid of n nodes: `Short` where there are fewer than 4 bytes a node, `Long` where there are more,
-- `TimeLimit` at the first node whose time is past the limit, or none
unfoldable pub body_fault : ByteOrder → List ℕ → ℕ → Option GridFault
body_fault order bytes n =
    if nat_lt (length bytes) (4 * n) then Some Short
    else if nat_lt (4 * n) (length bytes) then Some Long
    else option_map TimeLimit (position is_over (body_times order bytes n))
