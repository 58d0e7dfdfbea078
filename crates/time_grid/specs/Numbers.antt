-- The numbers of a body.
use Rattle.std.specs.Prelude.{ℕ, ◌+◌, ◌*◌, ◌≤◌, Bool, nat_lt, List, map, slice_index}
use Rattle.node_boxes.specs.declared.limits.TheConstants.{GREATEST_TIME}
use Rattle.node_boxes.specs.GridOrder.{all_nodes}
use Rattle.time_grid.specs.declared.numbers.ByteOrder.{ByteOrder}
use Rattle.time_grid.specs.declared.numbers.ByteOrder.TheVariants.{Little, Big}

-- the number that four bytes write, the lowest of them first or last
abbrev pub number_of_four : ByteOrder → ℕ → ℕ → ℕ → ℕ → ℕ
number_of_four Little a b c d = a + 256 * b + 65536 * c + 16777216 * d
number_of_four Big a b c d = d + 256 * c + 65536 * b + 16777216 * a

-- the number at a node: that of the bytes from 4 * k to 4 * k + 3
unfoldable pub number_at : ByteOrder → List ℕ → ℕ → ℕ
number_at order bytes k =
    number_of_four order (slice_index bytes (4 * k)) (slice_index bytes (4 * k + 1)) (slice_index bytes (4 * k + 2)) (slice_index bytes (4 * k + 3))

-- the numbers at the nodes of a grid of n nodes, in grid order
unfoldable pub body_times : ByteOrder → List ℕ → ℕ → List ℕ
body_times order bytes n = map (number_at order bytes) (all_nodes n)

-- a time is within its limit
abbrev pub IsTime : ℕ → Type 0
IsTime time = time ≤ GREATEST_TIME

-- a time is past that limit
abbrev pub is_over : ℕ → Bool
is_over time = nat_lt GREATEST_TIME time
