-- The limits of an axis, and where its search nodes are.
use Rattle.std.specs.Prelude.{◌≡◌, ℕ, ◌+◌, ◌*◌, ◌<◌, ◌≤◌, ◌^◌, Some, pos, ◌≤ℤ◌, unsigned_abs}
use Rattle.time_grid.specs.declared.axes.AxisPair.{AxisPair}
use Rattle.time_grid.specs.declared.axes.Places.{Places}
use Rattle.time_grid.specs.declared.axes.Steps.{Steps}
use Rattle.time_grid.specs.Axes.{axis_place}

-- the numbers of an axis are within their limits
pub record IsAxisPair (a : AxisPair) : Type 0 where
  pub time_origin : unsigned_abs a.time_origin ≤ 10 ^ 10
  pub time_spacing : (pos 1 ≤ℤ a.time_spacing) × (a.time_spacing ≤ℤ pos (10 ^ 9))
  pub time_nodes : a.time_nodes ≤ 4096
  pub origin : unsigned_abs a.origin ≤ 10 ^ 10
  pub spacing : (pos 1 ≤ℤ a.spacing) × (a.spacing ≤ℤ pos (10 ^ 9))
  pub nodes : (1 ≤ a.nodes) × (a.nodes ≤ 4096)

-- the same for an axis that is seen from the time grid's first node
pub record AreSteps (s : Steps) : Type 0 where
  pub offset : s.offset ≤ 2 * 10 ^ 10
  pub time_spacing : 1 ≤ s.time_spacing
  pub time_nodes : s.time_nodes ≤ 4096
  pub spacing : (1 ≤ s.spacing) × (s.spacing ≤ 10 ^ 9)
  pub nodes : (1 ≤ s.nodes) × (s.nodes ≤ 4096)

-- where the search nodes of an axis are among the nodes of the time grid
pub record ArePlaces (a : AxisPair) (p : Places) : Type 0 where
  pub place : (i : ℕ) → i < a.nodes → axis_place a i ≡ Some (p.first + i * p.stride)
  pub within : (i : ℕ) → i < a.nodes → p.first + i * p.stride < a.time_nodes
  pub rises : 1 < a.nodes → 1 ≤ p.stride
  pub stays : a.nodes ≡ 1 → p.stride ≡ 0
