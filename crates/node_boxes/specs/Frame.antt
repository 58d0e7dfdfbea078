-- Where a grid lies: origins and spacings within their limits.
use Rattle.std.specs.Prelude.{ℤ, pos, ◌≤◌, ◌≤ℤ◌, unsigned_abs}
use Rattle.node_boxes.specs.declared.frame.Frame.{Frame}
use Rattle.node_boxes.specs.declared.limits.TheConstants.{FARTHEST_ORIGIN, WIDEST_SPACING}

-- an origin is at most 10^10 millimetres in size
abbrev pub IsOrigin : ℤ → Type 0
IsOrigin o = unsigned_abs o ≤ FARTHEST_ORIGIN

-- a spacing is 1 to 10^9 millimetres
abbrev pub IsSpacing : ℤ → Type 0
IsSpacing d = (pos 1 ≤ℤ d) × (d ≤ℤ pos WIDEST_SPACING)

-- the origins and the spacings of a frame are within their limits
pub record IsValidFrame (f : Frame) : Type 0 where
  pub x_origin : IsOrigin f.ox
  pub y_origin : IsOrigin f.oy
  pub z_origin : IsOrigin f.oz
  pub x_spacing : IsSpacing f.dx
  pub y_spacing : IsSpacing f.dy
  pub z_spacing : IsSpacing f.dz
