-- The picks of a problem, and what they say of the origin.
use Rattle.std.specs.Prelude.{ℕ, ℤ, ◌≤◌, ◌*◌, ◌^◌, ◌-ℤ◌, unsigned_abs}
use Rattle.node_boxes.specs.declared.limits.TheConstants.{GREATEST_TIME}
use Rattle.control_reader.specs.ControlValues.{ControlValues}
use Rattle.edt_score.specs.Field.{FieldTimes, time_at}
use Rattle.edt_score.specs.declared.problem.ProblemPick.{ProblemPick}
use Rattle.event_assembly.specs.Assembled.{IsPrepared}
use Rattle.event_assembly.specs.declared.assembly.Prepared.{Prepared}

-- the time of a pick is at most 4*10^17 microseconds in size
abbrev pub IsTimed : ProblemPick → Type 0
IsTimed pick = unsigned_abs pick.time ≤ 4 * 10 ^ 17

-- the travel time of a pick to a node is at most 2,000,000,000 microseconds
abbrev pub IsNearNode : FieldTimes → ℕ → ProblemPick → Type 0
IsNearNode field node pick = time_at field pick.row node ≤ GREATEST_TIME

-- a residual of at most 10^13 microseconds from a time
abbrev pub IsWithinReach : ℤ → ℤ × ℕ → Type 0
IsWithinReach time item = unsigned_abs (item.0 -ℤ time) ≤ 10000000000000

-- an event that is prepared by some control file
pub record IsPreparedOne (field : FieldTimes) (event : Prepared) : Type 0 where
  pub control : ControlValues
  pub prepared : IsPrepared control field event
