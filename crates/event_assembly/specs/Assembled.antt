-- What holds of an assembly on every shelf, whatever its files are.
use Rattle.std.specs.Prelude.{◌≡◌, ◌≤◌, ◌*◌, ◌^◌, ℕ, ℤ, true, List, length, map, All, unsigned_abs}
use Rattle.edt_score.specs.declared.problem.Problem.{Problem}
use Rattle.edt_score.specs.declared.problem.ProblemPick.{ProblemPick}
use Rattle.edt_score.specs.Field.{FieldTimes}
use Rattle.edt_score.specs.Problem.{IsValidProblem}
use Rattle.control_reader.specs.ControlValues.{ControlValues}
use Rattle.station_table.specs.declared.picks.UsedPick.{UsedPick}
use Rattle.event_assembly.specs.declared.assembly.Assembly.{Assembly}
use Rattle.event_assembly.specs.declared.assembly.Case.{Case}
use Rattle.event_assembly.specs.declared.assembly.Case.TheVariants.{Ready, Few, Many}
use Rattle.event_assembly.specs.declared.assembly.Prepared.{Prepared}
use Rattle.event_assembly.specs.Assembling.{roots_for}
use Rattle.event_assembly.specs.Cases.{is_few, is_many, is_ready}

-- time, weight and variance of a used pick
abbrev pub measures_of : UsedPick → ℤ × ℕ × ℕ
measures_of pick = (pick.time, pick.weight, pick.variance)

-- those of a pick of a problem
abbrev pub problem_measures : ProblemPick → ℤ × ℕ × ℕ
problem_measures pick = (pick.time, pick.weight, pick.variance)

-- used picks are a problem: it is valid for the field, and has their times, weights and variances in their order
pub record IsProblemOf (control : ControlValues) (field : FieldTimes) (used : List UsedPick) (problem : Problem) : Type 0 where
  pub ready : is_ready control used ≡ true
  pub valid : IsValidProblem field problem
  pub measures : map problem_measures problem.picks.items ≡ map measures_of used

-- a case is that of used picks
abbrev pub IsCaseOf : ControlValues → FieldTimes → List UsedPick → Case → Type 0
IsCaseOf control field used (Ready problem) = IsProblemOf control field used problem
IsCaseOf control field used Few = is_few control used ≡ true
IsCaseOf control field used Many = is_many control used ≡ true

-- the time of a used pick is at most 4*10^17 microseconds in size
abbrev pub HasTime : UsedPick → Type 0
HasTime pick = unsigned_abs pick.time ≤ 4 * 10 ^ 17

-- an event has the case of its used picks, whose times are within their limit
pub record IsPrepared (control : ControlValues) (field : FieldTimes) (event : Prepared) : Type 0 where
  pub times : All HasTime event.picks.used.items
  pub case : IsCaseOf control field event.picks.used.items event.case

-- so many events are assembled: the grid is the control's, the octree's roots are those of its cells, and each event is prepared
pub record IsAssembled (control : ControlValues) (number : ℕ) (assembly : Assembly) : Type 0 where
  pub frame : assembly.frame ≡ control.frame
  pub grid : assembly.field.grid ≡ control.frame.grid
  pub roots : assembly.field.roots ≡ roots_for control
  pub events : All (IsPrepared control assembly.field) assembly.events.items
  pub count : length assembly.events.items ≡ number
