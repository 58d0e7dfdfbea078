-- Events by the rows of keys.
use Rattle.std.specs.Prelude.{ℕ, if◌then◌else◌, List, map, slice_index}
use Rattle.edt_score.specs.declared.problem.ProblemPick.{ProblemPick}
use Rattle.control_reader.specs.ControlValues.{ControlValues}
use Rattle.station_table.specs.declared.picks.Picks.{Picks}
use Rattle.station_table.specs.declared.picks.UsedPick.{UsedPick}
use Rattle.event_assembly.specs.AssemblyValues.{EventCase, Ready, Few, Many, EventValues}
use Rattle.event_assembly.specs.Cases.{is_few, is_many}

-- a used pick as a pick of its problem, by the rows of the keys
abbrev pub problem_pick : List ℕ → UsedPick → ProblemPick
problem_pick row_of_key pick =
    record { time = pick.time; weight = pick.weight; variance = pick.variance; row = slice_index row_of_key pick.key }

-- what becomes of an event with these used picks
abbrev pub case_by : ControlValues → List ℕ → List UsedPick → EventCase
case_by control row_of_key used =
    if is_few control used then Few
    else if is_many control used then Many
    else Ready (map (problem_pick row_of_key) used)

-- an event with these picks
abbrev pub event_by : ControlValues → List ℕ → Picks → EventValues
event_by control row_of_key picks = record {
  used = picks.used.items;
  skipped = picks.skipped.items;
  case = case_by control row_of_key picks.used.items;
}
