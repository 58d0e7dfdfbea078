-- The text of a run that locates, by what its control file says and by its assembly.
use Rattle.std.specs.Prelude.{ℕ, nat_lt, if◌then◌else◌, List, [], ◌∷◌, length, map, codes, decimal, Option, Some, None}
use Rattle.std.specs.List.{enumerate_from}
use Rattle.control_reader.specs.ControlValues.{ControlValues}
use Rattle.cover_certificate.specs.BlockLines.{text_of_lines}
use Rattle.edt_score.specs.BoxBound.{box_bound}
use Rattle.edt_score.specs.Field.{FieldTimes}
use Rattle.edt_score.specs.declared.problem.ProblemPick.{ProblemPick}
use Rattle.octree_search.specs.Outcomes.{Outcome, outcome_of}
use Rattle.search_lanes.specs.declared.lane_events.LaneEvent.{LaneEvent}
use Rattle.search_lanes.specs.LaneRuns.{losses}
use Rattle.search_lanes.specs.Schedule.{schedule}
use Rattle.event_assembly.specs.AssemblyValues.{AssemblyValues, EventCase, EventValues, Ready, Few, Many}
use Rattle.location_report.specs.Blocks.{block_of}
use Rattle.location_report.specs.Lines.{LaneValues, line_of}

-- the number of events, and of the control lines and the phase lines that were passed over
unfoldable pub head_line : ℕ → ℕ → ℕ → List ℕ
head_line events control_passed phases_passed =
    text_of_lines (
    line_of (
    codes "EDTLOC"
    ∷ codes "1"
    ∷ codes "EVENTS"
    ∷ decimal events
    ∷ codes "PASSED"
    ∷ decimal control_passed
    ∷ decimal phases_passed
    ∷ [])
    ∷ [])

-- the outcome of the picks of a problem, by the shape, the margin and the budget of a control file
abbrev pub outcome_of_picks : ControlValues → FieldTimes → List ProblemPick → Outcome
outcome_of_picks control field picks =
    outcome_of field.grid field.roots (box_bound control.shape field picks) control.margin control.budget

-- the outcome of an event: there is none where it has few or many used picks
abbrev pub outcome_of_case : ControlValues → FieldTimes → EventCase → Option Outcome
outcome_of_case control field (Ready picks) = Some (outcome_of_picks control field picks)
outcome_of_case control field Few = None
outcome_of_case control field Many = None

-- the events in which several lanes search for the picks of a problem: the schedule of the seed of a control file
abbrev pub lane_events : ControlValues → FieldTimes → List ProblemPick → List LaneEvent
lane_events control field picks =
    schedule (box_bound control.shape field picks) control.margin control.budget control.lanes control.seed field.roots

-- how many lanes there are, how many events, and how many of these lose a lane
abbrev pub lanes_after : ℕ → List LaneEvent → LaneValues
lanes_after lanes events = record { lanes = lanes; events = length events; lost = losses events }

-- what the lanes do for an event: nothing is said where one lane searches, or where the event has few or many used picks
abbrev pub lanes_of_case : ControlValues → FieldTimes → EventCase → Option LaneValues
lanes_of_case control field (Ready picks) =
    if nat_lt 1 control.lanes then Some (lanes_after control.lanes (lane_events control field picks)) else None
lanes_of_case control field Few = None
lanes_of_case control field Many = None

-- the block of an event of a number
abbrev pub event_block : ControlValues → AssemblyValues → ℕ × EventValues → List ℕ
event_block control assembly event =
    block_of assembly.frame assembly.field event.0 event.1 (outcome_of_case control assembly.field event.1.case)
    (lanes_of_case control assembly.field event.1.case)

-- the blocks of the events of an assembly, numbered from 1
abbrev pub blocks_of : ControlValues → AssemblyValues → List (List ℕ)
blocks_of control assembly = map (event_block control assembly) (enumerate_from 1 assembly.events)
