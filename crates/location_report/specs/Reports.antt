-- What a report is made of.
use Rattle.std.specs.Prelude.{◌<◌, ◌-◌, ℕ, Bool, true, false, [], map, slice_get, unwrap_or}
use Rattle.node_boxes.specs.Frame.{IsValidFrame}
use Rattle.node_boxes.specs.Grid.{GridSize, node_count}
use Rattle.control_reader.specs.ControlValues.{ControlValues}
use Rattle.cover_certificate.specs.Blocks.{IsValidBlock}
use Rattle.octree_search.specs.Outcomes.{Outcome, IsLocated, FitsNowhere, PassesBudget, PassesNearLimit}
use Rattle.event_assembly.specs.Assembled.{IsAssembled}
use Rattle.event_assembly.specs.AssemblyValues.{EventCase, EventValues, Ready, Few, Many, event_value}
use Rattle.event_assembly.specs.declared.assembly.Assembly.{Assembly}
use Rattle.location_report.specs.declared.lanes.LaneCount.{LaneCount}
use Rattle.location_report.specs.Blocks.{certificate_of}
use Rattle.location_report.specs.Lines.{LaneValues}

-- an assembly of some number of events by a control file, over a grid that lies within its limits
pub record IsWhole (assembly : Assembly) : Type 0 where
  pub control : ControlValues
  pub number : ℕ
  pub assembled : IsAssembled control number assembly
  pub frame : IsValidFrame assembly.frame

-- an event without picks, which stands for one that there isn't
abbrev pub no_event : EventValues
no_event = record { used = []; skipped = []; case = Few }

-- the event of a number, from 1, of an assembly
abbrev pub event_at : Assembly → ℕ → EventValues
event_at assembly number = unwrap_or (slice_get (map event_value assembly.events.items) (number - 1)) no_event

-- the event has a problem
abbrev pub has_problem : EventCase → Bool
has_problem (Ready picks) = true
has_problem Few = false
has_problem Many = false

-- the hypocentre of an outcome is a node of a grid
abbrev pub HasNode : GridSize → Outcome → Type 0
HasNode g (IsLocated event) = event.hyp < node_count g
HasNode g (FitsNowhere boxes met) = Unit {0}
HasNode g PassesBudget = Unit {0}
HasNode g PassesNearLimit = Unit {0}

-- an outcome that a block may tell: its hypocentre is a node of the grid, and its certificate is valid
pub record IsTellable (g : GridSize) (outcome : Outcome) : Type 0 where
  pub node : HasNode g outcome
  pub valid : IsValidBlock (certificate_of outcome)

-- the values of a count of lanes
abbrev pub lane_values : LaneCount → LaneValues
lane_values count = record { lanes = count.lanes; events = count.events; lost = count.lost }
