-- What is settled before any body is read: the rows, and the events with their problems.
use Rattle.std.specs.Prelude.{◌≡◌, ◌<◌, ◌^◌, true, List, length, map, Option, Some, None, is_none, All}
use Rattle.std.specs.List.{list_any}
use Rattle.edt_score.specs.Field.{FieldTimes}
use Rattle.grid_header.specs.declared.header.Header.{Header}
use Rattle.control_reader.specs.ControlValues.{ControlValues}
use Rattle.phase_reader.specs.declared.phases.Pick.{Pick}
use Rattle.station_table.specs.declared.keys.GridKey.{GridKey}
use Rattle.station_table.specs.declared.keys.Place.{Place}
use Rattle.station_table.specs.declared.keys.Place.TheVariants.{Absent, At}
use Rattle.event_assembly.specs.declared.planning.Plan.{Plan}
use Rattle.event_assembly.specs.Answers.{lacks_a_grid}
use Rattle.event_assembly.specs.Assembled.{IsPrepared}
use Rattle.event_assembly.specs.AssemblyValues.{event_value, event_of}
use Rattle.event_assembly.specs.Inside.Reads.{IsRowKey}
use Rattle.event_assembly.specs.Rows.{row_keys}

-- the place of the source of a header; there is none where there is no header
abbrev pub place_of_header : Option Header → Place
place_of_header None = Absent
place_of_header (Some header) = At header.sx header.sy

-- those of headers
abbrev pub places_of_headers : List (Option Header) → List Place
places_of_headers headers = map place_of_header headers

-- what is settled by the headers of the wanted keys
pub record IsPlan (control : ControlValues) (keys : List GridKey) (headers : List (Option Header)) (picks : List (List Pick)) (plan : Plan) : Type 0 where
  pub rows : plan.rows.items ≡ row_keys control keys (places_of_headers headers) picks
  pub events : map event_value plan.events.items
      ≡ map (event_of control keys (places_of_headers headers) plan.rows.items) picks
  pub few : length plan.rows.items < 2 ^ 32
  pub ready : All (IsRowKey keys headers) plan.rows.items
  pub prepared : (field : FieldTimes) → length field.rows ≡ length plan.rows.items → All (IsPrepared control field) plan.events.items
  pub lacks : lacks_a_grid plan.events.items ≡ true → list_any is_none headers ≡ true
  pub one_each : length plan.events.items ≡ length picks
