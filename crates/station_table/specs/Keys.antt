-- The keys of time grids that picks need.
use Rattle.std.specs.Prelude.{ℕ, Bool, ◌&&◌, not, if◌then◌else◌, is_none, List, [], ◌∷◌, map, filter, Option, unwrap_or, slice_get, pos, int_lt, codes}
use Rattle.std.specs.Bool.{beq}
use Rattle.std.specs.List.{flat_map, position}
use Rattle.std.specs.Str.{bytes_eq}
use Rattle.control_reader.specs.ControlValues.{ControlValues}
use Rattle.phase_reader.specs.declared.phases.Pick.{Pick}
use Rattle.station_table.specs.declared.keys.GridKey.{GridKey}
use Rattle.station_table.specs.declared.keys.Place.{Place}
use Rattle.station_table.specs.declared.keys.Place.TheVariants.{Absent}
use Rattle.station_table.specs.Stations.{station_of, phase_of}
use Rattle.station_table.specs.Reasons.{early_reason}

-- S times come from the P grids: the standard phase is S, and the ratio of the velocities is above 0
abbrev pub is_converted : ControlValues → List ℕ → Bool
is_converted control phase = bytes_eq phase (codes "S") && int_lt (pos 0) control.vpvs

-- the key of a station and a standard phase
unfoldable pub key_for : ControlValues → List ℕ → List ℕ → GridKey
key_for control station phase = record {
  station = station;
  phase = phase;
  grid_phase = if is_converted control phase then codes "P" else phase;
  converted = is_converted control phase;
}

-- the key of a pick
abbrev pub key_of : ControlValues → Pick → GridKey
key_of control pick = key_for control (station_of control pick) (phase_of control pick)

-- two keys are the same
abbrev pub same_key : GridKey → GridKey → Bool
same_key a b =
    bytes_eq a.station b.station && (bytes_eq a.phase b.phase && (bytes_eq a.grid_phase b.grid_phase && beq a.converted b.converted))

-- the items of a list, each once, in the order in which they are first seen
abbrev pub first_seen : List GridKey → List GridKey
first_seen [] = []
first_seen (key ∷ keys) = key ∷ filter (λ other. not (same_key key other)) (first_seen keys)

-- the picks that may need a grid: those that meet none of the first three reasons
abbrev pub is_wanted : ControlValues → Pick → Bool
is_wanted control pick = is_none (early_reason control pick)

-- the keys of the picks that may need a grid, one for each
abbrev pub keys_of : ControlValues → List Pick → List GridKey
keys_of control picks = map (key_of control) (filter (is_wanted control) picks)

-- the keys of all picks of all events that may need a grid, each once
unfoldable pub wanted_keys : ControlValues → List (List Pick) → List GridKey
wanted_keys control events = first_seen (keys_of control (flat_map (λ picks. picks) events))

-- the place of a key among keys
unfoldable pub key_place : List GridKey → GridKey → Option ℕ
key_place keys key = position (same_key key) keys

-- where the source of the grid of a key is
unfoldable pub source_of : List GridKey → List Place → GridKey → Place
source_of keys places key = unwrap_or (slice_get places (unwrap_or (key_place keys key) 0)) Absent
