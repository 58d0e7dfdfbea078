-- Which picks of an event are used.
use Rattle.std.specs.Prelude.{◌≡◌, ℕ, ◌+◌, ◌*◌, Bool, true, false, ◌&&◌, nat_le, is_none, min, List, [], ◌∷◌, count_by, Option, Some, None, unwrap_or, ℤ, pos, ◌-ℤ◌, int_lt, unsigned_abs}
use Rattle.std.specs.List.{list_any, find, flat_map}
use Rattle.std.specs.Option.{option_map}
use Rattle.std.specs.Str.{bytes_eq}
use Rattle.text_terms.specs.Prefixes.{with_those_before}
use Rattle.control_reader.specs.ControlValues.{ControlValues}
use Rattle.control_reader.specs.declared.control.Delay.{Delay}
use Rattle.phase_reader.specs.declared.phases.Pick.{Pick}
use Rattle.station_table.specs.declared.keys.GridKey.{GridKey}
use Rattle.station_table.specs.declared.keys.Place.{Place}
use Rattle.station_table.specs.declared.keys.Place.TheVariants.{Absent, At}
use Rattle.station_table.specs.declared.picks.Picks.{Picks}
use Rattle.station_table.specs.declared.picks.Reason.{Reason}
use Rattle.station_table.specs.declared.picks.Reason.TheVariants.{Duplicate, NoGrid, Far, BeyondMax}
use Rattle.station_table.specs.declared.picks.Skip.{Skip}
use Rattle.station_table.specs.declared.picks.UsedPick.{UsedPick}
use Rattle.station_table.specs.Distances.{is_too_far}
use Rattle.station_table.specs.Keys.{key_of, key_place, source_of, is_wanted}
use Rattle.text_terms.specs.Faults.{first_cause}
use Rattle.station_table.specs.Reasons.{where_so, early_reason}
use Rattle.station_table.specs.Stations.{station_of, phase_of}

-- two picks have the same station and the same standard phase
abbrev pub are_of_one_phase : ControlValues → Pick → Pick → Bool
are_of_one_phase control a b =
    bytes_eq (station_of control a) (station_of control b) && bytes_eq (phase_of control a) (phase_of control b)

-- duplicates are rejected, and an earlier pick that met none of the first three reasons is of the same phase
unfoldable pub is_duplicate : ControlValues → List Pick → Pick → Bool
is_duplicate control before pick =
    control.reject_duplicates && list_any (λ earlier. is_wanted control earlier && are_of_one_phase control earlier pick) before

-- there is no grid
abbrev pub is_absent : Place → Bool
is_absent Absent = true
is_absent (At x y) = false

-- the first reason of a pick, given the picks before it in the event, but for the greatest number of used picks
unfoldable pub reason_by_itself : ControlValues → List GridKey → List Place → List Pick → Pick → Option Reason
reason_by_itself control keys places before pick =
    first_cause (
    early_reason control pick
    ∷ where_so (is_duplicate control before pick) Duplicate
    ∷ where_so (is_absent (source_of keys places (key_of control pick))) NoGrid
    ∷ where_so (is_too_far control (source_of keys places (key_of control pick))) Far
    ∷ [])

-- how many picks of a list may be used, but for the greatest number of used picks
unfoldable pub usable_count : ControlValues → List GridKey → List Place → List Pick → ℕ
usable_count control keys places picks =
    count_by (λ (p : List Pick × Pick). is_none (reason_by_itself control keys places p.0 p.1)) (with_those_before picks)

-- there is a greatest number of used picks, and this number reaches it
abbrev pub is_full : ControlValues → ℕ → Bool
is_full control count = int_lt (pos 0) control.max_phases && nat_le (unsigned_abs control.max_phases) count

-- there is a greatest number of used picks, and so many are used already: the first ones of those that may be
unfoldable pub is_beyond : ControlValues → List GridKey → List Place → List Pick → Bool
is_beyond control keys places before = is_full control (usable_count control keys places before)

-- the first reason of a pick, given the picks before it in the event
unfoldable pub reason_of : ControlValues → List GridKey → List Place → List Pick → Pick → Option Reason
reason_of control keys places before pick =
    first_cause (
    reason_by_itself control keys places before pick
    ∷ where_so (is_beyond control keys places before) BeyondMax
    ∷ [])

-- the delay of a station and a standard phase: that of the first statement that names both, else 0
unfoldable pub delay_for : ControlValues → List ℕ → List ℕ → ℤ
delay_for control station phase =
    unwrap_or
    (option_map (λ (d : Delay). d.delay)
    (find (λ (d : Delay). bytes_eq d.station station && bytes_eq d.phase phase) control.delays))
    (pos 0)

-- a pick that is used, whose key is at this place
unfoldable pub used_pick_at : ControlValues → Pick → ℕ → UsedPick
used_pick_at control pick place = record {
  line = pick.line;
  station = station_of control pick;
  phase = phase_of control pick;
  time = pick.time -ℤ delay_for control (station_of control pick) (phase_of control pick);
  weight = min 2000 (unsigned_abs pick.weight);
  variance = control.sigma * control.sigma + unsigned_abs pick.error * unsigned_abs pick.error;
  key = place;
}

-- a pick that is used
abbrev pub used_pick : ControlValues → List GridKey → Pick → UsedPick
used_pick control keys pick = used_pick_at control pick (unwrap_or (key_place keys (key_of control pick)) 0)

-- a pick that isn't
abbrev pub skip : ControlValues → Pick → Reason → Skip
skip control pick reason = record {
  line = pick.line;
  station = station_of control pick;
  phase = phase_of control pick;
  reason = reason;
}

-- a pick of an event, with its reason, where it is used
abbrev pub if_used : ControlValues → List GridKey → Pick → Option Reason → List UsedPick
if_used control keys pick None = used_pick control keys pick ∷ []
if_used control keys pick (Some reason) = []

-- and where it isn't
abbrev pub if_skipped : ControlValues → Pick → Option Reason → List Skip
if_skipped control pick None = []
if_skipped control pick (Some reason) = skip control pick reason ∷ []

-- the picks of an event that are used, in order
unfoldable pub used_picks : ControlValues → List GridKey → List Place → List Pick → List UsedPick
used_picks control keys places picks =
    flat_map (λ (p : List Pick × Pick). if_used control keys p.1 (reason_of control keys places p.0 p.1)) (with_those_before picks)

-- and those that aren't, in order
unfoldable pub skipped_picks : ControlValues → List GridKey → List Place → List Pick → List Skip
skipped_picks control keys places picks =
    flat_map (λ (p : List Pick × Pick). if_skipped control p.1 (reason_of control keys places p.0 p.1)) (with_those_before picks)

-- the picks of an event, each in one of the two lists
pub record ArePicksOf (control : ControlValues) (keys : List GridKey) (places : List Place) (event : List Pick) (picks : Picks) : Type 0 where
  pub used : picks.used.items ≡ used_picks control keys places event
  pub skipped : picks.skipped.items ≡ skipped_picks control keys places event
