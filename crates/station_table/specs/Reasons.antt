-- The reasons for which a pick isn't used, whatever the other picks are.
use Rattle.std.specs.Prelude.{◌^◌, Bool, ◌&&◌, ◌||◌, if◌then◌else◌, [], ◌∷◌, Option, Some, None, pos, int_le, int_lt}
use Rattle.std.specs.List.{list_any}
use Rattle.std.specs.Str.{bytes_eq}
use Rattle.text_terms.specs.Faults.{first_cause}
use Rattle.control_reader.specs.ControlValues.{ControlValues}
use Rattle.control_reader.specs.declared.control.Exclude.{Exclude}
use Rattle.phase_reader.specs.declared.phases.Pick.{Pick}
use Rattle.station_table.specs.declared.picks.Reason.{Reason}
use Rattle.station_table.specs.declared.picks.Reason.TheVariants.{Excluded, Weight0, ErrMag}
use Rattle.station_table.specs.Stations.{station_of, phase_of}

-- a reason where a test holds
abbrev pub where_so : Bool → Reason → Option Reason
where_so test reason = if test then Some reason else None

-- an exclusion names the station of a pick, and its phase word or its standard phase
abbrev pub excludes : ControlValues → Pick → Exclude → Bool
excludes control pick exclude =
    bytes_eq exclude.station (station_of control pick)
    && (bytes_eq exclude.phase pick.phase || bytes_eq exclude.phase (phase_of control pick))

-- some exclusion does
unfoldable pub is_excluded : ControlValues → Pick → Bool
is_excluded control pick = list_any (excludes control pick) control.excludes

-- the weight in thousandths is 0 or less
abbrev pub has_no_weight : Pick → Bool
has_no_weight pick = int_le pick.weight (pos 0)

-- the error is negative or passes 100 seconds
abbrev pub has_bad_error : Pick → Bool
has_bad_error pick = int_lt pick.error (pos 0) || int_lt (pos (10 ^ 8)) pick.error

-- the first of these three reasons that holds
unfoldable pub early_reason : ControlValues → Pick → Option Reason
early_reason control pick =
    first_cause (
    where_so (is_excluded control pick) Excluded
    ∷ where_so (has_no_weight pick) Weight0
    ∷ where_so (has_bad_error pick) ErrMag
    ∷ [])
