-- The station and the standard phase of a pick.
use Rattle.std.specs.Prelude.{ℕ, Bool, ◌&&◌, ◌||◌, List, unwrap_or, ℤ, int_le, int_lt}
use Rattle.std.specs.List.{find}
use Rattle.std.specs.Option.{option_map}
use Rattle.std.specs.Ordering.{int_eq}
use Rattle.std.specs.Str.{bytes_eq}
use Rattle.control_reader.specs.ControlValues.{ControlValues}
use Rattle.control_reader.specs.declared.control.Alias.{Alias}
use Rattle.control_reader.specs.declared.control.PhaseId.{PhaseId}
use Rattle.phase_reader.specs.declared.phases.Pick.{Pick}

-- year, month and day
abbrev pub Day : Type 0
Day = ℤ × ℤ × ℤ

-- a day isn't after another one: the first of year, month and day that differs decides
abbrev pub is_not_behind : Day → Day → Bool
is_not_behind a b =
    int_lt a.0 b.0 || (int_eq a.0 b.0 && (int_lt a.1 b.1 || (int_eq a.1 b.1 && int_le a.2 b.2)))

-- an alias names the pick's station, and its two days enclose the pick's day, ends included
abbrev pub is_alias_of : Pick → Alias → Bool
is_alias_of pick alias =
    bytes_eq alias.station pick.station && is_not_behind alias.from pick.day && is_not_behind pick.day alias.to

-- the station of a pick: the other name that the first such alias gives, which isn't looked up again; else its own
unfoldable pub station_of : ControlValues → Pick → List ℕ
station_of control pick =
    unwrap_or (option_map (λ (alias : Alias). alias.alias) (find (is_alias_of pick) control.aliases)) pick.station

-- the standard phase of a pick: that of the first code that is its phase word; else the word itself
unfoldable pub phase_of : ControlValues → Pick → List ℕ
phase_of control pick =
    unwrap_or
    (option_map (λ (id : PhaseId). id.standard) (find (λ (id : PhaseId). bytes_eq id.code pick.phase) control.phase_ids))
    pick.phase
