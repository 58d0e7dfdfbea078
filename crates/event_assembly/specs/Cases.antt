-- Whether the used picks of an event are few, many or a problem.
use Rattle.std.specs.Prelude.{Bool, ◌&&◌, ◌||◌, not, nat_lt, List, length, count_by, pos, int_lt, codes}
use Rattle.std.specs.Str.{bytes_eq}
use Rattle.control_reader.specs.ControlValues.{ControlValues}
use Rattle.station_table.specs.declared.picks.UsedPick.{UsedPick}

-- the pick is of the standard phase S
abbrev pub is_s : UsedPick → Bool
is_s pick = bytes_eq pick.phase (codes "S")

-- fewer than two picks are used, or fewer than the control asks for, or fewer of the standard phase S
unfoldable pub is_few : ControlValues → List UsedPick → Bool
is_few control used =
    nat_lt (length used) 2
    || int_lt (pos (length used)) control.min_phases
    || int_lt (pos (count_by is_s used)) control.min_s

-- they aren't few, and more than 256 are used
unfoldable pub is_many : ControlValues → List UsedPick → Bool
is_many control used = not (is_few control used) && nat_lt 256 (length used)

-- they are a problem
abbrev pub is_ready : ControlValues → List UsedPick → Bool
is_ready control used = not (is_few control used) && not (nat_lt 256 (length used))
