-- The events of numbered lines.
use Rattle.std.specs.Prelude.{ℕ, Bool, not, ◌==◌, ◌||◌, nat_le, nat_lt, ℤ, ◌-ℤ◌, unsigned_abs, List, [], ◌∷◌, length, map, filter}
use Rattle.std.specs.List.{slice_split}
use Rattle.text_terms.specs.Lines.{NumberedLine}
use Rattle.phase_reader.specs.declared.phases.Pick.{Pick}
use Rattle.phase_reader.specs.LineKinds.{is_parting, is_pick}
use Rattle.phase_reader.specs.PickFields.{pick_of}

-- there is a pick
abbrev pub is_event : List NumberedLine → Bool
is_event lines = not (length lines == 0)

-- the picks of each part, of the parts that have any
abbrev pub events_of_parts : List (List NumberedLine) → List (List NumberedLine)
events_of_parts runs = filter is_event (map (filter is_pick) runs)

-- the events: the picks between blank lines, where there are any
abbrev pub event_lines : List NumberedLine → List (List NumberedLine)
event_lines lines = events_of_parts (slice_split is_parting lines)

-- the last part
abbrev pub last_part : List (List NumberedLine) → List NumberedLine
last_part [] = []
last_part (part ∷ []) = part
last_part (part ∷ next ∷ more) = last_part (next ∷ more)

-- all parts but the last
abbrev pub parts_before_last : List (List NumberedLine) → List (List NumberedLine)
parts_before_last [] = []
parts_before_last (part ∷ []) = []
parts_before_last (part ∷ next ∷ more) = part ∷ parts_before_last (next ∷ more)

-- the picks after the last blank line: those of the event that a further pick belongs to
unfoldable pub open_lines : List NumberedLine → List NumberedLine
open_lines lines = filter is_pick (last_part (slice_split is_parting lines))

-- the events before the last blank line
unfoldable pub closed_lines : List NumberedLine → List (List NumberedLine)
closed_lines lines = events_of_parts (parts_before_last (slice_split is_parting lines))

-- the picks of each event
abbrev pub events_of : List NumberedLine → List (List Pick)
events_of lines = map (map pick_of) (event_lines lines)

-- a pick at this time passes a limit, given how many events stand before it and the earlier picks of its own: where it begins
-- event 10,001, is pick 4097 of its event, or lies more than 10^12 microseconds from its event's first pick
abbrev pub passes_limit : ℕ → List Pick → ℤ → Bool
passes_limit events [] time = nat_le 10000 events
passes_limit events (first ∷ more) time =
    nat_le 4096 (length (first ∷ more)) || nat_lt 1000000000000 (unsigned_abs (time -ℤ first.time))
