-- What a draft of a phase file stands for.
use Rattle.std.specs.Prelude.{◌≡◌, List, [], ◌∷◌, map, count_by}
use Rattle.text_terms.specs.Lines.{NumberedLine}
use Rattle.phase_reader.specs.declared.draft.PhaseDraft.{PhaseDraft}
use Rattle.phase_reader.specs.declared.phases.Pick.{Pick}
use Rattle.phase_reader.specs.LineKinds.{is_passed}
use Rattle.phase_reader.specs.PickFields.{pick_of}
use Rattle.phase_reader.specs.PhaseEvents.{open_lines, closed_lines}
use Rattle.phase_reader.specs.PhaseFile.{picks_of_events}

-- one event of these picks, if there are any
abbrev pub as_event : List Pick → List (List Pick)
as_event [] = []
as_event (pick ∷ picks) = (pick ∷ picks) ∷ []

-- the draft holds what the lines before say: the events before the last blank line, the picks after it, and the count
pub record Follows (before : List NumberedLine) (draft : PhaseDraft) : Type 0 where
  pub events : picks_of_events draft.events.items ≡ map (map pick_of) (closed_lines before)
  pub picks : draft.picks.items ≡ map pick_of (open_lines before)
  pub passed : draft.passed ≡ count_by is_passed before
