-- The reading of a phase file, and its first fault.
use Rattle.std.specs.Prelude.{◌≡◌, ℕ, ◌+◌, nat_lt, if◌then◌else◌, List, length, take, map, count_by, slice_get, Option, Some, None}
use Rattle.std.specs.Option.{option_and_then, option_or}
use Rattle.text_terms.specs.Faults.{HasNoFault, IsFirstFault}
use Rattle.text_terms.specs.Lines.{NumberedLine, numbered_lines}
use Rattle.edt_text.specs.declared.limits.TheConstants.{LONGEST_LINE}
use Rattle.phase_reader.specs.declared.fault.PhaseCause.{PhaseCause}
use Rattle.phase_reader.specs.declared.fault.PhaseCause.TheVariants.{LongLine, Limit}
use Rattle.phase_reader.specs.declared.fault.PhaseFault.{PhaseFault}
use Rattle.phase_reader.specs.declared.kind.LineKind.{LineKind}
use Rattle.phase_reader.specs.declared.kind.LineKind.TheVariants.{Blank, Comment, PublicId, PickLine}
use Rattle.phase_reader.specs.declared.phases.Event.{Event}
use Rattle.phase_reader.specs.declared.phases.Phases.{Phases}
use Rattle.phase_reader.specs.declared.phases.Pick.{Pick}
use Rattle.phase_reader.specs.LineKinds.{kind_of, is_passed}
use Rattle.phase_reader.specs.PickFields.{pick_of}
use Rattle.phase_reader.specs.PickFaults.{pick_fault}
use Rattle.phase_reader.specs.PhaseEvents.{event_lines, events_of, open_lines, passes_limit}

-- a pick that passes a limit by the lines before it
unfoldable pub limit_fault : List NumberedLine → NumberedLine → Option PhaseCause
limit_fault before line =
    if passes_limit (length (event_lines before)) (map pick_of (open_lines before)) (pick_of line).time then Some Limit else None

-- the fault of a line of this kind: of picks alone, first in their words, and then by the lines before
abbrev pub kind_fault : LineKind → List NumberedLine → NumberedLine → Option PhaseCause
kind_fault Blank before line = None
kind_fault Comment before line = None
kind_fault PublicId before line = None
kind_fault PickLine before line = option_or (pick_fault line) (limit_fault before line)

-- the fault of a line, given the lines before it
abbrev pub fault_after : List NumberedLine → NumberedLine → Option PhaseCause
fault_after before line = if nat_lt LONGEST_LINE (length line.1) then Some LongLine else kind_fault (kind_of line) before line

-- the fault of the line at a place, counted from 0
unfoldable pub fault_at : List NumberedLine → ℕ → Option PhaseCause
fault_at lines k = option_and_then (fault_after (take k lines)) (slice_get lines k)

-- the events as lists of picks
abbrev pub picks_of_events : List Event → List (List Pick)
picks_of_events events = map (λ (event : Event). event.picks.items) events

-- no line is faulty, and these are the events and the number of lines that were passed over
pub record IsReading (bytes : List ℕ) (phases : Phases) : Type 0 where
  pub faultless : HasNoFault (fault_at (numbered_lines bytes)) (length (numbered_lines bytes))
  pub events : picks_of_events phases.events.items ≡ events_of (numbered_lines bytes)
  pub passed : phases.passed ≡ count_by is_passed (numbered_lines bytes)

-- the fault names the first faulty line, counted from 1, and the first cause in that line
pub record IsPhaseFault (bytes : List ℕ) (fault : PhaseFault) : Type 0 where
  pub place : ℕ
  pub line : fault.line ≡ place + 1
  pub first : IsFirstFault (fault_at (numbered_lines bytes)) (length (numbered_lines bytes)) place fault.cause
