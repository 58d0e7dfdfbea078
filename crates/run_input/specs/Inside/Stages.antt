-- What a stage of reading answers, by its first refusal.
use Rattle.std.specs.Prelude.{◌≡◌, ℕ, ◌≤◌, List, length, false, Option, Some, None, Result, Ok, Err}
use Rattle.std.specs.Global.{Vec}
use Rattle.edt_outside.specs.Shelves.{Files}
use Rattle.control_reader.specs.declared.control.Control.{Control}
use Rattle.control_reader.specs.ControlValues.{values_of}
use Rattle.phase_reader.specs.declared.phases.Phases.{Phases}
use Rattle.phase_reader.specs.PhaseFile.{picks_of_events}
use Rattle.run_input.specs.declared.refusals.Refusal.{Refusal}
use Rattle.run_input.specs.Refusals.{is_untold}
use Rattle.run_input.specs.FilesUnder.{control_under, events_under, passed_under}

-- nothing is refused and the value is this, or the answer is the first refusal
abbrev pub Reads : {T : Type 0} → Option Refusal → (T → Type 0) → Result T Refusal → Type 0
Reads found Is (Ok t) = (found ≡ None) × Is t
Reads found Is (Err refusal) = is_untold refusal ≡ false → found ≡ Some refusal

-- the bytes are those of a file
abbrev pub IsFile : Option (List ℕ) → ℕ → Vec ℕ → Type 0
IsFile file limit bytes = (file ≡ Some bytes.items) × (length bytes.items ≤ limit)

-- the values are those of the control file of a name
abbrev pub IsControlUnder : Files → List ℕ → Control → Type 0
IsControlUnder files name control = values_of control ≡ control_under files name

-- the values are those of the phase file of a name
pub record ArePhasesUnder (files : Files) (name : List ℕ) (phases : Phases) : Type 0 where
  pub passed : phases.passed ≡ passed_under files name
  pub events : picks_of_events phases.events.items ≡ events_under files name
