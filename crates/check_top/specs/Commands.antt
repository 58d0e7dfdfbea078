-- The words of a run: the files that they name.
use Rattle.std.specs.Prelude.{ℕ, ◌&&◌, if◌then◌else◌, List, [], ◌∷◌, Option, Some, None}
use Rattle.run_input.specs.FileWords.{is_file_word}
use Rattle.check_top.specs.declared.commands.Command.{Command}

-- a run checks the report of a name by the control file of a name
pub record CheckCommand : Type 0 where
  pub control : List ℕ
  pub report : List ℕ

-- the command that was read
abbrev pub command_value : Command → CheckCommand
command_value command = record { control = command.control.now; report = command.report.now }

-- the command of the words `CONTROL REPORT`; other words have no shape
abbrev pub command_of : List (List ℕ) → Option CheckCommand
command_of [] = None
command_of (control ∷ []) = None
command_of (control ∷ report ∷ []) =
    if is_file_word control && is_file_word report then Some (record { control = control; report = report }) else None
command_of (control ∷ report ∷ third ∷ more) = None
