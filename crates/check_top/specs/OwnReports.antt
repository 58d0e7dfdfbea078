-- The report that a run that locates writes for the same files.
use Rattle.std.specs.Prelude.{◌≡◌, ℕ, ◌≤◌, ◌<◌, ◌^◌, List, ◌∷◌, length, map, flat_map, Some, Ok}
use Rattle.std.specs.List.{AllByRecursion}
use Rattle.edt_outside.specs.Shelves.{Files}
use Rattle.cover_certificate.specs.Blocks.{BlockValue}
use Rattle.event_assembly.specs.AssemblyValues.{EventValues}
use Rattle.location_report.specs.BlockForms.{IsPlainEvent}
use Rattle.location_report.specs.Blocks.{certificate_value}
use Rattle.location_report.specs.Texts.{blocks_of, head_line, outcome_of_case}
use Rattle.run_input.specs.Inputs.{InputValues, input_of}
use Rattle.check_top.specs.Commands.{CheckCommand}

-- what the certificate of an event of an input says: the outcome of its picks
abbrev pub own_block : InputValues → EventValues → BlockValue
own_block input event = certificate_value event.case (outcome_of_case input.control input.assembly.field event.case)

-- what the certificates of all its events say
abbrev pub own_blocks : InputValues → List BlockValue
own_blocks input = map (own_block input) input.assembly.events

-- the text that a run that locates writes for an input: the head line and the blocks of its events
unfoldable pub own_text : InputValues → List ℕ
own_text input =
    flat_map (λ part. part) (
    head_line (length input.assembly.events) input.control.passed input.phases_passed
    ∷ blocks_of input.control input.assembly)

-- the lines of an event's block are told apart again, and the counts of its picks have 32 bits
pub record IsPlainOwn (input : InputValues) (event : EventValues) : Type 0 where
  pub plain : IsPlainEvent event (outcome_of_case input.control input.assembly.field event.case)
  pub used : length event.used < 2 ^ 32
  pub skipped : length event.skipped < 2 ^ 32

-- those of all events are, of which there are at most 10,000, and so have the numbers of lines that were passed over
pub record IsPlainInput (input : InputValues) : Type 0 where
  pub few : length input.assembly.events ≤ 10000
  pub control_passed : input.control.passed < 2 ^ 32
  pub phases_passed : input.phases_passed < 2 ^ 32
  pub events : AllByRecursion (IsPlainOwn input) input.assembly.events

-- the report of a command is the text that a run that locates writes by the same files, and no longer than a report may be
pub record IsOwnReport (files : Files) (command : CheckCommand) : Type 0 where
  pub input : InputValues
  pub read : input_of files command.control ≡ Ok input
  pub report : files command.report ≡ Some (own_text input)
  pub within : length (own_text input) ≤ 268435456
