-- The text of a run that locates, by the values of its input.
use Rattle.std.specs.Prelude.{ℕ, List, ◌∷◌, length}
use Rattle.location_report.specs.Texts.{blocks_of, head_line}
use Rattle.run_input.specs.Inputs.{InputValues}

-- the parts in which the text is written: the head line and the blocks
abbrev pub locate_parts : InputValues → List (List ℕ)
locate_parts input =
    head_line (length input.assembly.events) input.control.passed input.phases_passed
    ∷ blocks_of input.control input.assembly
