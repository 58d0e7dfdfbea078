-- What the check of the events of an input answers.
use Rattle.std.specs.Prelude.{◌≡◌, List, map, zip, All}
use Rattle.std.specs.List.{list_any}
use Rattle.kernel_table.specs.declared.kernels.Shape.{Shape}
use Rattle.event_assembly.specs.AssemblyValues.{EventValues}
use Rattle.cover_certificate.specs.Blocks.{BlockValue}
use Rattle.run_input.specs.Inputs.{InputValues}
use Rattle.check_top.specs.declared.checking.Checked.{Checked}
use Rattle.check_top.specs.CheckLines.{check_lines}
use Rattle.check_top.specs.EventAnswers.{AnswerValue, IsTrueAnswer, answer_of, is_refused}

-- the answer for an event and its block, with a kernel of this shape
abbrev pub answer_with : Shape → InputValues → EventValues × BlockValue → AnswerValue
answer_with shape input event = answer_of shape input.assembly.field input.control.margin event.0.case event.1

-- what it says is true
abbrev pub IsTrueWith : Shape → InputValues → EventValues × BlockValue → Type 0
IsTrueWith shape input event =
    IsTrueAnswer shape input.assembly.field input.control.margin event.0.case (answer_with shape input event)

-- the lines are those of the answers, some of which is refused where that is said, and what they say is true
pub record IsCheckOf (shape : Shape) (input : InputValues) (blocks : List BlockValue) (checked : Checked) : Type 0 where
  pub text : checked.text.items ≡ check_lines input.control.frame (map (answer_with shape input) (zip input.assembly.events blocks))
  pub refused : checked.refused ≡ list_any is_refused (map (answer_with shape input) (zip input.assembly.events blocks))
  pub truth : All (IsTrueWith shape input) (zip input.assembly.events blocks)
