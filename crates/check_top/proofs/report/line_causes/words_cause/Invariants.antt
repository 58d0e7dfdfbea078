use Rattle.check_top.proofs.WordSteps.{Leaves, LeavesNumbers}
use Rattle.check_top.proofs.report.line_causes.words_cause.Given as goal

abbrev pub invariant-loop-form : goal.invariant-loop-form
invariant-loop-form l = record {
  form : Leaves l.forms l.initial.words l.form-index l.words;
  numbers : LeavesNumbers l.forms l.initial.words l.form-index l.words l.are_numbers;
}
