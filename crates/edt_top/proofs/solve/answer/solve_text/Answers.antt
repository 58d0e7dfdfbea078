use Rattle.std.proofs.Common.{◌∙◌, ap}
use Rattle.text_terms.specs.Words.{file_words}
use Rattle.edt_score.specs.Field.{FieldTimes}
use Rattle.edt_top.specs.Solve.ProblemValues.{field_in}
use Rattle.edt_top.specs.Solve.Text.{answer_line}
use Rattle.edt_top.proofs.solve.answer.solve_text.Goals as goal

pub returns-clause-text : goal.returns-clause-text
returns-clause-text c =
    let read = c.in_ok-file.ensures.value in
    c.in_ok-text.ensures
    ∙ (ap (λ (f : FieldTimes). answer_line f c.in_ok-file.file.problem.picks.items) read.field ∙ ap (answer_line (field_in (file_words c.args.bytes.now))) read.picks)
