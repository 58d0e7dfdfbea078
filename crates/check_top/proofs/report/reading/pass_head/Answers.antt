use Rattle.std.proofs.Common.{◌≡◌, List, Option, Some, IfErr, sym, ◌∙◌, ap, subst, arith}
use Rattle.std.specs.Prelude.{slice_get}
use Rattle.text_terms.specs.Lines.{LineText}
use Rattle.edt_text.specs.LineCursor.{lines_left, lines_passed}
use Rattle.check_top.specs.declared.report.fault.ReportCause.{ReportCause}
use Rattle.check_top.specs.ReportLines.{head_cause}
use Rattle.check_top.proofs.report.reading.pass_head.Goals as goal
use Rattle.check_top.proofs.report.reading.pass_head.Goals.{in-Some, in-None}

pub overflow_add-number : goal.overflow_add-number
unfolding lines_passed
overflow_add-number c = omega (arith, c.args.lines.now.numbered, c.passed-number.ensures)

pub returns-clause-fault : goal.returns-clause-fault
unfolding head_cause
returns-clause-fault c =
    let first : List LineText → Option ReportCause = λ lines. head_cause c.args.events (slice_get lines 0) in
    let same : first (lines_left c.args.lines.now) ≡ c.match-next.cause = elim c.match-next.branch [
      | in-Some w ↦ ap first w.in-Some.ensures.line ∙ sym w.head_cause-cause.ensures ∙ sym w.cause-is
      | in-None w ↦ ap first w.in-None.ensures.end.0 ∙ sym w.cause-is
    ] in
    subst (λ cause. IfErr c.passes.result (λ fault. cause ≡ Some fault.cause)) (sym same) c.passes.ensures.fault
