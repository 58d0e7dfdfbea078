use Rattle.std.proofs.Common.{sym, ◌∙◌, refl, arith}
use Rattle.edt_text.specs.LineCursor.{lines_left}
use Rattle.check_top.proofs.SectionSteps.{to_here, to_end, to_next}
use Rattle.check_top.proofs.report.reading.pass_to_certificate.Goals as goal

pub returns-then-begins_certificate-clause-left : goal.returns-then-begins_certificate-clause-left
returns-then-begins_certificate-clause-left c =
    (to_here _ (lines_left c.loop-line.lines) _ _ _ _ c.loop-line.invariant.passes (sym c.loop-line.invariant.same ∙ c.in-Some.ensures.line)
    (sym c.begins_certificate.ensures ∙ c.if-begins_certificate.true)).0

pub returns-then-begins_certificate-clause-passed : goal.returns-then-begins_certificate-clause-passed
returns-then-begins_certificate-clause-passed c =
    (to_here _ (lines_left c.loop-line.lines) _ _ _ _ c.loop-line.invariant.passes (sym c.loop-line.invariant.same ∙ c.in-Some.ensures.line)
    (sym c.begins_certificate.ensures ∙ c.if-begins_certificate.true)).1

pub loop-line-preserved : goal.loop-line-preserved
loop-line-preserved c = record {
  passes = to_next _ (lines_left c.loop-line.lines) _ _ _ _ _ c.loop-line.invariant.passes (sym c.loop-line.invariant.same ∙ c.in-Some.ensures.line)
      (sym c.begins_certificate.ensures ∙ c.if-begins_certificate.false)
      (omega (arith, c.in-Some.ensures.passed, c.in-Some.ensures.number, c.loop-line.invariant.count));
  same = refl;
  count = refl;
}

pub returns-clause-left : goal.returns-clause-left
returns-clause-left c =
    (to_end _ (lines_left c.loop-line.lines) _ _ c.loop-line.invariant.passes (sym c.loop-line.invariant.same ∙ c.in_default.ensures.end.0)).0

pub returns-clause-passed : goal.returns-clause-passed
returns-clause-passed c =
    (to_end _ (lines_left c.loop-line.lines) _ _ c.loop-line.invariant.passes (sym c.loop-line.invariant.same ∙ c.in_default.ensures.end.0)).1
