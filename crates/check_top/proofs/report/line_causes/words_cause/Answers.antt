use Rattle.std.proofs.Common.{◌∙◌, sym, ap, arith}
use Rattle.text_terms.specs.Faults.{unless}
use Rattle.check_top.specs.declared.report.fault.ReportCause.TheVariants.{Number}
use Rattle.check_top.proofs.WordSteps.{too_few, no_word, too_many, all_read}
use Rattle.check_top.proofs.report.line_causes.words_cause.Goals as goal

pub returns-in_default : goal.returns-in_default
returns-in_default c =
    sym (too_few c.args.forms.now c.args.words c.loop-form.words c.loop-form.form-index (omega (arith, c.loop-form-test.true)) c.in_default.ensures.0 c.loop-form.invariant.form)

pub returns-then-not-has_form : goal.returns-then-not-has_form
returns-then-not-has_form c =
    sym (no_word c.args.forms.now c.args.words c.loop-form.words c.next.new.self c.in-Some.word.now c.loop-form.form-index _ (omega (arith, c.loop-form-test.true)) c.in-Some.ensures
    (sym c.has_form.ensures ∙ c.if-not-has_form.true) c.loop-form.invariant.form)

pub returns-in-Some-next : goal.returns-in-Some-next
returns-in-Some-next c =
    sym (too_many c.args.forms.now c.args.words c.loop-form.words c.next-2.new.self c.in-Some-next._extra.now c.loop-form.form-index (omega (arith, c.loop-form-test.false)) c.in-Some-next.ensures
    c.loop-form.invariant.form)

pub returns-then-are_numbers-2 : goal.returns-then-are_numbers-2
returns-then-are_numbers-2 c =
    sym (all_read c.args.forms.now c.args.words c.loop-form.words c.loop-form.form-index c.loop-form.are_numbers (omega (arith, c.loop-form-test.false)) c.in_default-next.ensures.0
    c.loop-form.invariant.form c.loop-form.invariant.numbers ∙ ap (λ b. unless b Number) c.if-are_numbers-2.true)

pub returns-else-are_numbers-2 : goal.returns-else-are_numbers-2
returns-else-are_numbers-2 c =
    sym (all_read c.args.forms.now c.args.words c.loop-form.words c.loop-form.form-index c.loop-form.are_numbers (omega (arith, c.loop-form-test.false)) c.in_default-next.ensures.0
    c.loop-form.invariant.form c.loop-form.invariant.numbers ∙ ap (λ b. unless b Number) c.if-are_numbers-2.false)
