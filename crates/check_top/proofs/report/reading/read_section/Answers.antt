use Rattle.std.proofs.Common.{◌≡◌, ◌≢◌, Result, Ok, Err, IfOk, IfErr, sym, subst}
use Rattle.std.proofs.lemmas.Result.{err_from_is_err_and}
use Rattle.edt_text.specs.LineCursor.{lines_left, lines_passed}
use Rattle.cover_certificate.specs.Blocks.{block_value}
use Rattle.check_top.specs.declared.report.fault.ReportCause.TheVariants.{Memory}
use Rattle.check_top.specs.declared.report.fault.ReportFault.{ReportFault}
use Rattle.check_top.specs.Inside.Cursors.{section_at}
use Rattle.check_top.specs.Reports.{Section}
use Rattle.check_top.proofs.SectionSteps.{section_faulty, section_good}
use Rattle.check_top.proofs.report.reading.read_section.Goals as goal

pub returns-in_err-pass_event-clause-fault : goal.returns-in_err-pass_event-clause-fault
returns-in_err-pass_event-clause-fault c =
    let out = err_from_is_err_and c.from_residual.result c.from_residual.ensures.1 in
    rw (out.1, out.2)
    (λ other. section_faulty (lines_passed c.args.lines.now) c.args.event (lines_left c.args.lines.now) c.in_err-pass_event.field-0.0
    c.in_err-pass_event.ensures.fault c.in_err-pass_event.ensures.line)

pub returns-clause-value : goal.returns-clause-value
returns-clause-value c =
    let same =
    section_good (lines_passed c.args.lines.now) c.args.event (lines_left c.args.lines.now) (lines_left c.pass_event.new.lines) (lines_left c.pass_to_certificate.new.lines)
    (lines_passed c.pass_event.new.lines) (lines_passed c.pass_to_certificate.new.lines) c.in_ok-pass_event.ensures.good c.in_ok-pass_event.ensures.left
    c.in_ok-pass_event.ensures.passed c.pass_to_certificate.ensures.left c.pass_to_certificate.ensures.passed in
    subst (λ (r : Result Section ReportFault). IfOk c.read_certificate.result (λ block. r ≡ Ok (section_at (block_value block) c.read_certificate.new.lines))) (sym same)
    c.read_certificate.ensures.value

pub returns-clause-fault : goal.returns-clause-fault
returns-clause-fault c =
    let same =
    section_good (lines_passed c.args.lines.now) c.args.event (lines_left c.args.lines.now) (lines_left c.pass_event.new.lines) (lines_left c.pass_to_certificate.new.lines)
    (lines_passed c.pass_event.new.lines) (lines_passed c.pass_to_certificate.new.lines) c.in_ok-pass_event.ensures.good c.in_ok-pass_event.ensures.left
    c.in_ok-pass_event.ensures.passed c.pass_to_certificate.ensures.left c.pass_to_certificate.ensures.passed in
    subst (λ (r : Result Section ReportFault). IfErr c.read_certificate.result (λ fault. fault.cause ≢ Memory → r ≡ Err fault)) (sym same)
    c.read_certificate.ensures.fault
