use Rattle.std.proofs.Common.{◌∙◌, Err, ap}
use Rattle.edt_text.specs.LineCursor.{lines_left, lines_passed}
use Rattle.cover_certificate.specs.Blocks.{block_value}
use Rattle.check_top.specs.Reports.{cause_of_block}
use Rattle.check_top.proofs.CertificateSteps.{certificate_read, certificate_faulty, no_memory, fault_is}
use Rattle.check_top.proofs.report.reading.read_certificate.Goals as goal

pub returns-in-Ok-clause-value : goal.returns-in-Ok-clause-value
returns-in-Ok-clause-value c =
    certificate_read (lines_passed c.args.lines.now) (lines_passed c.read_block.new.lines) (lines_left c.args.lines.now) (lines_left c.read_block.new.lines) (block_value c.in-Ok.block)
    c.in-Ok.ensures.value c.in-Ok.ensures.limits c.in-Ok.ensures.typed c.in-Ok.ensures.passed

pub returns-in-Err-clause-fault : goal.returns-in-Err-clause-fault
returns-in-Err-clause-fault c = λ other.
    let fault = c.in-Err.ensures.fault (no_memory c.in-Err.fault.cause c.fault_of_block.result.cause c.fault_of_block.ensures.cause other) in
    certificate_faulty (lines_passed c.args.lines.now) c.in-Err.fault.line (lines_left c.args.lines.now) c.in-Err.fault.cause fault
    ∙ ap Err (fault_is c.fault_of_block.result c.in-Err.fault.line (cause_of_block c.in-Err.fault.cause) c.fault_of_block.ensures.line c.fault_of_block.ensures.cause)
