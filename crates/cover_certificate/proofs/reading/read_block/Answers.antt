use Rattle.std.proofs.Common.{◌≢◌, ◌+◌, arith}
use Rattle.edt_text.specs.LineCursor.{lines_left, lines_passed}
use Rattle.cover_certificate.specs.declared.block.BlockCause.TheVariants.{Memory}
use Rattle.cover_certificate.specs.declared.block.BlockFault.{BlockFault}
use Rattle.cover_certificate.specs.Blocks.{block_value}
use Rattle.cover_certificate.specs.BlockFaults.{IsBlockFault}
use Rattle.cover_certificate.proofs.FaultPlaces.{block_fault}
use Rattle.cover_certificate.proofs.BlockLaws.{body_fault, end_fault, kind_fault}
use Rattle.cover_certificate.proofs.Refusals.{passed_on}
use Rattle.cover_certificate.proofs.reading.read_block.Goals as goal

pub returns-in_err-kind-clause-fault : goal.returns-in_err-kind-clause-fault
returns-in_err-kind-clause-fault c =
    passed_on
    (λ (fault : BlockFault). fault.cause ≢ Memory → IsBlockFault (lines_left c.args.lines.now) (lines_passed c.args.lines.now) fault.line fault.cause)
    c.from_residual.result c.in_err-kind.field-0.0 c.from_residual.ensures
    (λ known. block_fault (lines_left c.args.lines.now) (lines_passed c.args.lines.now) c.in_err-kind.field-0.0.line c.in_err-kind.field-0.0.cause
    (kind_fault (lines_left c.args.lines.now) (lines_passed c.args.lines.now + 1) (c.in_err-kind.field-0.0.line, c.in_err-kind.field-0.0.cause)
    c.in_err-kind.ensures.fault))

pub returns-in_err-block-clause-fault : goal.returns-in_err-block-clause-fault
returns-in_err-block-clause-fault c =
    passed_on
    (λ (fault : BlockFault). fault.cause ≢ Memory → IsBlockFault (lines_left c.args.lines.now) (lines_passed c.args.lines.now) fault.line fault.cause)
    c.from_residual-in_err-block.result c.in_err-block.field-0.0 c.from_residual-in_err-block.ensures
    (λ known. block_fault (lines_left c.args.lines.now) (lines_passed c.args.lines.now) c.in_err-block.field-0.0.line c.in_err-block.field-0.0.cause
    (body_fault c.in_ok-kind.kind (lines_left c.args.lines.now) (lines_left c.read_kind.new.lines) (lines_passed c.args.lines.now + 1)
    (lines_passed c.read_kind.new.lines + 1) (c.in_err-block.field-0.0.line, c.in_err-block.field-0.0.cause) c.in_ok-kind.ensures.value
    (omega (arith, c.in_ok-kind.ensures.passed)) (c.in_err-block.ensures.fault known)))

pub returns-in_err-read_end-clause-fault : goal.returns-in_err-read_end-clause-fault
returns-in_err-read_end-clause-fault c =
    passed_on
    (λ (fault : BlockFault). fault.cause ≢ Memory → IsBlockFault (lines_left c.args.lines.now) (lines_passed c.args.lines.now) fault.line fault.cause)
    c.from_residual-in_err-read_end.result c.in_err-read_end.field-0.0 c.from_residual-in_err-read_end.ensures
    (λ known. block_fault (lines_left c.args.lines.now) (lines_passed c.args.lines.now) c.in_err-read_end.field-0.0.line c.in_err-read_end.field-0.0.cause
    (end_fault c.in_ok-kind.kind (block_value c.in_ok-block.block) (lines_left c.args.lines.now) (lines_left c.read_kind.new.lines)
    (lines_left c.read_body.new.lines) (lines_passed c.args.lines.now + 1) (lines_passed c.read_body.new.lines + 1)
    (c.in_err-read_end.field-0.0.line, c.in_err-read_end.field-0.0.cause) c.in_ok-kind.ensures.value c.in_ok-block.ensures.kind
    c.in_ok-block.ensures.value c.in_ok-block.ensures.limits c.in_ok-block.ensures.typed
    (omega (arith, c.in_ok-kind.ensures.passed, c.in_ok-block.ensures.passed)) c.in_err-read_end.ensures.fault))
