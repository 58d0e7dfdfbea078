use Rattle.std.proofs.Common.{◌≡◌, ◌≢◌, ◌+◌, map, replicate, Some, arith}
use Rattle.std.proofs.lemmas.List.{length-map}
use Rattle.edt_text.specs.LineCursor.{lines_left, lines_passed}
use Rattle.cover_certificate.specs.declared.block.BlockCause.TheVariants.{Memory}
use Rattle.cover_certificate.specs.declared.block.BlockFault.{BlockFault}
use Rattle.cover_certificate.specs.declared.line_form.LineForm.TheVariants.{Area}
use Rattle.cover_certificate.specs.LineForms.{Numbered}
use Rattle.cover_certificate.specs.BlockLines.{box_numbers}
use Rattle.cover_certificate.specs.Inside.FirstFaults.{first_fault}
use Rattle.cover_certificate.proofs.BlockSteps.{item_fault}
use Rattle.cover_certificate.proofs.Refusals.{passed_on}
use Rattle.cover_certificate.proofs.reading.read_boxes.Goals as goal

pub returns-in_err-item-clause-fault : goal.returns-in_err-item-clause-fault
returns-in_err-item-clause-fault c =
    passed_on
    (λ (fault : BlockFault). fault.cause ≢ Memory → first_fault (replicate c.args.count (Numbered Area)) (lines_left c.args.lines.now)
    (lines_passed c.args.lines.now + 1) ≡ Some (fault.line, fault.cause))
    c.from_residual.result c.in_err-item.field-0.0 c.from_residual.ensures
    (λ known. rw c.loop-i.invariant.left (
    item_fault Area c.args.count (map box_numbers c.loop-i.boxes.items) (lines_left c.loop-i.lines) (lines_passed c.args.lines.now + 1)
    (lines_passed c.loop-i.lines + 1) (c.in_err-item.field-0.0.line, c.in_err-item.field-0.0.cause)
    c.loop-i.invariant.typed
    (omega (arith, length-map c.loop-i.boxes.items box_numbers, c.loop-i.invariant.count, c.loop-i-test.true))
    (omega (arith, length-map c.loop-i.boxes.items box_numbers, c.loop-i.invariant.passed))
    c.in_err-item.ensures.fault))
