use Rattle.std.proofs.Common.{◌≡◌, ◌≢◌, ◌+◌, [], ◌∷◌, map, Some, arith}
use Rattle.std.proofs.lemmas.List.{length-map}
use Rattle.edt_text.specs.LineCursor.{lines_left, lines_passed}
use Rattle.cover_certificate.specs.declared.block.BlockCause.TheVariants.{Memory}
use Rattle.cover_certificate.specs.declared.block.BlockFault.{BlockFault}
use Rattle.cover_certificate.specs.declared.line_form.LineForm.TheVariants.{Best, Entry}
use Rattle.cover_certificate.specs.BlockLines.{entry_numbers, numbers_line}
use Rattle.cover_certificate.specs.BlockFaults.{located_wanted}
use Rattle.cover_certificate.specs.Inside.FirstFaults.{first_fault}
use Rattle.cover_certificate.proofs.LineLaws.{line_again}
use Rattle.cover_certificate.proofs.BlockLaws.{cover_fault, near_fault}
use Rattle.cover_certificate.proofs.Refusals.{passed_on}
use Rattle.cover_certificate.proofs.reading.read_located.Goals as goal

pub returns-in_err-near-clause-fault : goal.returns-in_err-near-clause-fault
returns-in_err-near-clause-fault c =
    passed_on
    (λ (fault : BlockFault). fault.cause ≢ Memory → first_fault (located_wanted (lines_left c.args.lines.now)) (lines_left c.args.lines.now)
    (lines_passed c.args.lines.now + 1) ≡ Some (fault.line, fault.cause))
    c.from_residual-in_err-near.result c.in_err-near.field-0.0 c.from_residual-in_err-near.ensures
    (λ known. near_fault (numbers_line Best (c.in_ok-hyp.hyp ∷ c.in_ok-hyp.score ∷ [])) (lines_left c.args.lines.now) (lines_left c.read_best.new.lines)
    (lines_passed c.args.lines.now + 1) (lines_passed c.read_best.new.lines + 1) (c.in_err-near.field-0.0.line, c.in_err-near.field-0.0.cause)
    c.in_ok-hyp.ensures.value (line_again Best (c.in_ok-hyp.hyp ∷ c.in_ok-hyp.score ∷ []) c.in_ok-hyp.ensures.typed).0
    (omega (arith, c.in_ok-hyp.ensures.passed)) (c.in_err-near.ensures.fault known))

pub returns-in_err-cover-clause-fault : goal.returns-in_err-cover-clause-fault
returns-in_err-cover-clause-fault c =
    passed_on
    (λ (fault : BlockFault). fault.cause ≢ Memory → first_fault (located_wanted (lines_left c.args.lines.now)) (lines_left c.args.lines.now)
    (lines_passed c.args.lines.now + 1) ≡ Some (fault.line, fault.cause))
    c.from_residual-in_err-cover.result c.in_err-cover.field-0.0 c.from_residual-in_err-cover.ensures
    (λ known. cover_fault (numbers_line Best (c.in_ok-hyp.hyp ∷ c.in_ok-hyp.score ∷ [])) c.in_ok-near.near.items (lines_left c.args.lines.now)
    (lines_left c.read_best.new.lines) (lines_left c.read_near.new.lines) (lines_passed c.args.lines.now + 1) (lines_passed c.read_near.new.lines + 1)
    (c.in_err-cover.field-0.0.line, c.in_err-cover.field-0.0.cause)
    c.in_ok-hyp.ensures.value (line_again Best (c.in_ok-hyp.hyp ∷ c.in_ok-hyp.score ∷ []) c.in_ok-hyp.ensures.typed).0
    c.in_ok-near.ensures.value c.in_ok-near.ensures.limits c.in_ok-near.ensures.typed
    (omega (
      arith,
      length-map c.in_ok-near.near.items entry_numbers,
      length-map (map entry_numbers c.in_ok-near.near.items) (numbers_line Entry),
      c.in_ok-hyp.ensures.passed,
      c.in_ok-near.ensures.passed,
    ))
    (c.in_err-cover.ensures.fault known))
