use Rattle.std.proofs.Common.{◌∷◌, [], List, length, map, sym, ◌∙◌, ap, arith}
use Rattle.std.specs.Prelude.{slice_get}
use Rattle.std.proofs.lemmas.List.{map-append, length-append}
use Rattle.std.proofs.lemmas.List.Elements.{All-push}
use Rattle.std.proofs.lemmas.Result.{err_from_is_err_and}
use Rattle.text_terms.specs.Lines.{LineText, lines_of}
use Rattle.edt_text.specs.LineCursor.{lines_left, lines_passed}
use Rattle.cover_certificate.specs.declared.block.Block.{Block}
use Rattle.cover_certificate.specs.Blocks.{IsValidBlock, block_value}
use Rattle.check_top.specs.ReportLines.{head_cause}
use Rattle.check_top.specs.Inside.Cursors.{section_at}
use Rattle.check_top.proofs.SectionSteps.{head_faulty, read_head, read_next, read_faulty, read_end, read_long}
use Rattle.check_top.proofs.report.reading.read_report.Goals as goal

pub returns-in_err-pass_head-clause-fault : goal.returns-in_err-pass_head-clause-fault
returns-in_err-pass_head-clause-fault c =
    let out = err_from_is_err_and c.from_residual.result c.from_residual.ensures.1 in
    rw (out.1, out.2)
    (λ other. head_faulty c.args.events (lines_of c.args.bytes.now) c.in_err-pass_head.field-0.0
    (ap (λ (lines : List LineText). head_cause c.args.events (slice_get lines 0)) (sym c.new-lines.ensures.lines) ∙ c.in_err-pass_head.ensures.fault)
    (omega (arith, c.in_err-pass_head.ensures.line, c.new-lines.ensures.start)))

pub loop-number-init : goal.loop-number-init
loop-number-init c = record {
  read = read_head c.args.events (lines_of c.args.bytes.now) (lines_left c.pass_head.new.lines) (lines_passed c.pass_head.new.lines) (map block_value c.in_ok-blocks.blocks.items)
      (ap (λ (lines : List LineText). head_cause c.args.events (slice_get lines 0)) (sym c.new-lines.ensures.lines) ∙ c.in_ok-pass_head.ensures.good)
      (rw c.new-lines.ensures.lines at c.in_ok-pass_head.ensures.left)
      (omega (arith, c.in_ok-pass_head.ensures.passed, c.new-lines.ensures.start))
      (ap (map block_value) c.in_ok-blocks.ensures.items);
  count = ap length c.in_ok-blocks.ensures.items;
  valid = λ k d less. absurd (omega (arith, less, ap length c.in_ok-blocks.ensures.items));
}

pub returns-in_err-block-clause-fault : goal.returns-in_err-block-clause-fault
returns-in_err-block-clause-fault c =
    let out = err_from_is_err_and c.from_residual-in_err-block.result c.from_residual-in_err-block.ensures.1 in
    rw (out.1, out.2)
    (λ other. read_faulty c.args.events (lines_of c.args.bytes.now) (map block_value c.loop-number.blocks.items) c.loop-number.number (lines_passed c.loop-number.lines)
    (lines_left c.loop-number.lines) c.in_err-block.field-0.0 c.loop-number-test.true c.loop-number.invariant.read (c.in_err-block.ensures.fault other))

pub loop-number-preserved : goal.loop-number-preserved
loop-number-preserved c =
    let pushed = c.in_ok-push.ensures.items in
    let read =
    read_next c.args.events (lines_of c.args.bytes.now) (map block_value c.loop-number.blocks.items) c.loop-number.number (lines_passed c.loop-number.lines)
    (lines_left c.loop-number.lines) (section_at (block_value c.in_ok-block.block) c.read_section.new.lines) c.loop-number-test.true c.loop-number.invariant.read
    c.in_ok-block.ensures.value in
    record {
      read = rw (pushed, map-append block_value c.loop-number.blocks.items (c.in_ok-block.block ∷ [])) read;
      count = rw (pushed, length-append c.loop-number.blocks.items (c.in_ok-block.block ∷ [])) (omega (arith, c.loop-number.invariant.count));
      valid = rw pushed (All-push (λ (block : Block). IsValidBlock (block_value block)) c.loop-number.blocks.items c.in_ok-block.block c.loop-number.invariant.valid c.in_ok-block.ensures.valid);
    }

pub returns-in_err-pass_end-clause-fault : goal.returns-in_err-pass_end-clause-fault
returns-in_err-pass_end-clause-fault c =
    let out = err_from_is_err_and c.from_residual-in_err-pass_end.result c.from_residual-in_err-pass_end.ensures.1 in
    let fault = c.in_err-pass_end.ensures.fault in
    rw (out.1, out.2)
    (λ other. read_long c.args.events (lines_of c.args.bytes.now) (map block_value c.loop-number.blocks.items) c.loop-number.number (lines_passed c.loop-number.lines)
    (lines_left c.loop-number.lines) c.in_err-pass_end.field-0.0 (omega (arith, c.loop-number-test.false, c.loop-number.auto.number-end)) c.loop-number.invariant.read
    fault.0 fault.1 fault.2)

pub returns-clause-value : goal.returns-clause-value
returns-clause-value c =
    read_end c.args.events (lines_of c.args.bytes.now) (map block_value c.loop-number.blocks.items) c.loop-number.number (lines_passed c.loop-number.lines)
    (lines_left c.loop-number.lines) (omega (arith, c.loop-number-test.false, c.loop-number.auto.number-end)) c.loop-number.invariant.read c.in_ok-pass_end.ensures.none
