use Rattle.std.proofs.Common.{◌≡◌, [], drop, sym, ◌∙◌, arith}
use Rattle.std.proofs.lemmas.Grind.{common_steps}
use Rattle.edt_text.proofs.ReadingLaws.{within-stops_at, within-ends}
use Rattle.edt_text.proofs.digits.digits_within.Goals as goal

pub returns-in_err-value : goal.returns-in_err-value
returns-in_err-value c =
    c.from_residual.ensures
    ∙ sym (within-stops_at c.args.most c.args.word.now c.loop-byte.byte-index c.loop-byte.value c.loop-byte-test.true
    c.loop-byte.invariant.digits c.loop-byte.invariant.value (sym c.in_err-value.ensures))

pub returns : goal.returns
returns c =
    let end : drop c.loop-byte.byte-index c.args.word.now ≡ [] = grind (arith, common_steps) in
    within-ends c.args.most c.args.word.now (drop c.loop-byte.byte-index c.args.word.now) c.loop-byte.value end
    c.loop-byte.invariant.digits c.loop-byte.invariant.value c.loop-byte.invariant.small
