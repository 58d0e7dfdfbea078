use Rattle.std.proofs.Common.{rules}
use Rattle.fixed_decimal.proofs.DigitLaws.{passes_on}
use Rattle.fixed_decimal.proofs.size.exponent_size.Goals as goal

pub returns-then-size-gt30-clause-long : goal.returns-then-size-gt30-clause-long
returns-then-size-gt30-clause-long c =
    passes_on c.args.exponent.now c.loop-byte.byte-index c.loop-byte.size c.from.result c.loop-byte-test.true (search rules)
    c.loop-byte.invariant.value c.from.ensures c.if-size-gt30.true
