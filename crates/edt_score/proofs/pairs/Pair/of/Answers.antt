use Rattle.std.proofs.Common.{arith}
use Rattle.edt_score.proofs.pairs.Pair.of.Goals as goal

pub reciprocal-requires-clause-at_most : goal.reciprocal-requires-clause-at_most
reciprocal-requires-clause-at_most c =
    c.scale-scale.ensures.least.least 200000000 (omega arith) (omega (arith, c.requires.first.variance, c.requires.other.variance))
