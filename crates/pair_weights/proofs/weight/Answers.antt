use Rattle.std.proofs.Common.{rules}
use Rattle.pair_weights.specs.Weight.{weight_of}
use Rattle.pair_weights.proofs.weight.Goals as goal

pub returns-clause-value : goal.returns-clause-value
unfolding weight_of
returns-clause-value c = search rules
