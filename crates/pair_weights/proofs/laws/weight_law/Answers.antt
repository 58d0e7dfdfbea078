use Rattle.pair_weights.proofs.Weights.{weight_of-falls, weight_of-bound}
use Rattle.pair_weights.proofs.laws.weight_law.Goals as goal

pub returns-clause-never_rises : goal.returns-clause-never_rises
returns-clause-never_rises c = weight_of-falls

pub returns-clause-bound : goal.returns-clause-bound
returns-clause-bound c = weight_of-bound
