use Rattle.pair_weights.proofs.Scales.{scale_of-is, scale_of-rises}
use Rattle.pair_weights.proofs.laws.scale_law.Goals as goal

pub returns-clause-least : goal.returns-clause-least
returns-clause-least c = scale_of-is

pub returns-clause-never_falls : goal.returns-clause-never_falls
returns-clause-never_falls c = scale_of-rises
