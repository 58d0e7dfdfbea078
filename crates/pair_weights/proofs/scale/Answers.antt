use Rattle.pair_weights.proofs.Scales.{scale_from_root}
use Rattle.pair_weights.proofs.scale.Goals as goal

pub returns-clause-value : goal.returns-clause-value
returns-clause-value c = scale_from_root c.args.va c.args.vb c.ceil_root.result c.max.result c.ceil_root.ensures c.max.ensures
