use Rattle.std.proofs.Common.{sym, ◌∙◌}
use Rattle.fixed_decimal.proofs.NearestLaws.{nearest-is}
use Rattle.fixed_decimal.proofs.laws.one_nearest.Goals as goal

pub returns : goal.returns
returns c = λ top bottom m n some first other. sym (nearest-is top bottom m some first) ∙ nearest-is top bottom n some other
