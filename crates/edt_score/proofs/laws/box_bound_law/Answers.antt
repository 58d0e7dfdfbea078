use Rattle.edt_score.specs.Inside.BoxDomination.{box_bound-node, box_bounds-fall}
use Rattle.edt_score.proofs.laws.box_bound_law.Goals as goal

pub returns-clause-falls : goal.returns-clause-falls
returns-clause-falls c = box_bounds-fall

pub returns-clause-node : goal.returns-clause-node
returns-clause-node c = box_bound-node
