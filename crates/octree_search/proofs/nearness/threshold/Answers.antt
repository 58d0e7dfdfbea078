use Rattle.octree_search.proofs.Thresholds.{threshold_by}
use Rattle.octree_search.proofs.nearness.threshold.Goals as goal

pub returns : goal.returns
returns c = rw (c.max.ensures, c.from-margin.ensures) (threshold_by c.args.margin c.args.best c.requires)
