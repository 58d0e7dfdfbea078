use Rattle.std.proofs.Common.{refl}
use Rattle.octree_search.specs.Near.{near_list}
use Rattle.cover_checker.specs.Locations.{near_nodes}
use Rattle.cover_checker.proofs.laws.near_law.Goals as goal

pub returns : goal.returns
unfolding near_list near_nodes
returns c g bound least = refl
