use Rattle.octree_search.proofs.FewestBoxes.{shortest_cover, fewer_than_twice, at_most_nodes}
use Rattle.octree_search.proofs.laws.cover_law.Goals as goal

pub returns-clause-shortest : goal.returns-clause-shortest
returns-clause-shortest c = shortest_cover

pub returns-clause-met : goal.returns-clause-met
returns-clause-met c = fewer_than_twice

pub returns-clause-length : goal.returns-clause-length
returns-clause-length c = at_most_nodes
