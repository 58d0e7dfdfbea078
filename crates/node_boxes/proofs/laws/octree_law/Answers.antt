use Rattle.node_boxes.proofs.OctreeBoxes.{octree_inside, cover_once, cover_few}
use Rattle.node_boxes.proofs.laws.octree_law.Goals as goal

pub returns-clause-inside : goal.returns-clause-inside
returns-clause-inside c g roots a are tree = octree_inside g roots a are tree

pub returns-clause-once : goal.returns-clause-once
returns-clause-once c g roots leaves ix iy iz are cover inside =
    cover_once g roots leaves ix iy iz are cover inside

pub returns-clause-few : goal.returns-clause-few
returns-clause-few c g roots leaves are cover = cover_few g roots leaves are cover
