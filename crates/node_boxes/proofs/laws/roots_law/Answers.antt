use Rattle.node_boxes.proofs.RootBoxes.{roots_of-are, length-roots_of}
use Rattle.node_boxes.proofs.laws.roots_law.Goals as goal

pub returns-clause-roots : goal.returns-clause-roots
returns-clause-roots c g nx ny nz grid = roots_of-are g nx ny nz grid

pub returns-clause-count : goal.returns-clause-count
returns-clause-count c g nx ny nz = length-roots_of g nx ny nz
