use Rattle.time_grid.proofs.SelectionLaws.{whole_node}
use Rattle.time_grid.proofs.selections.Selection.whole.Goals as goal

pub returns-clause-nodes : goal.returns-clause-nodes
returns-clause-nodes c k below = whole_node c.args.header.now.x c.args.header.now.y c.args.header.now.z k
