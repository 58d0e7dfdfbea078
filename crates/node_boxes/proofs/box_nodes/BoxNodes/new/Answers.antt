use Rattle.node_boxes.proofs.Walks.{walk_start}
use Rattle.node_boxes.proofs.box_nodes.BoxNodes.new.Goals as goal

pub returns : goal.returns
returns c = walk_start c.args.grid.now c.args.area.now c.node_number-node.result c.requires c.node_number-node.ensures.value
