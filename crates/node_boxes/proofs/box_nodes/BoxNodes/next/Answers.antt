use Rattle.std.proofs.Common.{◌∙◌, sym}
use Rattle.node_boxes.proofs.Walks.{walk_node, walk_row, walk_layer, walk_end}
use Rattle.node_boxes.proofs.box_nodes.BoxNodes.next.Goals as goal

pub returns-then-self : goal.returns-then-self
returns-then-self c =
    let w = c.self.inside in
    sym c.self.view_is ∙ walk_node w.grid w.area w.ix w.iy w.node w.end c.if-self.true

pub returns-then-self-2 : goal.returns-then-self-2
returns-then-self-2 c =
    let w = c.self.inside in
    sym c.self.view_is
    ∙ walk_row w.grid w.area w.ix w.iy w.node w.end c.node_number-node.result c.if-self.false
    c.if-self-2.true c.self.invariant.inside.z c.node_number-node.ensures.value

pub returns-then-self-3 : goal.returns-then-self-3
returns-then-self-3 c =
    let w = c.self.inside in
    sym c.self.view_is
    ∙ walk_layer w.grid w.area w.ix w.iy w.node w.end c.node_number-node-then-self-3.result c.if-self.false
    c.if-self-2.false c.if-self-3.true c.self.invariant.inside.y c.self.invariant.inside.z
    c.node_number-node-then-self-3.ensures.value

pub returns : goal.returns
returns c =
    let w = c.self.inside in
    sym c.self.view_is
    ∙ walk_end w.grid w.area w.ix w.iy w.node w.end c.if-self.false c.if-self-2.false c.if-self-3.false
