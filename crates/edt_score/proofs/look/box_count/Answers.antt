use Rattle.std.proofs.Common.{sym}
use Rattle.node_boxes.proofs.Nodes.{box_nodes-length}
use Rattle.edt_score.proofs.look.box_count.Goals as goal

pub returns : goal.returns
returns c =
    rw (c.from.ensures, c.from-2.ensures, c.from-3.ensures) (sym (box_nodes-length c.args.grid.now c.args.area.now c.requires))
