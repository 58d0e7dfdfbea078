use Rattle.node_boxes.proofs.Nodes.{box_nodes-below, box_nodes-order, box_nodes-holds, box_nodes-contains, box_nodes-length}
use Rattle.node_boxes.proofs.laws.box_nodes_law.Goals as goal

pub returns-clause-below : goal.returns-clause-below
returns-clause-below c g a = box_nodes-below g a

pub returns-clause-order : goal.returns-clause-order
returns-clause-order c g a = box_nodes-order g a

pub returns-clause-held : goal.returns-clause-held
returns-clause-held c g a = box_nodes-holds g a

pub returns-clause-all : goal.returns-clause-all
returns-clause-all c g a node below held = box_nodes-contains g a node below held

pub returns-clause-count : goal.returns-clause-count
returns-clause-count c g a inside = box_nodes-length g a inside
