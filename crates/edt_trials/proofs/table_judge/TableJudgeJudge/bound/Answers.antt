use Rattle.std.proofs.Common.{◌≡◌, ◌<◌, arith, All, length, ℕ, List, sym, subst}
use Rattle.node_boxes.specs.Grid.{GridSize, node_count}
use Rattle.node_boxes.specs.declared.node_box.NodeBox.{NodeBox}
use Rattle.node_boxes.specs.BoxNodes.{box_nodes}
use Rattle.node_boxes.proofs.Nodes.{box_nodes-below}
use Rattle.node_boxes.proofs.OctreeBoxes.{octree_inside}
use Rattle.edt_trials.proofs.table_judge.TableJudgeJudge.bound.Goals as goal

-- the nodes of a box have their places in a table with one number for each node
in_table : (g : GridSize) (a : NodeBox) (table nodes : List ℕ) → nodes ≡ box_nodes g a → length table ≡ node_count g
    → All (λ node. node < length table) nodes
in_table g a table nodes is long = rw is (λ k d below. let here = box_nodes-below g a k d below in omega (arith, here, long))

pub new-requires : goal.new-requires
new-requires c =
    octree_inside c.args.self.now.grid c.args.self.now.roots.items c.args.area.now c.requires.ready c.requires.tree

pub greatest_of-requires : goal.greatest_of-requires
greatest_of-requires c = record {
  inside = in_table c.args.self.now.grid c.args.area.now c.deref.result.now c.new.result c.new.ensures
      (rw c.deref.ensures.value c.args.self.now.one_a_node);
}
