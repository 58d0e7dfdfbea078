use Rattle.std.proofs.Common.{◌≡◌, ℕ, ◌++◌, map, take, All, get_or}
use Rattle.node_boxes.specs.declared.node_box.NodeBox.{NodeBox}
use Rattle.node_boxes.specs.Boxes.{node_count_of}
use Rattle.node_boxes.specs.Children.{children_of}
use Rattle.octree_search.specs.Cover.{cover_of}
use Rattle.octree_search.specs.Outcomes.{bounded}
use Rattle.octree_search.specs.Arena.{IsSettled, no_box}
use Rattle.octree_search.proofs.covering.+push_cover.Given as goal

abbrev pub decreases-push_cover : goal.decreases-push_cover
decreases-push_cover l = node_count_of (get_or l.met.now l.place no_box).area

abbrev pub invariant-loop-child : goal.invariant-loop-child
invariant-loop-child l = (bound : NodeBox → ℕ) (t : ℕ) → All (IsSettled bound t) l.met
    → l.boxes.items ≡ l.fn.boxes.items ++ map (bounded bound) (cover_of bound t (take l.child (children_of (get_or l.met l.place no_box).area)))
