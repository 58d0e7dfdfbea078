use Rattle.std.proofs.Common.{◌≡◌, ℕ, map, take, All}
use Rattle.node_boxes.specs.declared.node_box.NodeBox.{NodeBox}
use Rattle.octree_search.specs.Cover.{cover_of}
use Rattle.octree_search.specs.Outcomes.{bounded}
use Rattle.octree_search.specs.Arena.{IsSettled, areas_met}
use Rattle.octree_search.proofs.covering.collect_cover.Given as goal

abbrev pub invariant-loop-place : goal.invariant-loop-place
invariant-loop-place l = record {
  boxes : (bound : NodeBox → ℕ) (t : ℕ) → All (IsSettled bound t) l.met
      → l.boxes.items ≡ map (bounded bound) (cover_of bound t (take l.place (areas_met l.met)));
}
