-- What is left of a walk over the nodes of a box.
use Rattle.std.specs.Prelude.{◌≡◌, ℕ, List, ◌++◌, ◌+◌, ◌-◌, ◌<◌, ◌≤◌}
use Rattle.std.specs.List.{range_with_len, flat_map}
use Rattle.node_boxes.specs.declared.node_box.NodeBox.{NodeBox}
use Rattle.node_boxes.specs.Grid.{GridSize, IsGrid}
use Rattle.node_boxes.specs.GridOrder.{node_number}
use Rattle.node_boxes.specs.Boxes.{IsIn}

-- the nodes of a box with these places on x and y
abbrev pub run_of : GridSize → NodeBox → ℕ → ℕ → List ℕ
run_of g a ix iy = range_with_len (node_number g ix iy a.z0) (a.z1 - a.z0)

-- the runs of the places on y from `iy`
abbrev pub runs_from : GridSize → NodeBox → ℕ → ℕ → List ℕ
runs_from g a ix iy = flat_map (run_of g a ix) (range_with_len iy (a.y1 - iy))

-- the runs of the places on x from `ix`
abbrev pub layers_from : GridSize → NodeBox → ℕ → List ℕ
layers_from g a ix = flat_map (λ i. runs_from g a i a.y0) (range_with_len ix (a.x1 - ix))

-- the nodes from `node` up to the end of its run, then the later runs of the layer, then the later layers
unfoldable pub nodes_left : GridSize → NodeBox → ℕ → ℕ → ℕ → ℕ → List ℕ
nodes_left g a ix iy node end =
    (range_with_len node (end - node) ++ runs_from g a ix (iy + 1)) ++ layers_from g a (ix + 1)

-- a walk that has come to `node`, in the run at these places on x and y
pub record IsWalk (g : GridSize) (a : NodeBox) (ix iy node end : ℕ) : Type 0 where
  pub grid : IsGrid g
  pub inside : IsIn g a
  pub x : ix < a.x1
  pub y : iy < a.y1
  pub upto : node ≤ end
  pub run : end ≡ node_number g ix iy a.z0 + (a.z1 - a.z0)
