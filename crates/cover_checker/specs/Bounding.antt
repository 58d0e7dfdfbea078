-- What the bounds of boxes have to do with the scores of their nodes.
use Rattle.std.specs.Prelude.{◌≡◌, ◌≤◌, ◌<◌, ℕ, true, IsTrue}
use Rattle.node_boxes.specs.declared.node_box.NodeBox.{NodeBox}
use Rattle.node_boxes.specs.Boxes.{IsIn, holds, is_single}
use Rattle.node_boxes.specs.Grid.{node_count}
use Rattle.cover_checker.specs.Scorings.{Scoring}

-- no node that a box of the grid holds scores more than the bound of the box, and that of a single box is the score
-- of its node
pub record AreBounds (s : Scoring) : Type 0 where
  pub above : (a : NodeBox) (node : ℕ) → IsIn s.grid a → node < node_count s.grid → IsTrue (holds s.grid a node)
      → s.score node ≤ s.bound a
  pub single : (a : NodeBox) (node : ℕ) → IsIn s.grid a → node < node_count s.grid → IsTrue (holds s.grid a node)
      → is_single a ≡ true → s.bound a ≡ s.score node
