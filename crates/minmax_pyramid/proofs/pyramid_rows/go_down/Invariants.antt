use Rattle.std.proofs.Common.{ℕ, drop}
use Rattle.node_boxes.specs.declared.node_box.NodeBox.{NodeBox}
use Rattle.node_boxes.specs.Grid.{GridSize}
use Rattle.minmax_pyramid.specs.Families.{IsWay}
use Rattle.minmax_pyramid.specs.Inside.Cells.{IsReached}
use Rattle.minmax_pyramid.proofs.pyramid_rows.go_down.Given as goal

abbrev pub invariant-loop-place : goal.invariant-loop-place
invariant-loop-place l = (g : GridSize) (time : ℕ → ℕ) (a b : NodeBox) → IsWay a l.places b → IsReached g time a l.top
    → (c : NodeBox) × IsWay c (drop l.place-index l.places) b × IsReached g time c l.cell
