use Rattle.std.proofs.Common.{◌≡◌, take}
use Rattle.node_boxes.specs.Roots.{holders}
use Rattle.minmax_pyramid.proofs.descent.child_with.Given as goal

abbrev pub invariant-loop-place : goal.invariant-loop-place
invariant-loop-place l = holders l.target.x0 l.target.y0 l.target.z0 (take l.place l.children) ≡ 0
