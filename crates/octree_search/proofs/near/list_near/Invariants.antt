use Rattle.std.proofs.Common.{◌≡◌, take}
use Rattle.octree_search.specs.Inside.NearBoxes.{near_in}
use Rattle.octree_search.proofs.near.list_near.Given as goal

abbrev pub invariant-loop-b : goal.invariant-loop-b
invariant-loop-b l = record { near : l.near.items ≡ near_in l.grid l.least (take l.b-index l.cover) }
