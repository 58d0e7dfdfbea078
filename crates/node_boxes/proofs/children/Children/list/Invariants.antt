use Rattle.std.proofs.Common.{◌≡◌, length, take}
use Rattle.node_boxes.proofs.children.Children.list.Given as goal

abbrev pub invariant-loop-place : goal.invariant-loop-place
invariant-loop-place l = record {
  same_length : length l.room ≡ 8;
  value : take l.place l.room ≡ take l.place l.self;
}
