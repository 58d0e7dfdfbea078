use Rattle.std.proofs.Common.{◌≡◌, ◌*◌, ◌^◌, ◌≤◌, take}
use Rattle.origin_time.specs.RootMeanSquare.{total_square}
use Rattle.origin_time.specs.Weights.{total_weight}
use Rattle.origin_time.proofs.mean_square.rms.Given as goal

abbrev pub invariant-loop-item : goal.invariant-loop-item
invariant-loop-item l = record {
  weight : l.weight ≡ total_weight (take l.item-index l.items);
  squares : l.squares ≡ total_square (take l.item-index l.items);
  few : l.weight ≤ l.item-index * 2000;
  small : l.squares ≤ l.weight * 10 ^ 26;
}
