use Rattle.std.proofs.Common.{◌≡◌, ◌*◌, ◌^◌, ◌≤◌, take}
use Rattle.origin_time.specs.Weights.{total_weight}
use Rattle.origin_time.proofs.median.weight_of_all.Given as goal

abbrev pub invariant-loop-item : goal.invariant-loop-item
invariant-loop-item l = record {
  total : l.total ≡ total_weight (take l.item-index l.items);
  few : l.total ≤ l.item-index * 2 ^ 32;
}
