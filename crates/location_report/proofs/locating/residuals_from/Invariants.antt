use Rattle.std.proofs.Common.{◌≡◌, map, take}
use Rattle.location_report.specs.Blocks.{residual_from}
use Rattle.location_report.proofs.locating.residuals_from.Given as goal

abbrev pub invariant-loop-item : goal.invariant-loop-item
invariant-loop-item l = record {
  residuals : l.residuals.items ≡ map (residual_from l.time) (take l.item-index l.items);
}
