use Rattle.std.proofs.Common.{◌≡◌, map, take}
use Rattle.std.specs.Prelude.{All}
use Rattle.location_report.specs.Blocks.{item_at}
use Rattle.location_report.specs.Inside.Locating.{IsNearNode}
use Rattle.location_report.proofs.locating.items_at.Given as goal

abbrev pub invariant-loop-pick : goal.invariant-loop-pick
invariant-loop-pick l = record {
  items : l.items.items ≡ map (item_at l.field l.node) (take l.pick-index l.picks);
  near : All (IsNearNode l.field l.node) (take l.pick-index l.picks);
}
