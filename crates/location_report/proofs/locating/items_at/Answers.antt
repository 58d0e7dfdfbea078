use Rattle.location_report.specs.Blocks.{item_at}
use Rattle.location_report.specs.Inside.Locating.{IsNearNode}
use Rattle.location_report.proofs.ListLaws.{all_more, made_more}
use Rattle.location_report.proofs.LocatingLaws.{no_pick}
use Rattle.location_report.proofs.locating.items_at.Goals as goal

pub loop-pick-preserved : goal.loop-pick-preserved
loop-pick-preserved c = record {
  items = made_more (item_at c.args.field.now c.args.node) c.args.picks.now c.loop-pick.pick-index no_pick c.loop-pick.items.items c.push.new.self.items
      c.item_at.result c.loop-pick-test.true c.loop-pick.invariant.items c.item_at.ensures.value c.in_ok-push.ensures.items;
  near = all_more (IsNearNode c.args.field.now c.args.node) c.args.picks.now c.loop-pick.pick-index no_pick c.loop-pick-test.true
      c.loop-pick.invariant.near c.item_at.ensures.near;
}
