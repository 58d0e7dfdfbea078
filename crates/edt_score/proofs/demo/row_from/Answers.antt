use Rattle.std.proofs.Common.{◌≡◌, ◌∙◌, ◌<◌, ◌≤◌, All, ap, sym, subst, length}
use Rattle.std.proofs.lemmas.List.Elements.{All-push}
use Rattle.node_boxes.specs.declared.limits.TheConstants.{GREATEST_TIME}
use Rattle.edt_score.specs.Demo.{Place, squared_distance, time_over}
use Rattle.edt_score.specs.Inside.DemoParts.{time_from}
use Rattle.edt_score.proofs.DemoLists.{one_more}
use Rattle.edt_score.proofs.DemoRows.{looked_up, room_for}
use Rattle.edt_score.proofs.demo.row_from.Goals as goal

pub bounds-times-square : goal.bounds-times-square
bounds-times-square c = room_for c.args.side c.squared_distance-square.result c.args.times.now c.requires.times c.squared_distance-square.ensures.limit

pub loop-node-preserved : goal.loop-node-preserved
loop-node-preserved c =
    let place : c.squared_distance-square.result ≡ squared_distance (c.args.x, c.args.y, 0) _ =
    c.squared_distance-square.ensures.value ∙ ap (λ (p : Place). squared_distance (c.args.x, c.args.y, 0) p) c.place.ensures.value in
    let within : c.squared_distance-square.result < length c.args.times.now =
    room_for c.args.side c.squared_distance-square.result c.args.times.now c.requires.times c.squared_distance-square.ensures.limit in
    record {
      times = one_more (time_from c.args.grid.now (c.args.x, c.args.y, 0)) c.loop-node.node c.loop-node.row.items _ _ c.loop-node.invariant.times c.in_ok-push.ensures.items
          (looked_up c.args.side c.squared_distance-square.result c.args.times.now _ c.requires.times c.squared_distance-square.ensures.limit ∙ ap time_over place);
      limit = subst (All (λ time. time ≤ GREATEST_TIME)) (sym c.in_ok-push.ensures.items)
          (All-push (λ time. time ≤ GREATEST_TIME) c.loop-node.row.items _ c.loop-node.invariant.limit (c.requires.limit c.squared_distance-square.result _ within));
    }
