use Rattle.std.proofs.Common.{◌≡◌, ◌+◌, ◌++◌, ◌∷◌, [], arith, ◌∙◌, subst, length, get_or}
use Rattle.node_boxes.specs.declared.node_box.NodeBox.{NodeBox}
use Rattle.octree_search.specs.Arena.{fresh, waiting}
use Rattle.octree_search.proofs.Meetings.{met_more}
use Rattle.search_lanes.proofs.LaneSlots.{met_longer, one_longer, open_more}
use Rattle.search_lanes.proofs.lane_meets.meet_all.Goals as goal

pub loop-area-preserved : goal.loop-area-preserved
loop-area-preserved g c =
    let kept = c.loop-area.invariant in
    let met = c.meet.ensures in
    let i = c.loop-area.area-index in
    let d : NodeBox = record { x0 = 0; x1 = 0; y0 = 0; y1 = 0; z0 = 0; z1 = 0 } in
    let bound = g.J.Judge.bound_of c.args.judge.now in
    let long : length c.loop-area.met.items ≡ length c.args.met.now.items + i =
    met_longer bound c.args.met.now.items c.loop-area.met.items c.args.areas.now i (omega (arith, c.loop-area-test.true)) kept.met in
    let more_met : length c.meet.new.met.items ≡ length c.loop-area.met.items + 1 =
    one_longer c.loop-area.met.items c.meet.new.met.items (fresh (g.J.Judge.bound_of c.loop-area.judge) (get_or c.args.areas.now i d)) met.met in
    let more_boxes : length c.meet.new.boxes.items ≡ length c.loop-area.boxes.items + 1 =
    one_longer c.loop-area.boxes.items c.meet.new.boxes.items
    (waiting (g.J.Judge.bound_of c.loop-area.judge) (length c.loop-area.met.items) (get_or c.args.areas.now i d)) met.boxes in
    record {
      still = met.still;
      same_grid = met.same_grid ∙ kept.same_grid;
      same_roots = met.same_roots ∙ kept.same_roots;
      same_bounds = met.same_bounds ∙ kept.same_bounds;
      asked = omega (arith, met.asked, kept.asked);
      met = met_more 0 bound c.args.met.now.items c.loop-area.met.items c.meet.new.met.items c.args.areas.now i d c.loop-area-test.true
          kept.met (subst (λ b. c.meet.new.met.items ≡ c.loop-area.met.items ++ fresh b (get_or c.args.areas.now i d) ∷ []) kept.same_bounds met.met);
      boxes = open_more bound c.args.boxes.now.items c.loop-area.boxes.items c.meet.new.boxes.items (length c.args.met.now.items) (length c.loop-area.met.items)
          c.args.areas.now i d c.loop-area-test.true long kept.boxes
          (subst (λ b. c.meet.new.boxes.items ≡ c.loop-area.boxes.items ++ waiting b (length c.loop-area.met.items) (get_or c.args.areas.now i d) ∷ []) kept.same_bounds met.boxes);
      met_room = omega (arith, met.met_room, kept.met_room, c.loop-area-test.true, c.loop-area.met.ok, c.meet.new.met.ok, more_met);
      boxes_room = omega (arith, met.boxes_room, kept.boxes_room, c.loop-area-test.true, c.loop-area.boxes.ok, c.meet.new.boxes.ok, more_boxes);
    }
