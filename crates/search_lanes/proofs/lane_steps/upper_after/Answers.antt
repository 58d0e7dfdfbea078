use Rattle.search_lanes.proofs.LaneSteps.{upper_found}
use Rattle.search_lanes.proofs.lane_steps.upper_after.Goals as goal

pub returns-then-bound-upper : goal.returns-then-bound-upper
returns-then-bound-upper c =
    upper_found c.args.bound c.args.upper c.max.result c.greatest_open.result c.greatest_held.result c.args.boxes.now c.args.slots.now
    c.if-bound-upper.true c.max.ensures c.greatest_open.ensures c.greatest_held.ensures
