use Rattle.std.proofs.Common.{◌≡◌, ◌+◌, ◌-◌, ◌≤◌, ◌++◌, length, map, take, vec_capacity, vec_len}
use Rattle.octree_search.specs.Arena.{fresh}
use Rattle.search_lanes.specs.Inside.Slots.{waits_from}
use Rattle.search_lanes.proofs.lane_meets.meet_all.Given as goal

abbrev pub invariant-loop-area : goal.invariant-loop-area
invariant-loop-area g l =
    let bound = g.J.Judge.bound_of l.fn.judge in
    record {
      still : g.J.Judge.ready l.judge;
      same_grid : g.J.Judge.grid l.judge ≡ g.J.Judge.grid l.fn.judge;
      same_roots : g.J.Judge.roots l.judge ≡ g.J.Judge.roots l.fn.judge;
      same_bounds : g.J.Judge.bound_of l.judge ≡ bound;
      asked : g.J.Judge.count l.judge ≡ g.J.Judge.count l.fn.judge + l.area-index;
      met : l.met.items ≡ l.fn.met.items ++ map (fresh bound) (take l.area-index l.areas);
      boxes : l.boxes.items ≡ l.fn.boxes.items ++ waits_from bound (length l.fn.met.items) (take l.area-index l.areas);
      met_room : vec_len l.met + (length l.areas - l.area-index) ≤ vec_capacity l.met;
      boxes_room : vec_len l.boxes + (length l.areas - l.area-index) ≤ vec_capacity l.boxes;
    }
