use Rattle.std.proofs.Common.{◌≡◌, ◌+◌, ◌++◌, length, map, take}
use Rattle.std.specs.List.Sorted.{IsPermutation}
use Rattle.octree_search.specs.Arena.{fresh}
use Rattle.octree_search.specs.Inside.Meeting.{best_after, waits}
use Rattle.octree_search.proofs.frontier.Frontier.meet_all.Given as goal

abbrev pub invariant-loop-area : goal.invariant-loop-area
invariant-loop-area g l =
    let bound = g.J.Judge.bound_of l.fn.judge in
    record {
      still : g.J.Judge.ready l.judge;
      same_grid : g.J.Judge.grid l.judge ≡ g.J.Judge.grid l.fn.judge;
      same_roots : g.J.Judge.roots l.judge ≡ g.J.Judge.roots l.fn.judge;
      same_bounds : g.J.Judge.bound_of l.judge ≡ bound;
      asked : g.J.Judge.count l.judge ≡ g.J.Judge.count l.fn.judge + l.area-index;
      met : l.self.met.items ≡ l.fn.self.met.items ++ map (fresh bound) (take l.area-index l.areas);
      best : l.self.best ≡ best_after bound l.fn.self.best (take l.area-index l.areas);
      queue : IsPermutation (waits l.margin bound l.fn.self.best (length l.fn.self.met.items) (take l.area-index l.areas) ++ l.fn.self.queue) l.self.queue;
    }
