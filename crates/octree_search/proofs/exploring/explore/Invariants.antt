use Rattle.std.proofs.Common.{◌≡◌, ◌+◌, ◌≤◌, length, sum_by}
use Rattle.octree_search.specs.Outcomes.{event_threshold}
use Rattle.octree_search.proofs.Goes.{Goes, work_of}
use Rattle.octree_search.proofs.exploring.explore.Given as goal

abbrev pub invariant-loop-top : goal.invariant-loop-top
invariant-loop-top g l =
    let bound = g.J.Judge.bound_of l.fn.judge in
    record {
      still : g.J.Judge.ready l.judge;
      same_grid : g.J.Judge.grid l.judge ≡ g.J.Judge.grid l.fn.judge;
      same_roots : g.J.Judge.roots l.judge ≡ g.J.Judge.roots l.fn.judge;
      same_bounds : g.J.Judge.bound_of l.judge ≡ bound;
      asked : g.J.Judge.count l.judge ≡ g.J.Judge.count l.fn.judge + length l.frontier.met.items;
      few : length l.frontier.met.items ≤ l.budget;
      goes : Goes (g.J.Judge.grid l.fn.judge) l.roots bound l.margin l.frontier.met.items l.frontier.queue l.frontier.best;
    }

abbrev pub decreases-loop-top : goal.decreases-loop-top
decreases-loop-top g l =
    let bound = g.J.Judge.bound_of l.fn.judge in
    sum_by (work_of bound (event_threshold (g.J.Judge.grid l.fn.judge) bound l.margin)) l.frontier.queue
