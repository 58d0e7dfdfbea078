use Rattle.std.proofs.Common.{◌≡◌, ◌+◌}
use Rattle.search_lanes.specs.LaneViews.{Fits}
use Rattle.search_lanes.specs.Inside.Passing.{IsPassed}
use Rattle.search_lanes.proofs.Ranks.{rank}
use Rattle.search_lanes.proofs.Searches.{IsSearching}
use Rattle.search_lanes.proofs.searching.search_lanes.Given as goal

abbrev pub invariant-loop-event : goal.invariant-loop-event
invariant-loop-event g l =
    let bound = g.J.Judge.bound_of l.fn.judge in
    record {
      still : g.J.Judge.ready l.judge;
      same_grid : g.J.Judge.grid l.judge ≡ g.J.Judge.grid l.fn.judge;
      same_roots : g.J.Judge.roots l.judge ≡ g.J.Judge.roots l.fn.judge;
      same_bounds : g.J.Judge.bound_of l.judge ≡ bound;
      asked : g.J.Judge.count l.judge ≡ g.J.Judge.count l.fn.judge + l.shared.state.met;
      fits : Fits (g.J.Judge.grid l.judge) (g.J.Judge.roots l.judge) (g.J.Judge.bound_of l.judge) l.shared;
      seen : l.shared ≡ record { state = l.shared.state; grid = l.grid; roots = l.roots; margin = l.margin; budget = l.budget };
      search : IsSearching l.grid l.roots bound l.margin l.budget l.lanes l.fn.seed l.events.items l.state l.shared.state;
      passed : IsPassed l.shared.margin l.shared.state l.passed;
    }

abbrev pub decreases-loop-event : goal.decreases-loop-event
decreases-loop-event g l = rank l.budget l.shared.state
