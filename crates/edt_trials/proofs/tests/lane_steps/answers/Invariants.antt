use Rattle.std.proofs.Common.{◌≡◌, ◌+◌, ◌-◌, ◌^◌, ◌<◌}
use Rattle.search_lanes.specs.LaneViews.{Fits}
use Rattle.edt_trials.proofs.tests.lane_steps.answers.Given as goal

abbrev pub invariant-loop-row : goal.invariant-loop-row
invariant-loop-row g l = record {
  ready : g.J.Judge.ready l.judge;
  fits : Fits (g.J.Judge.grid l.judge) (g.J.Judge.roots l.judge) (g.J.Judge.bound_of l.judge) l.lanes;
  room : g.J.Judge.count l.judge + (l.lanes.budget - l.lanes.state.met) < 2 ^ 64;
}
