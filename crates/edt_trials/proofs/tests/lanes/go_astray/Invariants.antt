use Rattle.std.proofs.Common.{◌+◌, ◌-◌, ◌^◌, ◌<◌}
use Rattle.search_lanes.specs.LaneViews.{Fits}
use Rattle.edt_trials.proofs.tests.lanes.go_astray.Given as goal

abbrev pub invariant-loop-turn : goal.invariant-loop-turn
invariant-loop-turn g l = record {
  ready : g.J.Judge.ready l.judge;
  fits : Fits (g.J.Judge.grid l.judge) (g.J.Judge.roots l.judge) (g.J.Judge.bound_of l.judge) l.shared;
  room : g.J.Judge.count l.judge + (l.shared.budget - l.shared.state.met) < 2 ^ 64;
}
