use Rattle.minmax_pyramid.proofs.RunSteps.{IsJoined}
use Rattle.std.proofs.Common.{take}
use Rattle.minmax_pyramid.proofs.cell.run_span.Given as goal

abbrev pub invariant-loop-time : goal.invariant-loop-time
invariant-loop-time l = IsJoined (take l.time-index l.run) l.least l.greatest
