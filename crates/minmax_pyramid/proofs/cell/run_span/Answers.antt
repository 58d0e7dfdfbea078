use Rattle.std.proofs.Common.{refl, get_or, arith}
use Rattle.minmax_pyramid.proofs.RunSteps.{joined_more}
use Rattle.minmax_pyramid.proofs.cell.run_span.Goals as goal

pub loop-time-preserved : goal.loop-time-preserved
loop-time-preserved c =
    joined_more c.args.run.now c.loop-time.time-index (get_or c.args.run.now c.loop-time.time-index 0) c.loop-time.least
    c.loop-time.greatest c.min-least.result c.max-greatest.result (omega arith) refl c.min-least.ensures
    c.max-greatest.ensures c.loop-time.invariant
