use Rattle.std.proofs.Common.{refl, arith}
use Rattle.event_assembly.specs.Rows.{by_ratio}
use Rattle.event_assembly.proofs.ConvertLaws.{Converted-over, Converted-all}
use Rattle.event_assembly.proofs.bodies.convert.Goals as goal

pub returns-then-time-gt-GREATEST_TIME : goal.returns-then-time-gt-GREATEST_TIME
returns-then-time-gt-GREATEST_TIME c =
    Converted-over (by_ratio c.args.ratio) c.args.times.now c.loop-node.times c.loop-node.node _ c.loop-node.invariant
    (omega arith) (rw c.from.ensures refl) c.if-time-gt-GREATEST_TIME.true

pub returns : goal.returns
returns c = Converted-all (by_ratio c.args.ratio) c.args.times.now c.loop-node.times c.loop-node.node c.loop-node.invariant (omega arith)
