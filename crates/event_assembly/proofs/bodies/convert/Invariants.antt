use Rattle.event_assembly.specs.Rows.{by_ratio}
use Rattle.event_assembly.proofs.ConvertLaws.{Converted}
use Rattle.event_assembly.proofs.bodies.convert.Given as goal

abbrev pub invariant-loop-node : goal.invariant-loop-node
invariant-loop-node l = Converted (by_ratio l.ratio) l.initial.times l.times l.node
