use Rattle.phase_reader.proofs.ReadSteps.{reads_next, reads_fault, reads_end}
use Rattle.phase_reader.proofs.reading.read_phases.Goals as goal

pub loop-line-preserved : goal.loop-line-preserved
loop-line-preserved c = (
  reads_next c.args.bytes.now c.loop-line.lines c.next.new.self c.loop-line.draft c.take_line.new.self c.in-Some.line c.loop-line.invariant.0
      c.in-Some.ensures.line c.in-Some.ensures.number c.in-Some.ensures.passed c.in-Ok.ensures.follows c.in-Ok.ensures.good c.take_line.ensures.room,
  c.in-Ok.ensures.limits c.loop-line.invariant.1,
)

pub returns-in-Err-clause-fault : goal.returns-in-Err-clause-fault
returns-in-Err-clause-fault c =
    λ other. reads_fault c.args.bytes.now c.loop-line.lines c.next.new.self c.loop-line.draft c.in-Some.line c.in-Err.cause c.loop-line.invariant.0
    c.in-Some.ensures.line c.in-Some.ensures.number (c.in-Err.ensures.fault other)

pub returns-in-Ok-finish-clause-value : goal.returns-in-Ok-finish-clause-value
returns-in-Ok-finish-clause-value c =
    reads_end c.args.bytes.now c.loop-line.lines c.loop-line.draft c.in-Ok-finish.phases c.loop-line.invariant.0
    c.in_default.ensures.end.0 c.in-Ok-finish.ensures.events c.in-Ok-finish.ensures.passed
