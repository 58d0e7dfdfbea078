use Rattle.std.proofs.Common.{◌∙◌, ap}
use Rattle.control_reader.specs.Inside.Said.{Said, said_of, control_line}
use Rattle.control_reader.proofs.LineSteps.{follows_line, fault_follows, includes_line, passed_line, outer_line}
use Rattle.control_reader.proofs.draft.ControlDraft.take_line.Goals as goal

pub returns-in-Ok-clause-follows : goal.returns-in-Ok-clause-follows
returns-in-Ok-clause-follows c = λ before follows.
    follows_line before (control_line c.args.file c.args.line) c.args.self.now c.take_bytes.new.self follows
    (c.in-Ok.ensures.value c.args.line.number) (c.in-Ok.ensures.good c.args.line.number)

pub returns-in-Ok-clause-includes : goal.returns-in-Ok-clause-includes
returns-in-Ok-clause-includes c =
    ap (λ (said : Said). said.includes) (c.in-Ok.ensures.value c.args.line.number)
    ∙ includes_line (control_line c.args.file c.args.line) (said_of c.args.self.now)

pub returns-in-Ok-clause-nested : goal.returns-in-Ok-clause-nested
returns-in-Ok-clause-nested c =
    outer_line (control_line c.args.file c.args.line) (said_of c.args.self.now) (c.in-Ok.ensures.good c.args.line.number)

pub returns-in-Ok-clause-room : goal.returns-in-Ok-clause-room
returns-in-Ok-clause-room c =
    passed_line (control_line c.args.file c.args.line) (said_of c.args.self.now) c.take_bytes.new.self.passed
    (ap (λ (said : Said). said.passed) (c.in-Ok.ensures.value c.args.line.number))

pub returns-in-Err-clause-fault : goal.returns-in-Err-clause-fault
returns-in-Err-clause-fault c = λ other before follows.
    fault_follows before (control_line c.args.file c.args.line) c.args.self.now c.in-Err.cause follows
    (c.in-Err.ensures.fault other c.args.line.number)
