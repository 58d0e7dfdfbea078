use Rattle.std.proofs.Common.{◌≡◌, ◌+◌, ◌∙◌, ap, arith}
use Rattle.std.specs.Prelude.{if◌then◌else◌}
use Rattle.std.proofs.lemmas.Result.{err_from_is_err_and}
use Rattle.control_reader.proofs.FileSteps.{takes_next, takes_fault, takes_all, takes_room}
use Rattle.control_reader.proofs.draft.ControlDraft.take_file.Goals as goal

pub take_line-requires-clause-room : goal.take_line-requires-clause-room
take_line-requires-clause-room c =
    omega (arith, takes_room c.args.file c.args.bytes.now c.loop-line.lines c.args.self.now c.loop-line.self c.loop-line.invariant c.requires.size, c.requires.room)

pub loop-line-preserved : goal.loop-line-preserved
loop-line-preserved c =
    let includes : c.take_line.new.self.includes ≡ c.loop-line.self.includes =
    c.in_ok-take_line.ensures.includes
    ∙ ap (λ b. if b then c.loop-line.self.includes + 1 else c.loop-line.self.includes) (c.in_ok-take_line.ensures.nested c.requires.included) in
    takes_next c.args.file c.args.bytes.now c.loop-line.lines c.next.new.self c.args.self.now c.loop-line.self c.take_line.new.self c.in-Some.line
    c.loop-line.invariant c.in-Some.ensures.line c.in-Some.ensures.number c.in-Some.ensures.passed c.in_ok-take_line.ensures.follows
    c.in_ok-take_line.ensures.limits includes c.in_ok-take_line.ensures.room

pub returns-in_err-take_line-clause-fault : goal.returns-in_err-take_line-clause-fault
returns-in_err-take_line-clause-fault c =
    let out = err_from_is_err_and c.from_residual.result c.from_residual.ensures.1 in
    rw (out.1, out.2)
    (λ other.
    takes_fault c.args.file c.args.bytes.now c.loop-line.lines c.next.new.self c.args.self.now c.loop-line.self c.in-Some.line _ c.loop-line.invariant
    c.in-Some.ensures.line c.in-Some.ensures.number c.in-Some.ensures.passed c.in_err-take_line.ensures.place.0 c.in_err-take_line.ensures.place.1
    (c.in_err-take_line.ensures.fault other))

pub returns-clause-follows : goal.returns-clause-follows
returns-clause-follows c =
    takes_all c.args.file c.args.bytes.now c.loop-line.lines c.args.self.now c.loop-line.self c.loop-line.invariant c.in_default.ensures.end.0

pub returns-clause-room : goal.returns-clause-room
returns-clause-room c =
    takes_room c.args.file c.args.bytes.now c.loop-line.lines c.args.self.now c.loop-line.self c.loop-line.invariant c.requires.size
