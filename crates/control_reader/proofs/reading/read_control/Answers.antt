use Rattle.std.specs.Prelude.{map}
use Rattle.std.proofs.lemmas.Result.{IfOk-weaker}
use Rattle.control_reader.specs.Inside.Said.{said_of}
use Rattle.control_reader.proofs.CompletionSteps.{within_control, completed, missing_named}
use Rattle.control_reader.proofs.reading.read_control.Goals as goal

pub returns-clause-value : goal.returns-clause-value
returns-clause-value c = completed c.args.main.now (map (λ file. file.items) c.args.included.now) c.in_ok-draft.draft c.finish.result c.in_ok-draft.ensures.follows c.finish.ensures.value c.finish.ensures.good

pub returns-clause-limits : goal.returns-clause-limits
returns-clause-limits c =
    IfOk-weaker c.finish.result _ _ (λ control completes. within_control (said_of c.in_ok-draft.draft) control c.in_ok-draft.ensures.limits completes)
    c.finish.ensures.value

pub returns-clause-fault : goal.returns-clause-fault
returns-clause-fault c =
    missing_named c.args.main.now (map (λ file. file.items) c.args.included.now) c.in_ok-draft.draft c.finish.result c.in_ok-draft.ensures.follows
    c.finish.ensures.place c.finish.ensures.fault
