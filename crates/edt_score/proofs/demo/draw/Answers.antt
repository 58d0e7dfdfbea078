use Rattle.std.proofs.Common.{◌/◌, ◌^◌, ap}
use Rattle.edt_score.proofs.DemoDraws.{step_is}
use Rattle.edt_score.proofs.demo.draw.Goals as goal

pub returns-clause-state : goal.returns-clause-state
returns-clause-state c = step_is c.args.state.now

pub returns-clause-answer : goal.returns-clause-answer
returns-clause-answer c = ap (λ state. state / 2 ^ 32) (step_is c.args.state.now)
