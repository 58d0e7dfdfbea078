use Rattle.std.proofs.Common.{subst, rules}
use Rattle.run_input.specs.Told.{Told}
use Rattle.edt_top.specs.RunRefusals.{problem_line}
use Rattle.edt_top.proofs.telling.put_problem.Goals as goal

pub returns : goal.returns
unfolding problem_line
returns g c = record { told = subst (Told g.E.Sink.taken g.E.Sink.faults c.args.err.now c.put_pieces.new.err) (search rules) c.put_pieces.ensures.told }
