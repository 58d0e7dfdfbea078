use Rattle.std.proofs.Common.{subst, rules}
use Rattle.run_input.specs.Told.{Told}
use Rattle.check_top.specs.CheckRefusals.{report_line}
use Rattle.check_top.proofs.telling.put_report.Goals as goal

pub returns : goal.returns
unfolding report_line
returns g c = record { told = subst (Told g.E.Sink.taken g.E.Sink.faults c.args.err.now c.put_pieces.new.err) (search rules) c.put_pieces.ensures.told }
