use Rattle.std.proofs.Common.{subst, refl}
use Rattle.run_input.specs.Told.{Told}
use Rattle.run_input.specs.Lines.{body_line}
use Rattle.run_input.proofs.telling.put_time_limit.Goals as goal

pub returns-clause-told : goal.returns-clause-told
unfolding body_line
returns-clause-told g c =
    subst (Told g.E.Sink.taken g.E.Sink.faults c.args.err.now c.put_pieces.new.err)
    (rw (c.as_bytes.ensures.value, c.as_str.ensures.text, c.as_bytes-2.ensures.value, c.format.ensures.text) refl) c.put_pieces.ensures.told
