use Rattle.std.proofs.Common.{refl, arith}
use Rattle.control_reader.specs.ControlLines.{statement_with, statements_with}
use Rattle.control_reader.specs.Inside.Said.{said_in}
use Rattle.control_reader.proofs.draft.ControlDraft.new.Goals as goal

pub returns-clause-follows : goal.returns-clause-follows
unfolding said_in statement_with statements_with
returns-clause-follows c = record {
  said = rw (c.new.ensures.items, c.new-2.ensures.items, c.new-3.ensures.items, c.new-4.ensures.items) refl;
  clean = λ j less. absurd (omega (arith, less));
}
