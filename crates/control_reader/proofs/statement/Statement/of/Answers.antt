use Rattle.std.proofs.Common.{refl, sym, ◌∙◌, arith}
use Rattle.control_reader.specs.Keywords.{statement_of}
use Rattle.control_reader.proofs.KeywordLaws.{entry_found, entry_passed, none_found}
use Rattle.control_reader.proofs.statement.Statement.of.Goals as goal

pub loop-word-init : goal.loop-word-init
unfolding statement_of
loop-word-init c = record { rest = refl }

pub returns-then-eq : goal.returns-then-eq
returns-then-eq c = entry_found _ c.loop-word.invariant (omega arith) (sym c.eq.ensures ∙ c.if-eq.true)

pub loop-word-preserved : goal.loop-word-preserved
loop-word-preserved c = entry_passed _ c.loop-word.invariant (omega arith) (sym c.eq.ensures ∙ c.if-eq.false)

pub returns : goal.returns
returns c = none_found c.loop-word.invariant (omega arith)
