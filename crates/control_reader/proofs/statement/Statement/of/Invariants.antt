use Rattle.control_reader.proofs.KeywordLaws.{Searched}
use Rattle.control_reader.proofs.statement.Statement.of.Given as goal

abbrev pub invariant-loop-word : goal.invariant-loop-word
invariant-loop-word l = Searched l.word-items l.keyword l.word-index
