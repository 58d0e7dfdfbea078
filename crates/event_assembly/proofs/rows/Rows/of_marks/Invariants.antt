use Rattle.event_assembly.proofs.NumberLaws.{AreNumberedTo}
use Rattle.event_assembly.proofs.rows.Rows.of_marks.Given as goal

abbrev pub invariant-loop-key : goal.invariant-loop-key
invariant-loop-key l = AreNumberedTo l.marks l.key l.rows.keys.items l.rows.row_of_key.items
