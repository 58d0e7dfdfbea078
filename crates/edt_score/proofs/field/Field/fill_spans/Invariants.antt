use Rattle.std.proofs.Common.{◌≡◌, length}
use Rattle.edt_score.specs.Inside.Families.{AreRowSpans}
use Rattle.edt_score.proofs.field.Field.fill_spans.Given as goal

abbrev pub invariant-loop-i : goal.invariant-loop-i
invariant-loop-i l = record {
  room : length l.spans ≡ length l.rows;
  spans : AreRowSpans l.i l.self l.rows l.family.parent l.spans;
}
