use Rattle.std.proofs.Common.{rules, ◌<◌, get_or, length, subst}
use Rattle.minmax_pyramid.specs.Families.{AreSpans}
use Rattle.minmax_pyramid.specs.Rows.{row_times}
use Rattle.edt_score.specs.Field.{FieldTimes}
use Rattle.edt_score.proofs.RowSpans.{spans_more}
use Rattle.edt_score.proofs.field.Field.fill_spans.Goals as goal

pub loop-i-preserved : goal.loop-i-preserved
loop-i-preserved c =
    let rows = c.args.rows.now in
    let parent = c.args.family.now.parent in
    let before = c.loop-i.invariant in
    let within : c.loop-i.i < length c.loop-i.spans = search rules in
    let eight = subst (λ (f : FieldTimes). AreSpans f.grid (row_times f (get_or rows c.loop-i.i 0)) parent c.family_spans.new.spans) c.self.view_is c.family_spans.ensures.spans in
    record { room = search rules; spans = spans_more c.args.self.now rows parent c.loop-i.spans c.loop-i.i c.family_spans.new.spans within eight before.spans }
