use Rattle.std.proofs.Common.{rules, length, SFits, w64}
use Rattle.std.proofs.lemmas.Int.{to_z-of_z}
use Rattle.edt_score.proofs.FamilyBounds.{lane-ends, rows_in_field}
use Rattle.edt_score.proofs.KeptFamilies.{child_within}
use Rattle.edt_score.proofs.family.fill_family.Goals as goal

pub fill_spans-requires-clause-rows : goal.fill_spans-requires-clause-rows
fill_spans-requires-clause-rows c =
    rw c.deref.ensures.value (c.requires.used.limit (length c.args.field.now.rows) (rows_in_field c.args.field.now c.args.start c.args.picks.now c.requires.picks))

pub returns-clause-ends : goal.returns-clause-ends
returns-clause-ends c k child at =
    let start_fits : SFits w64 c.args.start = search rules in
    let parent = c.args.family.now.parent in
    let in_eight = child_within parent child k c.requires.family.split at in
    lane-ends c.args.field.now c.args.start c.args.picks.now c.args.used.now.rows.items c.args.used.now.places.items c.fill_spans.new.spans c.fill_ends.new.ends
    parent child k in_eight c.requires.used (rw c.deref.ensures.value at c.fill_spans.ensures.spans) at c.fill_ends.ensures.room
    (rw c.deref-2.ensures.value at simp to_z-of_z at c.fill_ends.ensures.ends)
