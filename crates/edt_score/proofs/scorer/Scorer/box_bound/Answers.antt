use Rattle.std.proofs.Common.{rules, ◌∙◌, get_or, SFits, w64}
use Rattle.std.proofs.lemmas.Int.{to_z-of_z}
use Rattle.std.proofs.lemmas.List.{length-map}
use Rattle.kernel_table.specs.Falloff.{shape_of}
use Rattle.node_boxes.proofs.OctreeBoxes.{octree_inside}
use Rattle.edt_score.specs.BoxBound.{box_spans}
use Rattle.edt_score.specs.Inside.Families.{no_pick}
use Rattle.edt_score.proofs.EndTotals.{length-pairs_of, table_total-bound}
use Rattle.edt_score.proofs.FamilyBounds.{IsNear-box}
use Rattle.edt_score.proofs.Readable.{IsReadable-picks}
use Rattle.edt_score.proofs.scorer.Scorer.box_bound.Goals as goal

pub fill_box-requires-clause-picks : goal.fill_box-requires-clause-picks
fill_box-requires-clause-picks g c =
    let start_fits : SFits w64 (get_or c.as_slice-picks.result.now 0 no_pick).time = search rules in
    simp to_z-of_z (rw c.as_slice-picks.ensures.value (IsReadable-picks c.args.self.now.field.now c.args.self.now.problem.now no_pick c.args.self.now.valid))

pub total-requires-clause-lengths : goal.total-requires-clause-lengths
total-requires-clause-lengths g c =
    rw (c.args.self.now.pairs_kept, c.fill_box.ensures, c.as_slice-picks.ensures.value)
    (simp length-map (length-pairs_of c.args.self.now.problem.now.picks.items))

pub returns : goal.returns
returns g c =
    let field = c.args.self.now.field.now in
    let problem = c.args.self.now.problem.now in
    let shape = shape_of c.args.self.now.falloff.now in
    let start_fits : SFits w64 (get_or c.as_slice-picks.result.now 0 no_pick).time = search rules in
    let ends = rw c.as_slice-picks.ensures.value at simp to_z-of_z at c.fill_box.ensures in
    let start = (get_or problem.picks.items 0 no_pick).time in
    let kept = c.rows-rows.ensures.field in
    let inside = octree_inside field.grid field.roots c.args.area.now kept.are_roots c.requires.tree in
    let near = IsNear-box field start c.args.area.now problem.picks.items kept inside (IsReadable-picks field problem no_pick c.args.self.now.valid) in
    c.total.ensures.value ∙ rw (c.args.self.now.pairs_kept, ends)
    (table_total-bound shape start (box_spans field c.args.area.now) problem.picks.items near)
