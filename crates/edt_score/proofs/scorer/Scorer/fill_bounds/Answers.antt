use Rattle.std.proofs.Common.{rules, arith, ◌≡◌, ◌∙◌, Some, ap, length, map, get_or, SFits, w64}
use Rattle.std.proofs.lemmas.Int.{to_z-of_z}
use Rattle.std.proofs.lemmas.Option.{slice_get-get_or}
use Rattle.kernel_table.specs.Falloff.{shape_of}
use Rattle.node_boxes.specs.Octree.{Child}
use Rattle.node_boxes.proofs.OctreeBoxes.{octree_inside}
use Rattle.edt_score.specs.Inside.Ends.{table_total}
use Rattle.edt_score.specs.Inside.Families.{no_pick}
use Rattle.edt_score.specs.Inside.Lanes.{lane}
use Rattle.edt_score.proofs.FamilyBounds.{lane-bound, written}
use Rattle.edt_score.proofs.KeptFamilies.{child_contained, child_within, family-tree}
use Rattle.edt_score.proofs.Readable.{IsReadable-picks}
use Rattle.edt_score.proofs.scorer.Scorer.fill_bounds.Goals as goal

pub fill_family-requires-clause-picks : goal.fill_family-requires-clause-picks
fill_family-requires-clause-picks g c =
    let start_fits : SFits w64 (get_or c.as_slice-picks.result.now 0 no_pick).time = search rules in
    simp to_z-of_z (rw c.as_slice-picks.ensures.value (IsReadable-picks c.args.self.now.field.now c.args.self.now.problem.now no_pick c.args.self.now.valid))

pub returns-clause-bounds : goal.returns-clause-bounds
returns-clause-bounds g c place child at =
    let field = c.args.self.now.field.now in
    let problem = c.args.self.now.problem.now in
    let shape = shape_of c.args.self.now.falloff.now in
    let parent = c.args.family.now.parent in
    let start_fits : SFits w64 (get_or c.as_slice-picks.result.now 0 no_pick).time = search rules in
    let start = (get_or problem.picks.items 0 no_pick).time in
    let kept = c.rows-rows.ensures.field in
    let in_eight = child_within parent child place c.requires.family.split at in
    let tree = Child parent child (family-tree field.roots c.args.family.now c.requires.family) c.requires.family.split.several (child_contained parent child place at) in
    let inside = octree_inside field.grid field.roots child kept.are_roots tree in
    let readable = IsReadable-picks field problem no_pick c.args.self.now.valid in
    let ends = rw c.as_slice-picks.ensures.value at simp to_z-of_z at c.fill_family.ensures.ends in
    let total = c.totals.ensures place in_eight in
    let bound = lane-bound shape field start problem.picks.items c.fill_family.new.ends parent child place kept inside readable ends at in
    let long : length c.totals.result ≡ 8 = search rules in
    let whole = written c.args.self.now.ends.len c.fill_family.new.ends _
    (omega (arith, c.fill_family.ensures.room_for_ends, c.args.self.now.ends.ok, c.deref_mut-2.ensures.len)) in
    slice_get-get_or c.totals.result place 0 (omega arith)
    ∙ ap Some (total ∙ ap (λ es. table_total shape (map (lane place) es) c.args.self.now.pairs.items) whole
    ∙ ap (table_total shape (map (lane place) c.fill_family.new.ends)) c.args.self.now.pairs_kept ∙ bound)
