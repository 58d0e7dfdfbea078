use Rattle.std.proofs.Common.{◌∙◌, ap, arith, get_or, slice_get}
use Rattle.node_boxes.proofs.OctreeBoxes.{part_inside}
use Rattle.minmax_pyramid.specs.Spans.{span_of, time_in}
use Rattle.minmax_pyramid.proofs.SmallBoxes.{part_at}
use Rattle.minmax_pyramid.proofs.SpanLaws.{reach-span}
use Rattle.minmax_pyramid.proofs.FamilySteps.{no_box, child_read, children_few, filled_more, filled_end}
use Rattle.minmax_pyramid.proofs.pyramid_rows.fill_spans.Goals as goal

pub child_span-requires-clause-inside : goal.child_span-requires-clause-inside
child_span-requires-clause-inside c =
    let parent = c.args.parent.now in
    let children = c.args.children.now in
    let place = c.loop-place.place in
    let at = child_read parent children place c.requires.children (omega arith) in
    part_inside c.args.grid.now parent (get_or children place no_box) c.requires.inside
    (part_at parent (get_or children place no_box) place c.requires.split.nonempty at)

pub bounds-spans-place : goal.bounds-spans-place
bounds-spans-place c =
    omega (arith, children_few c.args.parent.now c.args.children.now c.requires.children c.requires.split)

pub loop-place-preserved : goal.loop-place-preserved
loop-place-preserved c =
    let g = c.args.grid.now in
    let time = time_in c.args.times.now in
    let parent = c.args.parent.now in
    let children = c.args.children.now in
    let place = c.loop-place.place in
    let child = get_or children place no_box in
    let at = child_read parent children place c.requires.children (omega arith) in
    let inside = part_inside g parent child c.requires.inside (part_at parent child place c.requires.split.nonempty at) in
    let is = c.child_span.ensures parent at c.requires.cell
    ∙ reach-span g time child inside (λ node. let fits = c.type_inv.times node in omega arith) in
    filled_more (span_of g time) children c.loop-place.spans place child c.child_span.result
    (ap (λ xs. slice_get xs place) c.requires.children ∙ at) is
    (omega (arith, children_few parent children c.requires.children c.requires.split)) c.loop-place.invariant

pub returns-clause-spans : goal.returns-clause-spans
returns-clause-spans c = λ place child at.
    filled_end (span_of c.args.grid.now (time_in c.args.times.now)) c.args.children.now c.loop-place.spans
    c.loop-place.place c.loop-place-test.false c.loop-place.invariant place child
    (ap (λ xs. slice_get xs place) c.requires.children ∙ at)
