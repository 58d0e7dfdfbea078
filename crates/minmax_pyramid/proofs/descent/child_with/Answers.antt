use Rattle.std.proofs.Common.{◌∙◌, ap, sym}
use Rattle.node_boxes.specs.Roots.{holders}
use Rattle.minmax_pyramid.proofs.SmallBoxes.{none_past}
use Rattle.minmax_pyramid.proofs.BelowSteps.{holders_more, holders_none}
use Rattle.minmax_pyramid.proofs.descent.child_with.Goals as goal

pub loop-place-preserved : goal.loop-place-preserved
loop-place-preserved c =
    let target = c.args.target.now in
    holders_more target.x0 target.y0 target.z0 c.children-children.result c.loop-place.place c.in-Some.child
    (sym c.in-Some.ensures) (sym c.contains.ensures ∙ c.if-contains.false) c.loop-place.invariant

pub returns-in_default : goal.returns-in_default
returns-in_default c =
    let target = c.args.target.now in
    let children = c.children-children.result in
    ap (holders target.x0 target.y0 target.z0) (sym c.children-children.ensures)
    ∙ holders_none target.x0 target.y0 target.z0 children c.loop-place.place
    (none_past children c.loop-place.place (sym c.get.ensures ∙ c.in_default.is)) c.loop-place.invariant
