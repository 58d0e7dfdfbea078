use Rattle.std.proofs.Common.{◌∙◌, ap, sym, ℕ, ◌≤◌, arith, length, List, subst}
use Rattle.node_boxes.specs.declared.node_box.NodeBox.{NodeBox}
use Rattle.node_boxes.proofs.OctreeBoxes.{in_nonempty}
use Rattle.minmax_pyramid.specs.Spans.{time_in}
use Rattle.minmax_pyramid.proofs.SmallBoxes.{child_inside, child_smaller, none_past}
use Rattle.minmax_pyramid.proofs.CellSteps.{IsBuilding, building_more, building_end}
use Rattle.minmax_pyramid.proofs.cell.+build_cell.Goals as goal
use Rattle.minmax_pyramid.proofs.cell.+build_cell.Goals.{else-loop-place-test, then-loop-place-test+in_default}

pub build_cell-requires : goal.build_cell-requires
build_cell-requires t c =
    let area = c.args.area.now in
    let some = in_nonempty c.args.grid.now area c.requires.inside in
    let large = sym c.is_small.ensures ∙ c.if-is_small.false in
    let smaller = child_smaller area c.in-Some.child c.children-children.result c.loop-place.place some large
    c.children-children.ensures (sym c.in-Some.ensures) in (
      omega (arith, smaller, c.decreases),
      (
        c.requires.times,
        child_inside c.args.grid.now area c.in-Some.child c.children-children.result c.loop-place.place
            c.requires.inside c.children-children.ensures (sym c.in-Some.ensures),
      ),
    )

pub loop-place-preserved : goal.loop-place-preserved
loop-place-preserved t c =
    let g = c.args.grid.now in
    let time = time_in c.args.times.now in
    let span = c.own_span-low.result in
    let kid = c.in_ok-kid.kid in
    let own = c.own_span-low.ensures g time c.in-Some.child c.in_ok-kid.ensures in
    building_more g time c.children-children.result c.loop-place.place c.loop-place.least c.loop-place.greatest
    c.loop-place.kids.items c.in-Some.child kid c.min-least.result c.max-greatest.result span.0 span.1
    c.push.new.self.items (sym c.in-Some.ensures) c.in_ok-kid.ensures
    (ap (λ (s : ℕ × ℕ). s.0) own) (ap (λ (s : ℕ × ℕ). s.1) own)
    c.min-least.ensures c.max-greatest.ensures c.in_ok-push.ensures.items c.loop-place.invariant

pub returns : goal.returns
returns t c =
    let area = c.args.area.now in
    let some = in_nonempty c.args.grid.now area c.requires.inside in
    let large = sym c.is_small.ensures ∙ c.if-is_small.false in
    let children = c.children-children.result in
    let end : length children ≤ c.loop-place.place = elim c.loop-place-test.branch [
      | else-loop-place-test w ↦ omega (arith, w.loop-place-test.false)
      | then-loop-place-test+in_default w ↦ none_past children c.loop-place.place (sym w.get.ensures ∙ w.in_default.is)
    ] in
    let is = c.children-children.ensures in
    let P : List NodeBox → Type 0 = λ xs. IsBuilding c.args.grid.now (time_in c.args.times.now) xs c.loop-place.place c.loop-place.least
    c.loop-place.greatest c.loop-place.kids.items in
    building_end c.args.grid.now (time_in c.args.times.now) area c.loop-place.place c.loop-place.least
    c.loop-place.greatest c.loop-place.kids some large
    (rw is at end)
    (subst P is c.loop-place.invariant)
