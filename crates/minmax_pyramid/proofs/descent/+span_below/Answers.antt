use Rattle.std.proofs.Common.{◌∙◌, ap, sym, subst, arith, refl}
use Rattle.std.proofs.lemmas.Bool.{both_ways}
use Rattle.node_boxes.specs.declared.node_box.NodeBox.{NodeBox}
use Rattle.node_boxes.specs.Children.{children_of}
use Rattle.node_boxes.proofs.OctreeBoxes.{in_nonempty}
use Rattle.minmax_pyramid.specs.Spans.{span_of, time_in}
use Rattle.minmax_pyramid.specs.Inside.Below.{IsBelow, Here, Down}
use Rattle.minmax_pyramid.proofs.SmallBoxes.{child_inside, child_less, placed}
use Rattle.minmax_pyramid.proofs.SpanLaws.{reach-span}
use Rattle.minmax_pyramid.proofs.BelowSteps.{below_child, below_none, none_empty}
use Rattle.minmax_pyramid.proofs.descent.+span_below.Goals as goal

pub returns-then-is_same-clause-some : goal.returns-then-is_same-clause-some
returns-then-is_same-clause-some t c =
    let same = c.is_same.ensures.0 c.if-is_same.true in
    let P : NodeBox → Type 0 = λ a. IsBelow a c.args.area.now in
    (λ yes. subst P same Here, λ below. refl)

pub returns-then-is_same-clause-span : goal.returns-then-is_same-clause-span
returns-then-is_same-clause-span t c =
    c.reached_span.ensures
    ∙ reach-span c.args.grid.now (time_in c.args.times.now) c.args.area.now c.requires.inside (λ node. let fits = c.type_inv.times node in omega arith)
    ∙ ap (span_of c.args.grid.now (time_in c.args.times.now)) (c.is_same.ensures.0 c.if-is_same.true)

pub returns-in_err-place-clause-some : goal.returns-in_err-place-clause-some
returns-in_err-place-clause-some t c =
    let some = in_nonempty c.args.grid.now c.args.area.now c.requires.inside in
    let none = c.from_residual.ensures in (
      λ yes. absurd (none_empty c.from_residual.result none yes),
      λ below. absurd (below_none c.args.area.now c.args.target.now some c.in_err-place.ensures
          (λ same. both_ways c.is_same.result c.if-is_same.false (c.is_same.ensures.1 same)) below),
    )

pub span_below-requires : goal.span_below-requires
span_below-requires t c =
    let some = in_nonempty c.args.grid.now c.args.area.now c.requires.inside in
    let several = sym c.is_single.ensures ∙ c.if-is_single.false in
    let at = c.in_ok-place.ensures.at in (
      omega (arith, child_less c.args.area.now c.in_ok-place.child c.in_ok-place.place some several at, c.decreases),
      (
        c.requires.times,
        (
          child_inside c.args.grid.now c.args.area.now c.in_ok-place.child (children_of c.args.area.now) c.in_ok-place.place
              c.requires.inside refl at,
          c.kid_of.ensures c.args.grid.now (time_in c.args.times.now) c.args.area.now c.in_ok-place.child some at c.requires.cell,
        ),
      ),
    )

pub returns-clause-some : goal.returns-clause-some
returns-clause-some t c =
    let some = in_nonempty c.args.grid.now c.args.area.now c.requires.inside in
    let several = sym c.is_single.ensures ∙ c.if-is_single.false in
    let found = c.in_ok-place.ensures in
    let at = placed (children_of c.args.area.now) c.in_ok-place.place c.in_ok-place.child found.at in (
      λ yes. Down c.args.area.now c.in_ok-place.child several at (c.span_below.ensures.some.0 yes),
      λ below. c.span_below.ensures.some.1
          (below_child c.args.area.now c.args.target.now c.in_ok-place.child some at found.held
          (λ same. both_ways c.is_same.result c.if-is_same.false (c.is_same.ensures.1 same)) below),
    )
