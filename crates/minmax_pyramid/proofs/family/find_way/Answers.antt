use Rattle.std.proofs.Common.{◌∙◌, sym, arith}
use Rattle.minmax_pyramid.proofs.SmallBoxes.{splittable}
use Rattle.minmax_pyramid.proofs.FamilySteps.{going_more}
use Rattle.minmax_pyramid.proofs.family.find_way.Goals as goal

pub loop-len-preserved : goal.loop-len-preserved
loop-len-preserved c =
    let split = splittable c.loop-len.here c.loop-len.invariant.some (sym c.is_single.ensures ∙ c.if-is_single.false) in
    going_more c.args.roots.now c.args.root c.loop-len.len c.loop-len.places c.loop-len.here c.in_ok-place.child
    c.in_ok-place.place (omega arith) split c.in_ok-place.ensures.at c.loop-len.invariant
