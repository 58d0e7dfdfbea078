use Rattle.std.proofs.Common.{◌∙◌, sym, ◌≤◌, arith, length}
use Rattle.minmax_pyramid.proofs.SmallBoxes.{none_past}
use Rattle.minmax_pyramid.proofs.FamilySteps.{copying_more, copying_end}
use Rattle.minmax_pyramid.proofs.family.Family.of.Goals as goal
use Rattle.minmax_pyramid.proofs.family.Family.of.Goals.{else-loop-place-test, then-loop-place-test+in_default}

pub loop-place-preserved : goal.loop-place-preserved
loop-place-preserved c =
    copying_more c.children-kids.result c.loop-place.children c.loop-place.place c.in-Some.child
    (omega (arith, c.len-place-end.ensures.to)) (sym c.in-Some.ensures) c.loop-place.invariant

pub invariant_of-result : goal.invariant_of-result
invariant_of-result c =
    let kids = c.children-kids.result in
    let place = c.loop-place.place in
    let end : length kids ≤ place = elim c.loop-place-test.branch [
      | else-loop-place-test w ↦ omega (arith, w.loop-place-test.false, c.len-place-end.ensures.value)
      | then-loop-place-test+in_default w ↦ none_past kids place (sym w.get.ensures ∙ w.in_default.is)
    ] in
    let upto : place ≤ c.len.result = omega (arith, c.loop-place.auto.place-end, c.len-place-end.ensures.value, c.len.ensures.value) in (
      c.requires.few,
      record {
        split = c.requires.split;
        few = c.len.ensures.to;
        room = c.loop-place.invariant.room;
        are = copying_end kids c.loop-place.children place c.len.result end upto c.len.ensures.value c.loop-place.invariant
            ∙ c.children-kids.ensures;
      },
    )
