use Rattle.std.proofs.Common.{◌≡◌, Some, take, sym, ◌∙◌, arith}
use Rattle.std.proofs.lemmas.Grind.{common_steps}
use Rattle.fixed_decimal.specs.declared.form.State.TheVariants.{Start}
use Rattle.fixed_decimal.specs.Inside.State.{run}
use Rattle.fixed_decimal.proofs.LeavingLaws.{leaves_at, leaves_short, forms, run_more}
use Rattle.fixed_decimal.proofs.form.first_fault.Goals as goal

pub returns-in-None : goal.returns-in-None
returns-in-None c =
    leaves_at c.args.text.now c.loop-place.place c.loop-place.state c.loop-place-test.true c.loop-place.invariant
    (run_more c.args.text.now c.loop-place.place c.loop-place.state c.loop-place-test.true c.loop-place.invariant
    ∙ sym c.in-None.ensures)

pub loop-place-preserved : goal.loop-place-preserved
loop-place-preserved c =
    run_more c.args.text.now c.loop-place.place c.loop-place.state c.loop-place-test.true c.loop-place.invariant ∙ sym c.in-Some.ensures

pub returns-then-ends : goal.returns-then-ends
returns-then-ends c =
    let all : take c.loop-place.place c.args.text.now ≡ c.args.text.now = grind (arith, common_steps) in
    let whole : run Start c.args.text.now ≡ Some c.loop-place.state = rw all at c.loop-place.invariant in
    forms c.args.text.now c.loop-place.state whole (sym c.if-ends.ensures)

pub returns-else-ends : goal.returns-else-ends
returns-else-ends c =
    let all : take c.loop-place.place c.args.text.now ≡ c.args.text.now = grind (arith, common_steps) in
    let whole : run Start c.args.text.now ≡ Some c.loop-place.state = rw all at c.loop-place.invariant in
    leaves_short c.args.text.now c.loop-place.state whole (sym c.if-ends.ensures)
