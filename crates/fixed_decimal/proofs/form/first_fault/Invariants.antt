use Rattle.std.proofs.Common.{◌≡◌, Some, take}
use Rattle.fixed_decimal.specs.declared.form.State.TheVariants.{Start}
use Rattle.fixed_decimal.specs.Inside.State.{run}
use Rattle.fixed_decimal.proofs.form.first_fault.Given as goal

abbrev pub invariant-loop-place : goal.invariant-loop-place
invariant-loop-place l = run Start (take l.place l.text) ≡ Some l.state
