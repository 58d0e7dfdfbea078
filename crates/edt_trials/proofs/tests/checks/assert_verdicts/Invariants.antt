use Rattle.std.proofs.Common.{◌≡◌}
use Rattle.edt_trials.proofs.tests.checks.assert_verdicts.Given as goal

abbrev pub invariant-loop-place : goal.invariant-loop-place
invariant-loop-place g l = l.marks ≡ 4
