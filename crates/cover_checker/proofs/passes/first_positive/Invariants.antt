use Rattle.std.proofs.Common.{◌≡◌, drop}
use Rattle.std.specs.List.{position_from}
use Rattle.cover_checker.proofs.VerdictSteps.{is_positive}
use Rattle.cover_checker.proofs.passes.first_positive.Given as goal

abbrev pub invariant-loop-i : goal.invariant-loop-i
invariant-loop-i l = position_from is_positive l.i (drop l.i l.boxes) ≡ position_from is_positive 0 l.boxes
