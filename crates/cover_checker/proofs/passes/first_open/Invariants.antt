use Rattle.std.proofs.Common.{◌≡◌, drop}
use Rattle.std.specs.List.{position_from}
use Rattle.cover_checker.proofs.VerdictSteps.{is_open}
use Rattle.cover_checker.proofs.passes.first_open.Given as goal

abbrev pub invariant-loop-i : goal.invariant-loop-i
invariant-loop-i l = position_from (is_open l.least) l.i (drop l.i l.boxes) ≡ position_from (is_open l.least) 0 l.boxes
