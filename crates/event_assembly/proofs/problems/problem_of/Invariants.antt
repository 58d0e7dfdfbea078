use Rattle.std.proofs.Common.{◌≡◌, map, take}
use Rattle.event_assembly.specs.Inside.Problems.{problem_pick}
use Rattle.event_assembly.proofs.problems.problem_of.Given as goal

abbrev pub invariant-loop-pick : goal.invariant-loop-pick
invariant-loop-pick l = l.picks.items ≡ map (problem_pick l.row_of_key) (take l.pick-index l.used)
