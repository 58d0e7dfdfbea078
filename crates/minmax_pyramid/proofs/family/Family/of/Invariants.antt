use Rattle.minmax_pyramid.proofs.FamilySteps.{IsCopying}
use Rattle.minmax_pyramid.proofs.family.Family.of.Given as goal

abbrev pub invariant-loop-place : goal.invariant-loop-place
invariant-loop-place l = IsCopying l.kids l.children l.place
