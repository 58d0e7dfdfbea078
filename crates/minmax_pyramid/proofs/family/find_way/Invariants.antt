use Rattle.minmax_pyramid.proofs.FamilySteps.{IsGoing}
use Rattle.minmax_pyramid.proofs.family.find_way.Given as goal

abbrev pub invariant-loop-len : goal.invariant-loop-len
invariant-loop-len l = IsGoing l.roots l.root l.len l.places l.here
