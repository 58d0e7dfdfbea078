use Rattle.std.proofs.Common.{◌≡◌, ◌++◌, map, take}
use Rattle.edt_score.specs.PairTerms.{terms_of}
use Rattle.edt_score.proofs.pairs.push_pairs.Given as goal

abbrev pub invariant-loop-other : goal.invariant-loop-other
invariant-loop-other l = l.pairs.items ≡ l.initial.pairs.items ++ map (terms_of l.first) (take l.other-index l.others)
