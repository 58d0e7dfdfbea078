use Rattle.std.proofs.Common.{◌≡◌, ◌++◌, All, length}
use Rattle.edt_score.specs.Inside.Pairs.{IsPairable}
use Rattle.edt_score.specs.PairTerms.{pairs_of}
use Rattle.edt_score.proofs.pairs.collect_pairs.Given as goal

abbrev pub invariant-loop-first : goal.invariant-loop-first
invariant-loop-first l = record {
  picks : All IsPairable l.rest;
  pairs : l.pairs.items ++ pairs_of l.rest ≡ pairs_of l.picks;
}

abbrev pub decreases-loop-first : goal.decreases-loop-first
decreases-loop-first l = length l.rest
