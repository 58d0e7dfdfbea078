use Rattle.std.proofs.Common.{◌≡◌, ◌++◌, ◌+◌, All, length, take}
use Rattle.edt_score.specs.PairTerms.{pairs_of}
use Rattle.edt_score.specs.Inside.Pairs.{IsPairable, pair_count}
use Rattle.edt_score.proofs.kept_pairs.write_pairs.Given as goal

abbrev pub invariant-loop-first : goal.invariant-loop-first
invariant-loop-first l = record {
  picks : All IsPairable l.rest;
  room : length l.room ≡ 32640;
  count : l.at + pair_count (length l.rest) ≡ pair_count (length l.picks);
  pairs : take l.at l.room ++ pairs_of l.rest ≡ pairs_of l.picks;
}

abbrev pub decreases-loop-first : goal.decreases-loop-first
decreases-loop-first l = length l.rest
