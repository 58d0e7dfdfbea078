use Rattle.std.proofs.Common.{◌≡◌, ◌++◌, ◌+◌, length, map, take}
use Rattle.edt_score.specs.PairTerms.{terms_of}
use Rattle.edt_score.proofs.kept_pairs.write_row.Given as goal

abbrev pub invariant-loop-i : goal.invariant-loop-i
invariant-loop-i l = record {
  room : length l.room ≡ length l.initial.room;
  pairs : take (l.at + l.i) l.room ≡ take l.at l.initial.room ++ map (terms_of l.first) (take l.i l.others);
}
