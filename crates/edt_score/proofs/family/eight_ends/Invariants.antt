use Rattle.std.proofs.Common.{◌≡◌, ℕ, ◌<◌, length, slice_index_or}
use Rattle.edt_score.specs.Inside.Ends.{ends_within}
use Rattle.edt_score.specs.Inside.Families.{no_span}
use Rattle.edt_score.specs.Inside.Lanes.{lane}
use Rattle.edt_score.proofs.family.eight_ends.Given as goal

abbrev pub invariant-loop-k : goal.invariant-loop-k
invariant-loop-k l = record {
  long : length l.ends ≡ 8;
  done : (j : ℕ) → j < l.k → lane j l.ends ≡ ends_within l.start l.observed (slice_index_or l.spans j no_span);
}
