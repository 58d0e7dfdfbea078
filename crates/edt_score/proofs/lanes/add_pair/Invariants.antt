use Rattle.std.proofs.Common.{◌≡◌, ℕ, ◌+◌, ◌<◌, ◌≤◌, slice_index, length}
use Rattle.edt_score.specs.Inside.Ends.{ends_value}
use Rattle.edt_score.specs.Inside.Lanes.{lane}
use Rattle.edt_score.proofs.lanes.add_pair.Given as goal

abbrev pub invariant-loop-k : goal.invariant-loop-k
invariant-loop-k g l = record {
  long : length l.sums ≡ 8;
  done : (j : ℕ) → j < l.k → slice_index l.sums j
      ≡ slice_index l.fn.sums j + ends_value (g.V.Values.shape l.values) (lane j l.first) (lane j l.other) l.pair;
  bound : (j : ℕ) → j < l.k → slice_index l.sums j ≤ slice_index l.fn.sums j + 274877906944000;
  rest : (j : ℕ) → l.k ≤ j → slice_index l.sums j ≡ slice_index l.fn.sums j;
}
