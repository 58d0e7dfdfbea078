use Rattle.std.proofs.Common.{◌≡◌, length}
use Rattle.edt_score.proofs.kept_pairs.room_for_pairs.Given as goal

abbrev pub invariant-loop : goal.invariant-loop
invariant-loop l = length l.pairs.items ≡ l.counter
