use Rattle.std.proofs.Common.{◌≡◌}
use Rattle.event_trials.proofs.used_picks.decided_by.Given as goal

abbrev pub invariant-loop-event : goal.invariant-loop-event
invariant-loop-event l = l.table ≡ l.fn.table
