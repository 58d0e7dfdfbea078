use Rattle.std.proofs.Common.{◌≡◌, length, All, pos}
use Rattle.phase_reader.specs.Limits.{IsPick}
use Rattle.phase_reader.specs.declared.phases.Pick.{Pick}
use Rattle.event_trials.proofs.used_picks.event_of.Given as goal

abbrev pub invariant-loop-row : goal.invariant-loop-row
invariant-loop-row l = record {
  count : length l.picks.items ≡ l.row-index;
  good : All IsPick l.picks.items;
  still : All (λ (pick : Pick). pick.time ≡ pos 0) l.picks.items;
}
