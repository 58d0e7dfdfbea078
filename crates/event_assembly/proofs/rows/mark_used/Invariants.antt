use Rattle.std.proofs.Common.{◌≡◌, ℕ, take, get_or, false}
use Rattle.std.specs.Prelude.{◌||◌}
use Rattle.event_assembly.specs.Inside.Numbering.{has_key}
use Rattle.event_assembly.proofs.rows.mark_used.Given as goal

abbrev pub invariant-loop-pick : goal.invariant-loop-pick
invariant-loop-pick l = (k : ℕ) → get_or l.marks k false ≡ (get_or l.initial.marks k false || has_key k (take l.pick-index l.used))
