use Rattle.std.proofs.Common.{◌≡◌, ℕ, take, get_or, length, false}
use Rattle.std.specs.List.{list_any}
use Rattle.control_reader.specs.ControlValues.{values_of}
use Rattle.event_assembly.specs.Inside.Numbering.{needs_key}
use Rattle.event_assembly.proofs.rows.mark_keys.Given as goal

abbrev pub invariant-loop-picks : goal.invariant-loop-picks
invariant-loop-picks l = record {
  long : length l.marks.items ≡ l.keys;
  marks : (k : ℕ) → get_or l.marks.items k false ≡ list_any (λ picks. needs_key (values_of l.control) k picks.used.items) (take l.picks-index l.decided);
}
