use Rattle.std.proofs.Common.{refl}
use Rattle.phase_reader.specs.PhaseEvents.{closed_lines, open_lines}
use Rattle.phase_reader.proofs.draft.PhaseDraft.new.Goals as goal

pub returns-clause-follows : goal.returns-clause-follows
unfolding closed_lines open_lines
returns-clause-follows c = record { events = rw c.new.ensures.items refl; picks = c.new-2.ensures.items; passed = refl }
