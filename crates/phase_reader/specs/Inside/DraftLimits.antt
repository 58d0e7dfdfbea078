-- The limits within which a draft of a phase file is.
use Rattle.std.specs.Prelude.{min, ◌+◌, ◌≤◌, length, All}
use Rattle.phase_reader.specs.declared.draft.PhaseDraft.{PhaseDraft}
use Rattle.phase_reader.specs.Limits.{IsPick, IsEvent, AreNearFirst}

-- the events of a draft are within their limits, and so are the picks after the last blank line
pub record IsDraft (draft : PhaseDraft) : Type 0 where
  pub count : length draft.events.items + min 1 (length draft.picks.items) ≤ 10000
  pub events : All IsEvent draft.events.items
  pub few : length draft.picks.items ≤ 4096
  pub picks : All IsPick draft.picks.items
  pub near : AreNearFirst draft.picks.items
