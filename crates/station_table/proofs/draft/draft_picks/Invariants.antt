use Rattle.std.proofs.Common.{take}
use Rattle.station_table.specs.Inside.Drafts.{Follows}
use Rattle.station_table.proofs.draft.draft_picks.Given as goal

abbrev pub invariant-loop-pick : goal.invariant-loop-pick
invariant-loop-pick l = Follows l.rules (take l.pick-index l.event.picks.items) l.met l.picks
