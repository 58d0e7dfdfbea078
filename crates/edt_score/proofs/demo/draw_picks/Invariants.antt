use Rattle.std.proofs.Common.{◌≡◌, All, map}
use Rattle.std.specs.List.{range_with_len}
use Rattle.edt_score.specs.Demo.{state_after}
use Rattle.edt_score.specs.Inside.DemoParts.{IsEarlyPick, pick_from}
use Rattle.edt_score.proofs.demo.draw_picks.Given as goal

abbrev pub invariant-loop-row : goal.invariant-loop-row
invariant-loop-row l = record {
  picks : l.picks.items ≡ map (pick_from l.field l.source l.side l.fn.state) (range_with_len 0 l.row);
  early : All (IsEarlyPick l.field) l.picks.items;
  state : l.state ≡ state_after l.fn.state l.row;
}
