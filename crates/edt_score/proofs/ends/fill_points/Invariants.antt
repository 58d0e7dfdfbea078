use Rattle.std.proofs.Common.{◌≡◌, map, take}
use Rattle.edt_score.specs.Field.{time_at}
use Rattle.edt_score.specs.Inside.Ends.{ends_of, point}
use Rattle.edt_score.proofs.ends.fill_points.Given as goal

abbrev pub invariant-loop-i : goal.invariant-loop-i
invariant-loop-i l = take l.i l.ends ≡ map (ends_of l.start (point (time_at l.field) l.node)) (take l.i l.picks)
