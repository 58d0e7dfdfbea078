use Rattle.std.proofs.Common.{◌≡◌, map, take}
use Rattle.edt_score.specs.BoxBound.{box_spans}
use Rattle.edt_score.specs.Inside.Ends.{ends_of}
use Rattle.edt_score.proofs.ends.fill_box.Given as goal

abbrev pub invariant-loop-i : goal.invariant-loop-i
invariant-loop-i l = take l.i l.ends ≡ map (ends_of l.start (box_spans l.field l.area)) (take l.i l.picks)
