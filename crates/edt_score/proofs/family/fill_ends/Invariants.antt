use Rattle.std.proofs.Common.{◌≡◌, length}
use Rattle.edt_score.specs.Inside.Families.{AreEnds}
use Rattle.edt_score.proofs.family.fill_ends.Given as goal

abbrev pub invariant-loop-i : goal.invariant-loop-i
invariant-loop-i l = record {
  room : length l.ends ≡ length l.picks;
  done : AreEnds l.i l.start l.picks l.places l.spans l.ends;
}
