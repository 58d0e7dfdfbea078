use Rattle.std.proofs.Common.{◌≡◌, map, take}
use Rattle.edt_score.specs.KeptPairs.{span_at}
use Rattle.edt_score.specs.Look.{numbered}
use Rattle.edt_score.specs.Inside.Ends.{ends_of}
use Rattle.edt_score.proofs.kept_pairs.fill_spans.Given as goal

abbrev pub invariant-loop-i : goal.invariant-loop-i
invariant-loop-i l = take l.i l.ends ≡ map (ends_of l.start (span_at l.spans)) (take l.i (numbered l.picks))
