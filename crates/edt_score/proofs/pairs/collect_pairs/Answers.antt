use Rattle.std.proofs.Common.{append_assoc}
use Rattle.std.proofs.lemmas.List.Elements.{All-rest}
use Rattle.edt_score.specs.Inside.Pairs.{IsPairable}
use Rattle.edt_score.proofs.pairs.collect_pairs.Goals as goal

pub loop-first-preserved : goal.loop-first-preserved
loop-first-preserved c =
    let rest_is = c.in-Some.ensures.cases.0 in
    record {
      picks = All-rest IsPairable c.in-Some.first.now c.in-Some.others.now c.loop-first.rest.now rest_is c.loop-first.invariant.picks;
      pairs = rw (c.in_ok-push_pairs.ensures, append_assoc) (rw rest_is at c.loop-first.invariant.pairs);
    }
