use Rattle.std.proofs.Common.{◌≤◌, All, sym, subst}
use Rattle.std.proofs.lemmas.List.Elements.{All-push}
use Rattle.node_boxes.specs.declared.limits.TheConstants.{GREATEST_TIME}
use Rattle.edt_score.specs.Demo.{time_over}
use Rattle.edt_score.proofs.DemoLists.{one_more}
use Rattle.edt_score.proofs.demo.times_over.Goals as goal

pub loop-square-preserved : goal.loop-square-preserved
loop-square-preserved c = record {
  times = one_more time_over c.loop-square.square c.loop-square.times.items _ c.time_over.result c.loop-square.invariant.times c.in_ok-push.ensures.items c.time_over.ensures.time;
  limit = subst (All (λ time. time ≤ GREATEST_TIME)) (sym c.in_ok-push.ensures.items) (All-push (λ time. time ≤ GREATEST_TIME) c.loop-square.times.items c.time_over.result c.loop-square.invariant.limit c.time_over.ensures.limit);
}
