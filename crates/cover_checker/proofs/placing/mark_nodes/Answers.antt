use Rattle.std.proofs.Common.{rules, ◌≡◌, ◌∷◌, ◌<◌, ◌∙◌, ap, sym, arith, subst, All, AllPairs, get_or, length}
use Rattle.std.specs.List.{find}
use Rattle.std.proofs.lemmas.List.Elements.{All-rest}
use Rattle.cover_checker.proofs.PlacingSteps.{find_step, is_marked, mark_after, mark_step}
use Rattle.cover_checker.proofs.Searches.{pairs-tail}
use Rattle.cover_checker.proofs.placing.mark_nodes.Goals as goal

pub loop-node-preserved : goal.loop-node-preserved
loop-node-preserved c =
    let before = c.loop-node.invariant in
    let marks = c.loop-node.marks in
    let node = c.in-Some.node in
    let rest = c.next.new.self in
    let mark = c.args.mark in
    let is : c.loop-node.nodes ≡ node ∷ rest = c.in-Some.ensures in
    let free : get_or marks node 0 ≡ 0 = search rules in
    let kept = before.kept in
    let within : node < length marks = let inside = subst (All (λ n. n < length c.args.marks.now)) is before.inside 0 0 (omega arith) in omega arith in
    let order = subst (AllPairs ◌<◌) is before.order in
    record {
      inside = All-rest (λ n. n < length c.args.marks.now) node rest c.loop-node.nodes is before.inside;
      order = pairs-tail node rest order;
      kept = search rules;
      first = find_step marks node mark rest free order ∙ ap (find (is_marked marks)) (sym is) ∙ before.first;
      marked = λ k below. mark_step marks node mark rest k within ∙ ap (λ ns. mark_after ns mark marks k) (sym is) ∙ before.marked k below;
    }
