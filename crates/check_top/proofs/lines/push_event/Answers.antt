use Rattle.std.proofs.Common.{◌≡◌, [], ◌∷◌, ◌++◌, length, refl, ◌∙◌, ap, append_assoc, rules}
use Rattle.std.specs.Prelude.{decimal}
use Rattle.std.proofs.lemmas.Result.{on_ok_weaker}
use Rattle.check_top.specs.CheckLines.{node_words}
use Rattle.check_top.specs.Inside.Lines.{spaced}
use Rattle.check_top.proofs.LineSteps.{one_more}
use Rattle.check_top.proofs.lines.push_event.Goals as goal

pub returns : goal.returns
returns c =
    let out = c.args.out.now.items in
    let event = c.args.event.now in
    let node = node_words c.args.frame.now event.hyp in
    let one = one_more out _ c.push_count.new.out.items node (decimal event.score) _ c.in_ok-push_node.ensures c.in_ok-push_count.ensures refl in
    let count : c.len.result ≡ length event.near.items = search rules in
    on_ok_weaker c.push_count-2.result
    (λ last. one_more out _ c.push_count-2.new.out.items _ (decimal (length event.near.items)) _ one last (ap decimal count)
    ∙ ap (λ words. out ++ spaced words) (append_assoc node (decimal event.score ∷ []) (decimal (length event.near.items) ∷ [])))
    c.push_count-2.ensures
