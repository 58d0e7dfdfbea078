use Rattle.std.proofs.Common.{◌≡◌, ◌∙◌, ◌≤◌, ℕ, List, IfOk, ap, sym, subst}
use Rattle.std.specs.String.{string_bytes}
use Rattle.node_boxes.specs.Grid.{IsGrid, node_count}
use Rattle.edt_score.specs.Demo.{cube}
use Rattle.octree_search.specs.Outcomes.{found_value}
use Rattle.edt_top.specs.Demo.Text.{demo_line}
use Rattle.edt_top.proofs.DemoLaws.{never_past, on_ok, outcome_is, roots_are, shortest, text_is}
use Rattle.edt_top.proofs.SolveLaws.AnswerLines.{some_node}
use Rattle.edt_top.proofs.demo.text.demo_text.Goals as goal

pub outcome_text-requires : goal.outcome_text-requires
outcome_text-requires c =
    let made = c.in_ok-demo.ensures in
    let cube_is : c.grid.result.now ≡ cube c.args.side = c.grid.ensures.value ∙ made.grid in
    let nodes : c.nodes-nodes.result ≡ node_count (cube c.args.side) = c.nodes-nodes.ensures.value ∙ ap node_count cube_is in
    let found = outcome_is c.args.seed c.args.side c.nodes-nodes.result c.in_ok-demo.demo.field c.in_ok-demo.demo.problem.picks.items _ (found_value c.in_ok-found.found)
    made.field made.grid made.picks c.new-falloff.ensures.shape nodes c.in_ok-found.ensures.value in
    let are = roots_are c.args.seed c.args.side c.in_ok-demo.demo.field made.field made.grid c.in_ok-found.ensures.field.are_roots in
    let some : 1 ≤ node_count (cube c.args.side) = some_node (cube c.args.side) (subst IsGrid cube_is c.nodes-nodes.ensures.grid) in
    record { within = λ past. never_past c.args.seed c.args.side are some (sym found ∙ past) }

pub returns-clause-text : goal.returns-clause-text
returns-clause-text c =
    let made = c.in_ok-demo.ensures in
    let cube_is : c.grid.result.now ≡ cube c.args.side = c.grid.ensures.value ∙ made.grid in
    let nodes : c.nodes-nodes.result ≡ node_count (cube c.args.side) = c.nodes-nodes.ensures.value ∙ ap node_count cube_is in
    let found = outcome_is c.args.seed c.args.side c.nodes-nodes.result c.in_ok-demo.demo.field c.in_ok-demo.demo.problem.picks.items _ (found_value c.in_ok-found.found)
    made.field made.grid made.picks c.new-falloff.ensures.shape nodes c.in_ok-found.ensures.value in
    let line = text_is c.args.seed c.args.side c.nodes-nodes.result c.in_ok-demo.demo.source (string_bytes c.in_ok-head.head) (found_value c.in_ok-found.found)
    (c.in_ok-head.ensures) nodes made.source found in
    let head : c.as_str.result.now ≡ string_bytes c.in_ok-head.head = c.as_str.ensures.value in
    subst (λ (wanted : List ℕ). IfOk c.outcome_text.result (λ text. string_bytes text ≡ wanted))
    (ap (λ h. demo_line h c.in_ok-demo.demo.source (found_value c.in_ok-found.found)) head ∙ line) c.outcome_text.ensures

pub returns-clause-covers : goal.returns-clause-covers
returns-clause-covers c =
    let made = c.in_ok-demo.ensures in
    on_ok _ c.outcome_text.result (shortest c.args.seed c.args.side (roots_are c.args.seed c.args.side c.in_ok-demo.demo.field made.field made.grid c.in_ok-found.ensures.field.are_roots))
