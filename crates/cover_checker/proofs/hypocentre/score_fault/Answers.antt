use Rattle.std.proofs.Common.{rules, ◌≡◌, ◌==◌, ◌<◌, ◌∙◌, ap, sym, arith, subst, false, length}
use Rattle.node_boxes.specs.Boxes.{IsIn}
use Rattle.node_boxes.specs.BoxNodes.{box_nodes}
use Rattle.node_boxes.specs.Grid.{node_count}
use Rattle.cover_certificate.specs.Blocks.{located_value}
use Rattle.cover_checker.specs.Findings.{wrong_score}
use Rattle.cover_checker.specs.Inside.Cases.{case_grid, case_scoring}
use Rattle.cover_checker.proofs.BoundLaws.{node_box_inside, node_box_one}
use Rattle.cover_checker.proofs.VerdictSteps.{told_right, told_wrong}
use Rattle.cover_checker.proofs.hypocentre.score_fault.Goals as goal

pub box_bound-requires-clause-inside : goal.box_bound-requires-clause-inside
box_bound-requires-clause-inside g c =
    let grid = case_grid c.args.case.now in
    let below : c.args.event.now.hyp < node_count grid = search rules in
    subst (IsIn grid) (sym c.single_box-area.ensures) (node_box_inside grid c.args.event.now.hyp below)

pub box_bound-requires-clause-looks : goal.box_bound-requires-clause-looks
box_bound-requires-clause-looks g c =
    let grid = case_grid c.args.case.now in
    let below : c.args.event.now.hyp < node_count grid = search rules in
    let one = ap (λ a. length (box_nodes grid a)) c.single_box-area.ensures ∙ node_box_one grid c.args.event.now.hyp below in
    let room = c.requires.looks in
    rw one (omega arith)

pub returns-then-box_bound-event-clause-value : goal.returns-then-box_bound-event-clause-value
unfolding wrong_score
returns-then-box_bound-event-clause-value g c =
    let case = c.args.case.now in
    let scoring = case_scoring case (g.L.Look.times c.args.look.now) in
    let below : c.args.event.now.hyp < node_count (case_grid case) = search rules in
    let other : (c.box_bound.result == c.args.event.now.score) ≡ false = search rules in
    told_wrong case (g.L.Look.times c.args.look.now) (located_value c.args.event.now) c.box_bound.result below
    (c.box_bound.ensures.value ∙ ap scoring.bound c.single_box-area.ensures) other

pub returns-then-box_bound-event-clause-looked : goal.returns-then-box_bound-event-clause-looked
returns-then-box_bound-event-clause-looked g c =
    let grid = case_grid c.args.case.now in
    let below : c.args.event.now.hyp < node_count grid = search rules in
    let one = ap (λ a. length (box_nodes grid a)) c.single_box-area.ensures ∙ node_box_one grid c.args.event.now.hyp below in
    let looked = rw one at c.box_bound.ensures.looked in
    omega arith

pub returns-clause-value : goal.returns-clause-value
unfolding wrong_score
returns-clause-value g c =
    let case = c.args.case.now in
    let scoring = case_scoring case (g.L.Look.times c.args.look.now) in
    let below : c.args.event.now.hyp < node_count (case_grid case) = search rules in
    let same : c.box_bound.result ≡ c.args.event.now.score = search rules in
    told_right case (g.L.Look.times c.args.look.now) (located_value c.args.event.now) c.box_bound.result below
    (c.box_bound.ensures.value ∙ ap scoring.bound c.single_box-area.ensures) same

pub returns-clause-looked : goal.returns-clause-looked
returns-clause-looked g c =
    let grid = case_grid c.args.case.now in
    let below : c.args.event.now.hyp < node_count grid = search rules in
    let one = ap (λ a. length (box_nodes grid a)) c.single_box-area.ensures ∙ node_box_one grid c.args.event.now.hyp below in
    let looked = rw one at c.box_bound.ensures.looked in
    omega arith
