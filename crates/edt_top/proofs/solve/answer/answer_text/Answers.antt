use Rattle.std.proofs.Common.{◌≡◌, ◌∙◌, ◌<◌, ℕ, List, IfOk, ap, sym, subst}
use Rattle.std.specs.String.{string_bytes}
use Rattle.node_boxes.specs.Grid.{GridSize, node_count}
use Rattle.node_boxes.specs.GridOrder.{place_of}
use Rattle.edt_top.specs.Solve.Text.{place_line}
use Rattle.octree_search.specs.declared.found.Found.TheVariants.{Located, NoFit}
use Rattle.edt_top.proofs.SolveLaws.AnswerLines.{fitless_line, found_says, located_line, never_else, searched}
use Rattle.edt_top.proofs.solve.answer.answer_text.Goals as goal

pub place-ix-requires : goal.place-ix-requires
place-ix-requires c =
    let field = c.args.field.now in
    let picks = c.args.problem.now.picks.items in
    let s = searched field picks c.in_ok-event.field-0 c.grid-grid.result.now c.nodes.result _ c.grid-grid.ensures.value c.grid-grid.ensures.field c.nodes.ensures.grid
    c.nodes.ensures.value c.requires.few c.new-falloff.ensures.shape c.in_ok-event.ensures.value in
    let says = found_says field picks c.in_ok-event.field-0 s (Located c.in-Located.event) c.in-Located.is in
    subst (λ (g : GridSize). c.in-Located.event.hyp < node_count g) (sym c.grid-grid.ensures.value) says.first.inside

pub returns-in-Located : goal.returns-in-Located
returns-in-Located c =
    let field = c.args.field.now in
    let picks = c.args.problem.now.picks.items in
    let event = c.in-Located.event in
    let s = searched field picks c.in_ok-event.field-0 c.grid-grid.result.now c.nodes.result _ c.grid-grid.ensures.value c.grid-grid.ensures.field c.nodes.ensures.grid
    c.nodes.ensures.value c.requires.few c.new-falloff.ensures.shape c.in_ok-event.ensures.value in
    let says = found_says field picks c.in_ok-event.field-0 s (Located event) c.in-Located.is in
    let place : place_line event.hyp c.place-ix.result event.score ≡ place_line event.hyp (place_of field.grid event.hyp) event.score =
    ap (λ p. place_line event.hyp p event.score) (c.place-ix.ensures.value ∙ ap (λ (g : GridSize). place_of g event.hyp) c.grid-grid.ensures.value) in
    subst (λ (line : List ℕ). IfOk c.place_text.result (λ text. string_bytes text ≡ line)) (place ∙ located_line field picks _ says) c.place_text.ensures

pub returns-in-NoFit : goal.returns-in-NoFit
returns-in-NoFit c =
    let field = c.args.field.now in
    let picks = c.args.problem.now.picks.items in
    let s = searched field picks c.in_ok-event.field-0 c.grid-grid.result.now c.nodes.result _ c.grid-grid.ensures.value c.grid-grid.ensures.field c.nodes.ensures.grid
    c.nodes.ensures.value c.requires.few c.new-falloff.ensures.shape c.in_ok-event.ensures.value in
    let says = found_says field picks c.in_ok-event.field-0 s (NoFit c.in-NoFit.cover c.in-NoFit.met) c.in-NoFit.is in
    subst (λ (line : List ℕ). IfOk c.from_str.result (λ text. string_bytes text ≡ line)) (fitless_line field picks s.some says.0) c.from_str.ensures.ok

pub unreachable-requires : goal.unreachable-requires
unreachable-requires c =
    let field = c.args.field.now in
    let picks = c.args.problem.now.picks.items in
    let s = searched field picks c.in_ok-event.field-0 c.grid-grid.result.now c.nodes.result _ c.grid-grid.ensures.value c.grid-grid.ensures.field c.nodes.ensures.grid
    c.nodes.ensures.value c.requires.few c.new-falloff.ensures.shape c.in_ok-event.ensures.value in
    never_else field picks c.in_ok-event.field-0 s c.in-Budget.is
