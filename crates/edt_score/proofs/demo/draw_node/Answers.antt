use Rattle.std.proofs.Common.{◌≡◌, ◌∙◌, ℕ, ◌%◌, ap, sym}
use Rattle.node_boxes.specs.GridOrder.{node_number}
use Rattle.edt_score.specs.Demo.{draw, draw_at, next_state, state_after}
use Rattle.edt_score.proofs.DemoDraws.{no_draws, one_draw}
use Rattle.edt_score.proofs.demo.draw_node.Goals as goal

-- a number below an end that a draw gives
drawn : (seed k state end most number : ℕ) → number ≡ draw state % end → state ≡ state_after seed k → end ≡ most → number ≡ draw_at seed k % most
drawn seed k state end most number is at same = is ∙ (ap (λ s. draw s % end) at ∙ ap (λ n. draw_at seed k % n) same)

-- the state after one more draw
moved : (seed k state more : ℕ) → more ≡ next_state state → state ≡ state_after seed k → more ≡ next_state (state_after seed k)
moved seed k state more is at = is ∙ ap next_state at

pub returns-clause-node : goal.returns-clause-node
returns-clause-node c =
    let seed : ℕ = c.args.state.now in
    let grid = c.args.grid.now in
    let first : c.draw_below-x.new.state ≡ state_after seed 1 = moved seed 0 _ _ c.draw_below-x.ensures.state (sym (no_draws seed)) ∙ one_draw seed 0 in
    let second : c.draw_below-y.new.state ≡ state_after seed 2 = moved seed 1 _ _ c.draw_below-y.ensures.state first ∙ one_draw seed 1 in
    let x : c.draw_below-x.result ≡ draw_at seed 0 % grid.x = drawn seed 0 seed c.x.result grid.x _ c.draw_below-x.ensures.answer (sym (no_draws seed)) c.x.ensures.value in
    let y : c.draw_below-y.result ≡ draw_at seed 1 % grid.y = drawn seed 1 _ c.y.result grid.y _ c.draw_below-y.ensures.answer first c.y.ensures.value in
    let z : c.draw_below-z.result ≡ draw_at seed 2 % grid.z = drawn seed 2 _ c.z.result grid.z _ c.draw_below-z.ensures.answer second c.z.ensures.value in
    c.node_number.ensures.value ∙ (ap (λ n. node_number grid n c.draw_below-y.result c.draw_below-z.result) x
    ∙ (ap (λ n. node_number grid (draw_at seed 0 % grid.x) n c.draw_below-z.result) y ∙ ap (λ n. node_number grid (draw_at seed 0 % grid.x) (draw_at seed 1 % grid.y) n) z))

pub returns-clause-state : goal.returns-clause-state
returns-clause-state c =
    let seed : ℕ = c.args.state.now in
    let first : c.draw_below-x.new.state ≡ state_after seed 1 = moved seed 0 _ _ c.draw_below-x.ensures.state (sym (no_draws seed)) ∙ one_draw seed 0 in
    let second : c.draw_below-y.new.state ≡ state_after seed 2 = moved seed 1 _ _ c.draw_below-y.ensures.state first ∙ one_draw seed 1 in
    moved seed 2 _ _ c.draw_below-z.ensures.state second ∙ one_draw seed 2
