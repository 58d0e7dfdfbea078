use Rattle.std.proofs.Common.{◌≡◌, ◌∙◌, ℕ, ◌*◌, ◌/◌, ◌<◌, ◌≤◌, min, arith, ap, refl, subst, Option, Some, IfSome}
use Rattle.std.proofs.Math.Nat.{mul-le-mul_left, div-mul-le_self}
use Rattle.node_boxes.specs.Grid.{GridSize, grid_size}
use Rattle.edt_top.specs.Solve.ProblemFile.{Words, number_at, picks_in, nodes_in}
use Rattle.edt_top.specs.Inside.ProblemCursor.{Reading}
use Rattle.edt_top.specs.Inside.ProblemParts.{IsHead}
use Rattle.edt_top.proofs.SolveLaws.ProblemSteps.{moved_to}
use Rattle.edt_top.proofs.solve.problem_file.read_head.Goals as goal

-- a product of three numbers from 1 is no 0
product : (x y z : ℕ) → 1 ≤ x → 1 ≤ y → 1 ≤ z → 0 < x * y * z
product x y z some_x some_y some_z = grind arith

pub nonzero_div-x-2 : goal.nonzero_div-x-2
nonzero_div-x-2 c = product c.in_ok-x.x c.in_ok-y.y c.in_ok-z.z c.in_ok-x.ensures.least c.in_ok-y.ensures.least c.in_ok-z.ensures.least

-- a product within its limit
bounded : (most limit d k : ℕ) → k ≤ min most (limit / d) → d * k ≤ limit
bounded most limit d k h =
    let few : k ≤ limit / d = omega arith in
    let up : d * k ≤ d * (limit / d) = mul-le-mul_left d few in
    let down : limit / d * d ≤ limit = div-mul-le_self limit d in
    omega arith

-- the grid that was made
made : (grid size : GridSize) (made_of : Option GridSize) → made_of ≡ Some grid → IfSome made_of (λ g. g ≡ size) → grid ≡ size
made grid size made_of is ok = subst (λ o. IfSome o (λ g. g ≡ size)) is ok

-- the numbers before the picks, and their limits
head_is : (words : Words) (x y z picks : ℕ) (grid : GridSize) → x ≡ number_at words 2 → y ≡ number_at words 3 → z ≡ number_at words 4
    → picks ≡ picks_in words → grid ≡ grid_size x y z → 0 < x * y * z → 2 ≤ picks → z ≤ min 4096 (65536 / (x * y)) → picks ≤ min 256 (1000000 / (x * y * z))
    → IsHead words (record { grid = grid; picks = picks })
head_is words x y z picks grid x_is y_is z_is picks_is grid_is some_node some z_most picks_most =
    let nodes : x * y * z ≡ nodes_in words = ap (λ k. k * y * z) x_is ∙ (ap (λ k. number_at words 2 * k * z) y_is ∙ ap (λ k. number_at words 2 * number_at words 3 * k) z_is) in
    let few_nodes : x * y * z ≤ 65536 = bounded 4096 65536 (x * y) z z_most in
    let few_times : x * y * z * picks ≤ 1000000 = bounded 256 1000000 (x * y * z) picks picks_most in
    let times : nodes_in words * picks_in words ≤ 1000000 = subst (λ n. n * picks_in words ≤ 1000000) nodes (subst (λ p. x * y * z * p ≤ 1000000) picks_is few_times) in
    record {
      grid = grid_is ∙ (ap (λ k. grid_size k y z) x_is ∙ (ap (λ k. grid_size (number_at words 2) k z) y_is ∙ ap (grid_size (number_at words 2) (number_at words 3)) z_is));
      picks = picks_is;
      some = subst (λ p. 2 ≤ p) picks_is some;
      few = subst (λ p. p ≤ 256) picks_is (omega arith);
      some_node = subst (λ n. 0 < n) nodes some_node;
      nodes = subst (λ n. n ≤ 65536) nodes few_nodes;
      times = omega arith;
    }

pub returns-clause-head : goal.returns-clause-head
returns-clause-head c =
    let words : Words = c.args.cursor.now.words in
    let number : Reading → ℕ = λ r. number_at r.words r.place in
    let r0 : c.args.cursor.now ≡ record { words = words; place = 0 } = ap (λ k. record { words = words; place = k }) c.requires.start in
    let r1 = moved_to c.args.cursor.now c.fixed.new.self words 0 1 r0 c.fixed.ensures.moved refl in
    let r2 = moved_to c.fixed.new.self c.fixed-2.new.self words 1 2 r1 c.fixed-2.ensures.moved refl in
    let r3 = moved_to c.fixed-2.new.self c.whole.new.self words 2 3 r2 c.whole.ensures.moved refl in
    let r4 = moved_to c.whole.new.self c.whole-2.new.self words 3 4 r3 c.whole-2.ensures.moved refl in
    let r5 = moved_to c.whole-2.new.self c.whole-3.new.self words 4 5 r4 c.whole-3.ensures.moved refl in
    head_is words c.in_ok-x.x c.in_ok-y.y c.in_ok-z.z c.in_ok-picks.picks c.unwrap-grid.result
    (c.in_ok-x.ensures.value ∙ ap number r2) (c.in_ok-y.ensures.value ∙ ap number r3) (c.in_ok-z.ensures.value ∙ ap number r4)
    (c.in_ok-picks.ensures.value ∙ ap number r5) (made c.unwrap-grid.result _ c.new.result c.unwrap-grid.ensures c.new.ensures.value)
    (product c.in_ok-x.x c.in_ok-y.y c.in_ok-z.z c.in_ok-x.ensures.least c.in_ok-y.ensures.least c.in_ok-z.ensures.least)
    c.in_ok-picks.ensures.least (subst (λ n. c.in_ok-z.z ≤ n) c.min.ensures c.in_ok-z.ensures.greatest)
    (subst (λ n. c.in_ok-picks.picks ≤ n) c.min-2.ensures c.in_ok-picks.ensures.greatest)
