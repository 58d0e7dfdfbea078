-- The answer to a problem, by what a search finds.
use Rattle.std.proofs.Common.{◌≡◌, ◌∙◌, ◌==◌, ◌*◌, ◌≤◌, ◌⊎◌, inl, inr, ℕ, List, false, if◌then◌else◌, ap, sym, subst, arith, unwrap_or}
use Rattle.std.proofs.Math.Nat.{mul-le-mul}
use Rattle.std.proofs.lemmas.Bool.Decides.{nat_tests}
use Rattle.kernel_table.specs.declared.kernels.Shape.{Shape}
use Rattle.kernel_table.specs.declared.kernels.Shape.TheVariants.{Gauss}
use Rattle.node_boxes.specs.declared.node_box.NodeBox.{NodeBox}
use Rattle.node_boxes.specs.Grid.{GridSize, IsGrid, node_count}
use Rattle.node_boxes.specs.GridOrder.{place_of}
use Rattle.node_boxes.specs.Roots.{AreRoots}
use Rattle.edt_score.specs.declared.problem.ProblemPick.{ProblemPick}
use Rattle.edt_score.specs.Best.{IsFirstBest, best_score, first_best}
use Rattle.edt_score.specs.BoxBound.{box_bound}
use Rattle.edt_score.specs.Field.{FieldTimes, IsField, time_at}
use Rattle.edt_score.specs.Judging.{judged_score}
use Rattle.edt_score.specs.Score.{score_of}
use Rattle.edt_score.specs.Inside.BoxDomination.{box_bound-node}
use Rattle.edt_score.proofs.BestNodes.{best_score-is, first_best-is, IsFirstBest-exists}
use Rattle.octree_search.specs.Meanings.{IsLocatedAtBest, Says}
use Rattle.octree_search.specs.Near.{best_of}
use Rattle.octree_search.specs.declared.found.Found.{Found}
use Rattle.octree_search.specs.declared.found.Found.TheVariants.{Budget, NearLimit}
use Rattle.octree_search.specs.Outcomes.{LocatedValue, event_threshold, found_value, outcome_of}
use Rattle.octree_search.proofs.FewestBoxes.{fewer_than_twice}
use Rattle.octree_search.proofs.FieldScores.{first_by_scores}
use Rattle.octree_search.proofs.OutcomeMeanings.{near_few, outcome_says}
use Rattle.edt_top.specs.Solve.Text.{answer_line, no_fit_line, node_line, place_line}

-- a grid has a node
pub some_node : (g : GridSize) → IsGrid g → 1 ≤ node_count g
some_node g is =
    let plane : 1 * 1 ≤ g.x * g.y = mul-le-mul is.x_from is.y_from in
    let row : 1 ≤ g.x * g.y = omega (arith, plane) in
    let all : 1 * 1 ≤ g.x * g.y * g.z = mul-le-mul row is.z_from in
    omega (arith, all)

-- a node that scores is told with its place
scored : (line : List ℕ) (score : ℕ) → 1 ≤ score → line ≡ (if score == 0 then no_fit_line else line)
scored line score some = let test : (score == 0) ≡ false = grind (arith, nat_tests) in sym (ap (λ b. if b then no_fit_line else line) test)

-- the line of an event at its best node
pub located_line : (field : FieldTimes) (picks : List ProblemPick) (event : LocatedValue) → IsLocatedAtBest field.grid (box_bound Gauss field picks) event
    → place_line event.hyp (place_of field.grid event.hyp) event.score ≡ answer_line field picks
unfolding answer_line
located_line field picks event is =
    let nodes : ℕ = node_count field.grid in
    let score : ℕ → ℕ = score_of Gauss (time_at field) picks in
    let first : IsFirstBest nodes score event.hyp = first_by_scores Gauss field picks event.hyp is.first in
    let best : event.score ≡ best_score nodes score =
    is.score ∙ (box_bound-node Gauss field picks event.hyp is.first.inside ∙ sym (best_score-is nodes score event.hyp first)) in
    let here : event.hyp ≡ unwrap_or (first_best nodes score) 0 = sym (ap (λ o. unwrap_or o 0) (first_best-is nodes score event.hyp first)) in
    scored (place_line event.hyp (place_of field.grid event.hyp) event.score) event.score is.some
    ∙ (ap (λ n. node_line field.grid n event.score) here ∙ ap (node_line field.grid (unwrap_or (first_best nodes score) 0)) best)

-- the line where no node scores
pub fitless_line : (field : FieldTimes) (picks : List ProblemPick) → 1 ≤ node_count field.grid → best_of field.grid (box_bound Gauss field picks) ≡ 0
    → no_fit_line ≡ answer_line field picks
unfolding answer_line
fitless_line field picks some none =
    let nodes : ℕ = node_count field.grid in
    let judged : ℕ → ℕ = judged_score field.grid (box_bound Gauss field picks) in
    let score : ℕ → ℕ = score_of Gauss (time_at field) picks in
    let there = IsFirstBest-exists nodes judged some in
    let first : IsFirstBest nodes score there.0 = first_by_scores Gauss field picks there.0 there.1 in
    let best : best_score nodes score ≡ 0 =
    best_score-is nodes score there.0 first
    ∙ (sym (box_bound-node Gauss field picks there.0 there.1.inside) ∙ (sym (best_score-is nodes judged there.0 there.1) ∙ none)) in
    sym (ap (node_line field.grid (unwrap_or (first_best nodes score) 0)) best)

-- a search of a field's nodes for the best one, with a budget of twice as many boxes, has found this
pub record Searched (field : FieldTimes) (picks : List ProblemPick) (found : Found) : Type 0 where
  pub are : AreRoots field.grid field.roots
  pub some : 1 ≤ node_count field.grid
  pub few : node_count field.grid ≤ 65536
  pub is : found_value found ≡ outcome_of field.grid field.roots (box_bound Gauss field picks) 0 (2 * node_count field.grid)

pub searched : (field : FieldTimes) (picks : List ProblemPick) (found : Found) (grid : GridSize) (nodes : ℕ) (shape : Shape) → grid ≡ field.grid
    → IsField field → IsGrid grid → nodes ≡ node_count grid → node_count field.grid ≤ 65536 → shape ≡ Gauss
    → found_value found ≡ outcome_of field.grid field.roots (box_bound shape field picks) 0 (2 * nodes) → Searched field picks found
searched field picks found grid nodes shape grid_is is_field is_grid nodes_is few shape_is is = record {
  are = is_field.are_roots;
  some = some_node field.grid (subst IsGrid grid_is is_grid);
  few = few;
  is = is
      ∙ (ap (λ s. outcome_of field.grid field.roots (box_bound s field picks) 0 (2 * nodes)) shape_is
      ∙ ap (λ n. outcome_of field.grid field.roots (box_bound Gauss field picks) 0 (2 * n)) (nodes_is ∙ ap node_count grid_is));
}

-- what is found says so of the nodes
pub found_says : (field : FieldTimes) (picks : List ProblemPick) (found : Found) → Searched field picks found → (value : Found) → found ≡ value
    → Says field.grid field.roots (box_bound Gauss field picks) 0 (2 * node_count field.grid) (found_value value)
found_says field picks found s value same =
    subst (Says field.grid field.roots (box_bound Gauss field picks) 0 (2 * node_count field.grid)) (sym s.is ∙ ap found_value same)
    (outcome_says field.grid field.roots (box_bound Gauss field picks) 0 (2 * node_count field.grid) s.are s.some)

-- a budget of twice the nodes is never passed, and so few nodes are never too many near ones
pub never_else : (field : FieldTimes) (picks : List ProblemPick) (found : Found) → Searched field picks found → (found ≡ Budget) ⊎ (found ≡ NearLimit) → ⊥
never_else field picks found s (inl same) =
    let past = found_says field picks found s Budget same in
    let bound : NodeBox → ℕ = box_bound Gauss field picks in
    omega (arith, past, fewer_than_twice field.grid field.roots bound (event_threshold field.grid bound 0) s.are s.some)
never_else field picks found s (inr same) =
    let many = found_says field picks found s NearLimit same in
    let bound : NodeBox → ℕ = box_bound Gauss field picks in
    omega (arith, many, s.few, near_few field.grid bound (event_threshold field.grid bound 0))
