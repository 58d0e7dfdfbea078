-- The verdict by a field, from that by a look-up in it.
use Rattle.std.proofs.Common.{◌≡◌, ℕ, ap, ◌∙◌, List}
use Rattle.std.proofs.Math.Path.{fun_ext}
use Rattle.kernel_table.specs.declared.kernels.Shape.{Shape}
use Rattle.node_boxes.specs.declared.node_box.NodeBox.{NodeBox}
use Rattle.node_boxes.specs.BoxNodes.{box_nodes}
use Rattle.node_boxes.specs.Grid.{GridSize}
use Rattle.edt_score.specs.declared.problem.ProblemPick.{ProblemPick}
use Rattle.edt_score.specs.Bound.{bound_over}
use Rattle.edt_score.specs.Field.{FieldTimes}
use Rattle.edt_score.specs.Look.{numbered, pick_time}
use Rattle.edt_score.proofs.NumberedPicks.{bound_over-numbered, score_of-numbered}
use Rattle.cover_certificate.specs.Blocks.{BlockValue}
use Rattle.cover_checker.specs.declared.verdict.Verdict.{Verdict}
use Rattle.cover_checker.specs.Scorings.{Scoring, field_scoring, scoring_of}
use Rattle.cover_checker.specs.Verdicts.{verdict_of}

scoring_same : (shape : Shape) (field : FieldTimes) (picks : List ProblemPick)
    → scoring_of shape field.grid (pick_time field picks) (numbered picks) ≡ field_scoring shape field picks
scoring_same shape field picks =
    ap (λ (score : ℕ → ℕ). record { grid = field.grid; score = score; bound = λ a. bound_over shape (pick_time field picks) (numbered picks) (box_nodes field.grid a) })
    (fun_ext (λ node. score_of-numbered shape field picks node))
    ∙ ap (λ (bound : NodeBox → ℕ). record { grid = field.grid; score = (field_scoring shape field picks).score; bound = bound })
    (fun_ext (λ a. bound_over-numbered shape field picks (box_nodes field.grid a)))

pub verdict_told : (shape s : Shape) (field f : FieldTimes) (g : GridSize) (picks ps qs : List ProblemPick) (margin : ℕ) (block : BlockValue) (result : Verdict)
    → s ≡ shape → f ≡ field → g ≡ field.grid → ps ≡ picks → qs ≡ picks → result ≡ verdict_of (scoring_of s g (pick_time f ps) (numbered qs)) margin block
    → result ≡ verdict_of (field_scoring shape field picks) margin block
verdict_told shape s field f g picks ps qs margin block result shape_is field_is grid_is first second told =
    told
    ∙ ap (λ (t : Shape). verdict_of (scoring_of t g (pick_time f ps) (numbered qs)) margin block) shape_is
    ∙ ap (λ (h : FieldTimes). verdict_of (scoring_of shape g (pick_time h ps) (numbered qs)) margin block) field_is
    ∙ ap (λ (h : GridSize). verdict_of (scoring_of shape h (pick_time field ps) (numbered qs)) margin block) grid_is
    ∙ ap (λ (rs : List ProblemPick). verdict_of (scoring_of shape field.grid (pick_time field rs) (numbered qs)) margin block) first
    ∙ ap (λ (rs : List ProblemPick). verdict_of (scoring_of shape field.grid (pick_time field picks) (numbered rs)) margin block) second
    ∙ ap (λ (scoring : Scoring). verdict_of scoring margin block) (scoring_same shape field picks)
