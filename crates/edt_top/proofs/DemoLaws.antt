-- The text of a run that makes a problem from a number, by what a search finds.
use Rattle.std.proofs.Common.{◌≡◌, ◌∙◌, ◌*◌, ◌≤◌, ℕ, List, Option, None, Some, IfErr, IfSome, Result, Ok, Err, true, false, ap, sym, subst, arith}
use Rattle.std.specs.Prelude.{OnOk}
use Rattle.kernel_table.specs.declared.kernels.Shape.{Shape}
use Rattle.kernel_table.specs.declared.kernels.Shape.TheVariants.{Gauss}
use Rattle.node_boxes.specs.declared.node_box.NodeBox.{NodeBox}
use Rattle.node_boxes.specs.Grid.{GridSize, node_count}
use Rattle.node_boxes.specs.Roots.{AreRoots}
use Rattle.edt_score.specs.declared.problem.ProblemPick.{ProblemPick}
use Rattle.edt_score.specs.BoxBound.{box_bound}
use Rattle.edt_score.specs.Demo.{cube, demo_field, demo_picks, demo_source}
use Rattle.edt_score.specs.Field.{FieldTimes}
use Rattle.octree_search.specs.Meanings.{Says}
use Rattle.octree_search.specs.Outcomes.{Outcome, PassesBudget, event_threshold, outcome_of}
use Rattle.octree_search.proofs.FewestBoxes.{fewer_than_twice}
use Rattle.octree_search.proofs.OutcomeMeanings.{outcome_says, outcome_shortest}
use Rattle.edt_outside.specs.Shelves.{Files}
use Rattle.edt_top.specs.declared.refusals.RunRefusal.{RunRefusal}
use Rattle.edt_top.specs.Commands.{Demo}
use Rattle.edt_top.specs.Demo.Text.{demo_bound, demo_head, demo_line, demo_outcome, demo_text}
use Rattle.edt_top.specs.RunEndings.{run_ending}
use Rattle.edt_top.specs.RunRefusals.{is_untold_run}
use Rattle.edt_top.specs.Runs.{HasShortestDemo}

-- what is found over the field that was made is the outcome of the seed
pub outcome_is : (seed side nodes : ℕ) (field : FieldTimes) (picks : List ProblemPick) (shape : Shape) (found : Outcome)
    → field ≡ demo_field seed side → field.grid ≡ cube side → picks ≡ demo_picks seed side → shape ≡ Gauss → nodes ≡ node_count (cube side)
    → found ≡ outcome_of field.grid field.roots (box_bound shape field picks) 100 (2 * nodes) → found ≡ demo_outcome seed side
unfolding demo_outcome
outcome_is seed side nodes field picks shape found field_is grid_is picks_are shape_is nodes_are is =
    is ∙ (ap (λ (n : ℕ). outcome_of field.grid field.roots (box_bound shape field picks) 100 (2 * n)) nodes_are
    ∙ (ap (λ (g : GridSize). outcome_of g field.roots (box_bound shape field picks) 100 (2 * node_count (cube side))) grid_is
    ∙ (ap (λ (s : Shape). outcome_of (cube side) field.roots (box_bound s field picks) 100 (2 * node_count (cube side))) shape_is
    ∙ (ap (λ (ps : List ProblemPick). outcome_of (cube side) field.roots (box_bound Gauss field ps) 100 (2 * node_count (cube side))) picks_are
    ∙ ap (λ (f : FieldTimes). outcome_of (cube side) f.roots (box_bound Gauss f (demo_picks seed side)) 100 (2 * node_count (cube side))) field_is))))

-- its line is the text
pub text_is : (seed side nodes source : ℕ) (head : List ℕ) (found : Outcome) → head ≡ demo_head seed side nodes → nodes ≡ node_count (cube side)
    → source ≡ demo_source seed side → found ≡ demo_outcome seed side → demo_line head source found ≡ demo_text seed side
unfolding demo_text
text_is seed side nodes source head found head_is nodes_are source_is found_is =
    ap (λ h. demo_line h source found) (head_is ∙ ap (demo_head seed side) nodes_are)
    ∙ (ap (λ s. demo_line (demo_head seed side (node_count (cube side))) s found) source_is
    ∙ ap (demo_line (demo_head seed side (node_count (cube side))) (demo_source seed side)) found_is)

-- the roots of the field that was made are those of the cube
pub roots_are : (seed side : ℕ) (field : FieldTimes) → field ≡ demo_field seed side → field.grid ≡ cube side → AreRoots field.grid field.roots
    → AreRoots (cube side) (demo_field seed side).roots
roots_are seed side field field_is grid_is are =
    subst (λ (f : FieldTimes). AreRoots (cube side) f.roots) field_is (subst (λ (g : GridSize). AreRoots g field.roots) grid_is are)

-- a budget of twice the nodes is never passed
pub never_past : (seed side : ℕ) → AreRoots (cube side) (demo_field seed side).roots → 1 ≤ node_count (cube side) → demo_outcome seed side ≡ PassesBudget → ⊥
unfolding demo_outcome
never_past seed side are some past =
    let roots : List NodeBox = (demo_field seed side).roots in
    let bound : NodeBox → ℕ = demo_bound seed side in
    let says = outcome_says (cube side) roots bound 100 (2 * node_count (cube side)) are some in
    let met = subst (Says (cube side) roots bound 100 (2 * node_count (cube side))) past says in
    omega (arith, met, fewer_than_twice (cube side) roots bound (event_threshold (cube side) bound 100) are some)

-- the cover is the shortest
pub shortest : (seed side : ℕ) → AreRoots (cube side) (demo_field seed side).roots → HasShortestDemo seed side
unfolding demo_outcome
shortest seed side are = outcome_shortest (cube side) (demo_field seed side).roots (demo_bound seed side) 100 (2 * node_count (cube side)) are

-- what holds at all events holds with a result
pub on_ok : {T E : Type 0} (P : Type 0) (r : Result T E) → P → OnOk r P
on_ok P (Ok value) holds = holds
on_ok P (Err error) holds = tt

-- no files tell of its refusals
pub untold_refused : (F : Option Files) (seed side : ℕ) (ended : Result (Unit {0}) RunRefusal) → IfErr ended (λ refusal. is_untold_run refusal ≡ true)
    → IfSome F (λ files. IfErr ended (λ refusal. is_untold_run refusal ≡ false → run_ending files (Demo seed side) ≡ Err refusal))
untold_refused None seed side ended untold = tt
untold_refused (Some files) seed side (Ok done) untold = tt
untold_refused (Some files) seed side (Err refusal) untold = λ free. let no : true ≡ false = sym untold ∙ free in absurd (cc no)
