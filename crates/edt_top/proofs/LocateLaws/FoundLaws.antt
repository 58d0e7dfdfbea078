-- What was found of an event, as its block tells it.
use Rattle.std.proofs.Common.{◌≡◌, ◌≤◌, ◌-◌, ◌+◌, ◌<◌, ℕ, List, Option, Some, None, arith, refl, sym, ◌∙◌, ap, subst, length, map, get_or}
use denote.Ref.{Bor}
use Rattle.std.specs.Prelude.{IfSome, is_some, slice_get, unwrap_or}
use Rattle.std.specs.Option.{option_copied, option_map}
use Rattle.std.proofs.lemmas.List.{get_or-map}
use Rattle.std.proofs.lemmas.Option.{unwrap_or-slice_get}
use Rattle.control_reader.specs.ControlValues.{ControlValues, values_of}
use Rattle.edt_score.specs.BoxBound.{box_bound}
use Rattle.edt_score.specs.Field.{FieldTimes}
use Rattle.edt_score.specs.declared.problem.ProblemPick.{ProblemPick}
use Rattle.octree_search.specs.declared.found.Found.{Found}
use Rattle.event_assembly.specs.declared.assembly.Assembly.{Assembly}
use Rattle.event_assembly.specs.declared.assembly.Prepared.{Prepared}
use Rattle.event_assembly.specs.AssemblyValues.{EventCase, EventValues, Ready, Few, Many, assembly_value, event_value}
use Rattle.node_boxes.specs.declared.frame.Frame.{Frame}
use Rattle.node_boxes.specs.declared.node_box.NodeBox.{NodeBox}
use Rattle.node_boxes.specs.Grid.{GridSize, IsGrid, node_count}
use Rattle.node_boxes.specs.Roots.{AreRoots}
use Rattle.octree_search.specs.Meanings.{Says}
use Rattle.octree_search.specs.Outcomes.{Outcome, IsLocated, FitsNowhere, PassesBudget, PassesNearLimit, found_value, outcome_of}
use Rattle.octree_search.proofs.OutcomeMeanings.{outcome_says}
use Rattle.location_report.specs.Reports.{IsTellable, event_at, has_problem, no_event}
use Rattle.location_report.specs.Texts.{event_block, outcome_of_case, outcome_of_picks}
use Rattle.run_input.specs.declared.input.RunInput.{RunInput}
use Rattle.run_input.specs.Inputs.{IsInput}
use Rattle.edt_top.proofs.SolveLaws.AnswerLines.{some_node}

-- what an outcome says can be told in a block
tellable : (g : GridSize) (roots : List NodeBox) (bound : NodeBox → ℕ) (margin budget : ℕ) → node_count g ≤ 2000000 → (found : Outcome)
    → Says g roots bound margin budget found → IsTellable g found
tellable g roots bound margin budget few (IsLocated event) says = record {
  node = says.first.inside;
  valid = record { scored = says.some; near = says.near; boxes = omega (arith, says.boxes, few) };
}
tellable g roots bound margin budget few (FitsNowhere boxes met) says = record { node = tt; valid = omega (arith, says.1, few) }
tellable g roots bound margin budget few PassesBudget says = record { node = tt; valid = tt }
tellable g roots bound margin budget few PassesNearLimit says = record { node = tt; valid = tt }

pub outcome_tellable : (g : GridSize) (roots : List NodeBox) (bound : NodeBox → ℕ) (margin budget : ℕ) → AreRoots g roots → 1 ≤ node_count g
    → node_count g ≤ 2000000 → (found : Outcome) → found ≡ outcome_of g roots bound margin budget → IsTellable g found
outcome_tellable g roots bound margin budget are some few found is =
    tellable g roots bound margin budget few found (subst (Says g roots bound margin budget) (sym is) (outcome_says g roots bound margin budget are some))

-- the outcome of picks of an input can be told in a block
pub picks_tellable : (input : RunInput) → IsInput input → AreRoots input.assembly.field.grid input.assembly.field.roots → (picks : List ProblemPick)
    → (found : Outcome) → found ≡ outcome_of_picks (values_of input.control) input.assembly.field picks → IsTellable input.assembly.frame.grid found
picks_tellable input is are picks found found_is =
    let field : FieldTimes = input.assembly.field in
    let grid : field.grid ≡ input.control.frame.grid = is.assembled.grid in
    let frame : field.grid ≡ input.assembly.frame.grid = grid ∙ sym (ap (λ (f : Frame). f.grid) is.assembled.frame) in
    let is_grid : IsGrid field.grid = subst IsGrid (sym grid) is.control.grid in
    subst (λ (size : GridSize). IsTellable size found) frame
    (outcome_tellable field.grid field.roots (box_bound input.control.shape field picks) input.control.margin input.control.budget are
    (some_node field.grid is_grid) is_grid.nodes found found_is)

-- the event of a number stands one place before it
pub event_at_place : (assembly : Assembly) (i : ℕ) → event_at assembly (i + 1) ≡ get_or (map event_value assembly.events.items) i no_event
event_at_place assembly i =
    let values : List EventValues = map event_value assembly.events.items in
    let at : i + 1 - 1 ≡ i = omega arith in
    ap (λ k. unwrap_or (slice_get values k) no_event) at ∙ unwrap_or-slice_get values i no_event

pub event_is : (assembly : Assembly) (i : ℕ) (event : Prepared) → i < length assembly.events.items → event ≡ get_or assembly.events.items i event
    → event_value event ≡ event_at assembly (i + 1)
event_is assembly i event within is =
    ap event_value is ∙ (sym (get_or-map event_value assembly.events.items i event no_event within) ∙ sym (event_at_place assembly i))

-- an event has an outcome where it has a problem
some_outcome : (control : ControlValues) (field : FieldTimes) (case : EventCase) → is_some (outcome_of_case control field case) ≡ has_problem case
some_outcome control field (Ready picks) = refl
some_outcome control field Few = refl
some_outcome control field Many = refl

some_found : (found : Option Found) → is_some (option_map found_value found) ≡ is_some found
some_found None = refl
some_found (Some f) = refl

pub some_where_problem : (control : ControlValues) (field : FieldTimes) (case : EventCase) (found : Option Found)
    → option_map found_value found ≡ outcome_of_case control field case → is_some found ≡ has_problem case
some_where_problem control field case found is = sym (some_found found) ∙ (ap is_some is ∙ some_outcome control field case)

-- what was found, lent
pub lent_outcome : (lent : Option (Bor Found)) (found : Option Found) → option_copied lent ≡ found
    → option_map (λ (f : Bor Found). found_value f.now) lent ≡ option_map found_value found
lent_outcome None found is = ap (option_map found_value) is
lent_outcome (Some f) found is = ap (option_map found_value) is

pub lent_tellable : (g : GridSize) (lent : Option (Bor Found)) (found : Option Found) → option_copied lent ≡ found
    → IfSome found (λ f. IsTellable g (found_value f)) → IfSome lent (λ f. IsTellable g (found_value f.now))
lent_tellable g None found is told = tt
lent_tellable g (Some f) found is told = subst (λ (o : Option Found). IfSome o (λ e. IsTellable g (found_value e))) (sym is) told

-- the block of a number is that of the event one place before it
pub block_at : (control : ControlValues) (assembly : Assembly) (i : ℕ) (text : List ℕ)
    → text ≡ event_block control (assembly_value assembly) (i + 1, event_at assembly (i + 1))
    → text ≡ event_block control (assembly_value assembly) (i + 1, get_or (map event_value assembly.events.items) i no_event)
block_at control assembly i text is =
    is ∙ ap (λ (e : EventValues). event_block control (assembly_value assembly) (i + 1, e)) (event_at_place assembly i)
