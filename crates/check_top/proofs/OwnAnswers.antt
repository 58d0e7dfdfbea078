-- No certificate that a run that locates writes is refused.
use Rattle.std.proofs.Common.{◌≡◌, ℕ, false, List, [], ◌∷◌, map, zip, refl, ap}
use Rattle.std.specs.List.{list_any}
use Rattle.node_boxes.specs.Roots.{AreRoots}
use Rattle.control_reader.specs.ControlValues.{ControlValues}
use Rattle.edt_score.specs.Field.{FieldTimes}
use Rattle.octree_search.specs.Outcomes.{Outcome, IsLocated, FitsNowhere, PassesBudget, PassesNearLimit}
use Rattle.cover_checker.specs.Scorings.{Scoring, field_scoring}
use Rattle.cover_checker.specs.Searching.{ProvesOutcome}
use Rattle.cover_checker.specs.Verdicts.{verdict_of}
use Rattle.cover_checker.proofs.ExactLaws.{proved_from}
use Rattle.cover_checker.proofs.SearchLaws.{field_search_proved}
use Rattle.event_assembly.specs.AssemblyValues.{EventCase, EventValues, Ready, Few, Many}
use Rattle.location_report.specs.Blocks.{certificate_of, certificate_value}
use Rattle.location_report.specs.Texts.{outcome_of_case, outcome_of_picks}
use Rattle.run_input.specs.Inputs.{InputValues}
use Rattle.check_top.specs.CheckEndings.{event_answer, some_refused, values_of}
use Rattle.check_top.specs.EventAnswers.{answer_of, is_refused, ready_answer}
use Rattle.check_top.specs.OwnReports.{own_block, own_blocks}

-- the certificate of an outcome that is proved isn't refused, and neither is one that claims nothing
outcome_accepted : (s : Scoring) (margin : ℕ) (outcome : Outcome) → ProvesOutcome s margin outcome
    → is_refused (ready_answer (certificate_of outcome) (verdict_of s margin (certificate_of outcome))) ≡ false
outcome_accepted s margin (IsLocated event) proves =
    ap (λ verdict. is_refused (ready_answer (certificate_of (IsLocated event)) verdict)) (proved_from s margin (certificate_of (IsLocated event)) proves)
outcome_accepted s margin (FitsNowhere boxes met) proves =
    ap (λ verdict. is_refused (ready_answer (certificate_of (FitsNowhere boxes met)) verdict)) (proved_from s margin (certificate_of (FitsNowhere boxes met)) proves)
outcome_accepted s margin PassesBudget proves = refl
outcome_accepted s margin PassesNearLimit proves = refl

-- the answer for an event and its own certificate
case_accepted : (control : ControlValues) (field : FieldTimes) → AreRoots field.grid field.roots → (case : EventCase)
    → is_refused (answer_of control.shape field control.margin case (certificate_value case (outcome_of_case control field case))) ≡ false
unfolding answer_of
case_accepted control field are (Ready picks) =
    outcome_accepted (field_scoring control.shape field picks) control.margin (outcome_of_picks control field picks)
    (field_search_proved control.shape field picks field.roots control.margin control.budget are)
case_accepted control field are Few = refl
case_accepted control field are Many = refl

none_refused : (input : InputValues) → AreRoots input.assembly.field.grid input.assembly.field.roots → (events : List EventValues)
    → list_any is_refused (map (event_answer input) (zip events (map (own_block input) events))) ≡ false
none_refused input are [] = refl
none_refused input are (event ∷ events) =
    rw (case_accepted input.control input.assembly.field are event.case, none_refused input are events) refl

-- no answer is a refusal
pub own_accepted : (input : InputValues) → AreRoots input.assembly.field.grid input.assembly.field.roots → some_refused (values_of input (own_blocks input)) ≡ false
own_accepted input are = none_refused input are input.assembly.events
