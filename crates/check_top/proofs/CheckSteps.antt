-- Events that are checked one after another.
use Rattle.std.proofs.Common.{◌≡◌, ℕ, zero, suc, ◌+◌, ◌<◌, ◌≤◌, Bool, List, [], ◌∷◌, ◌++◌, length, take, get_or, map, refl, sym, ◌∙◌, ap, arith, append-nil, append_assoc, true, false}
use Rattle.std.specs.Prelude.{zip, flat_map, All, ◌||◌}
use Rattle.std.specs.List.{enumerate_from, list_any}
use Rattle.std.proofs.lemmas.List.{map-append, length-map, take_all}
use Rattle.std.proofs.lemmas.List.Elements.{All-push}
use Rattle.std.proofs.lemmas.List.Folds.{list_any-append}
use Rattle.kernel_table.specs.declared.kernels.Shape.{Shape}
use Rattle.node_boxes.specs.Grid.{GridSize}
use Rattle.edt_score.specs.Field.{FieldTimes}
use Rattle.control_reader.specs.ControlValues.{ControlValues}
use Rattle.event_assembly.specs.declared.assembly.Case.{Case}
use Rattle.event_assembly.specs.declared.assembly.Case.TheVariants.{Ready as ready_case, Few as few_case, Many as many_case}
use Rattle.event_assembly.specs.declared.assembly.Prepared.{Prepared}
use Rattle.event_assembly.specs.AssemblyValues.{EventCase, EventValues, Ready, Few, Many}
use Rattle.event_assembly.specs.Assembled.{IsPrepared, IsCaseOf}
use Rattle.station_table.specs.declared.picks.UsedPick.{UsedPick}
use Rattle.cover_certificate.specs.Blocks.{BlockValue}
use Rattle.run_input.specs.Inputs.{InputValues}
use Rattle.node_boxes.specs.declared.frame.Frame.{Frame}
use Rattle.check_top.specs.CheckLines.{check_line, check_lines}
use Rattle.check_top.specs.EventAnswers.{AnswerValue, ProvesEvent, ProvesNoFit, AgreesFew, AgreesMany, UnprovedBudget, UnprovedNearLimit, RefusedBy, RefusedKind, IsTrueAnswer, is_refused}
use Rattle.check_top.specs.Inside.Cases.{IsSoundCase}
use Rattle.check_top.specs.Inside.Checks.{IsTrueWith, answer_with}
use Rattle.check_top.specs.Inside.Lines.{IsPlaced}

-- a prepared event has a valid problem, where it has one
sound : (control : ControlValues) (field : FieldTimes) (used : List UsedPick) (case : Case) → IsCaseOf control field used case → IsSoundCase field case
sound control field used (ready_case problem) is = is.valid
sound control field used few_case is = tt
sound control field used many_case is = tt

pub sound_event : (control : ControlValues) (field : FieldTimes) (event : Prepared) → IsPrepared control field event → IsSoundCase field event.case
sound_event control field event is = sound control field event.picks.used.items event.case is.case

-- a true answer shows a node of the grid
pub placed : (shape : Shape) (field : FieldTimes) (margin : ℕ) (case : EventCase) (answer : AnswerValue) (g : GridSize) → field.grid ≡ g
    → IsTrueAnswer shape field margin case answer → IsPlaced g answer
placed shape field margin (Ready picks) (ProvesEvent event) g same truth = rw same at truth.first.inside
placed shape field margin Few (ProvesEvent event) g same truth = absurd truth
placed shape field margin Many (ProvesEvent event) g same truth = absurd truth
placed shape field margin case ProvesNoFit g same truth = tt
placed shape field margin case AgreesFew g same truth = tt
placed shape field margin case AgreesMany g same truth = tt
placed shape field margin case UnprovedBudget g same truth = tt
placed shape field margin case UnprovedNearLimit g same truth = tt
placed shape field margin case (RefusedBy verdict) g same truth = tt
placed shape field margin case RefusedKind g same truth = tt

-- the pairs of what is made of two lists, up to the next place
pub pairs_upto : {A B X Y : Type 0} (f : A → X) (h : B → Y) (xs : List A) (ys : List B) (i : ℕ) (d : A) (e : B) → i < length xs → i < length ys
    → take (i + 1) (zip (map f xs) (map h ys)) ≡ take i (zip (map f xs) (map h ys)) ++ (f (get_or xs i d), h (get_or ys i e)) ∷ []
pairs_upto f h [] ys i d e less within = absurd (omega arith)
pairs_upto f h (x ∷ xs) [] i d e less within = absurd (omega arith)
pairs_upto f h (x ∷ xs) (y ∷ ys) zero d e less within = refl
pairs_upto f h (x ∷ xs) (y ∷ ys) (suc i) d e less within =
    let one : suc i + 1 ≡ suc (i + 1) = omega arith in
    rw one (ap (λ ps. (f x, h y) ∷ ps) (pairs_upto f h xs ys i d e (omega (arith, less)) (omega (arith, within))))

-- all of them
short : {X Y : Type 0} (xs : List X) (ys : List Y) → length (zip xs ys) ≤ length xs
short [] ys = omega arith
short (x ∷ xs) [] = omega arith
short (x ∷ xs) (y ∷ ys) = let rest = short xs ys in omega (arith, rest)

pub pairs_all : {A X Y : Type 0} (f : A → X) (xs : List A) (ys : List Y) (i : ℕ) → length xs ≤ i → take i (zip (map f xs) ys) ≡ zip (map f xs) ys
pairs_all f xs ys i all = take_all i (zip (map f xs) ys) (omega (arith, short (map f xs) ys, length-map xs f, all))

-- how many pairs there are up to a place
pub pairs_count : {A B X Y : Type 0} (f : A → X) (h : B → Y) (xs : List A) (ys : List B) (i : ℕ) → i ≤ length xs → i ≤ length ys
    → length (take i (zip (map f xs) (map h ys))) ≡ i
pairs_count f h xs ys zero less within = refl
pairs_count f h [] ys (suc i) less within = absurd (omega arith)
pairs_count f h (x ∷ xs) [] (suc i) less within = absurd (omega arith)
pairs_count f h (x ∷ xs) (y ∷ ys) (suc i) less within = ap suc (pairs_count f h xs ys i (omega (arith, less)) (omega (arith, within)))

-- the lines of one answer more
lines_more : (frame : Frame) (n : ℕ) (answers : List AnswerValue) (answer : AnswerValue)
    → flat_map (check_line frame) (enumerate_from n (answers ++ answer ∷ [])) ≡ flat_map (check_line frame) (enumerate_from n answers) ++ check_line frame (n + length answers, answer)
lines_more frame n [] answer =
    let none : n + 0 ≡ n = omega arith in rw none (append-nil (check_line frame (n, answer)))
lines_more frame n (first ∷ answers) answer =
    let one : n + 1 + length answers ≡ n + suc (length answers) = omega arith in
    ap (λ rest. check_line frame (n, first) ++ rest) (lines_more frame (n + 1) answers answer ∙ ap (λ k. flat_map (check_line frame) (enumerate_from (n + 1) answers) ++ check_line frame (k, answer)) one)
    ∙ sym (append_assoc (check_line frame (n, first)) (flat_map (check_line frame) (enumerate_from (n + 1) answers)) (check_line frame (n + suc (length answers), answer)))

-- what was made of some pairs: their lines, whether one is refused, and that they are true
pub record MadeOf (shape : Shape) (input : InputValues) (pairs : List (EventValues × BlockValue)) (text : List ℕ) (refused : Bool) : Type 0 where
  pub text_is : text ≡ check_lines input.control.frame (map (answer_with shape input) pairs)
  pub refused_is : refused ≡ list_any is_refused (map (answer_with shape input) pairs)
  pub truth : All (IsTrueWith shape input) pairs

pub made_none : (shape : Shape) (input : InputValues) (text : List ℕ) → text ≡ [] → MadeOf shape input [] text false
made_none shape input text none = record { text_is = none; refused_is = refl; truth = λ k d less. absurd (omega (arith, less)) }

or_false : (a b : Bool) → (a || (b || false)) ≡ (a || b)
or_false true b = refl
or_false false true = refl
or_false false false = refl

-- one pair more
pub made_more : (shape : Shape) (input : InputValues) (pairs : List (EventValues × BlockValue)) (pair : EventValues × BlockValue) (before after : List ℕ) (so_far now : Bool)
    (answer : AnswerValue) (number : ℕ) → MadeOf shape input pairs before so_far → answer ≡ answer_with shape input pair → number ≡ length pairs + 1
    → after ≡ before ++ check_line input.control.frame (number, answer) → now ≡ (so_far || is_refused answer) → IsTrueWith shape input pair
    → MadeOf shape input (pairs ++ pair ∷ []) after now
made_more shape input pairs pair before after so_far now answer number made is count line refused truth =
    let answers : List AnswerValue = map (answer_with shape input) pairs in
    let frame = input.control.frame in
    let all : map (answer_with shape input) (pairs ++ pair ∷ []) ≡ answers ++ answer_with shape input pair ∷ [] = map-append (answer_with shape input) pairs (pair ∷ []) in
    let at : number ≡ 1 + length answers = omega (arith, count, length-map pairs (answer_with shape input)) in
    record {
      text_is = line ∙ ap (λ t. t ++ check_line frame (number, answer)) made.text_is
          ∙ ap (λ (n : ℕ). check_lines frame answers ++ check_line frame (n, answer)) at
          ∙ ap (λ (a : AnswerValue). check_lines frame answers ++ check_line frame (1 + length answers, a)) is
          ∙ sym (lines_more frame 1 answers (answer_with shape input pair)) ∙ ap (check_lines frame) (sym all);
      refused_is = refused ∙ ap (λ b. b || is_refused answer) made.refused_is ∙ ap (λ (a : AnswerValue). list_any is_refused answers || is_refused a) is
          ∙ sym (or_false (list_any is_refused answers) (is_refused (answer_with shape input pair)))
          ∙ sym (list_any-append is_refused answers (answer_with shape input pair ∷ [])) ∙ ap (list_any is_refused) (sym all);
      truth = All-push (IsTrueWith shape input) pairs pair made.truth truth;
    }
