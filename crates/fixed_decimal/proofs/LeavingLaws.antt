-- A text leaves the form at the first place where its byte may not stand.
use Rattle.std.proofs.Common.{◌≡◌, ℕ, ◌+◌, ◌<◌, ◌≤◌, true, false, List, [], ◌∷◌, ◌++◌, length, get_or, take, drop, Option, Some, None, inl, inr, refl, sym, ◌∙◌, ap, arith, append_assoc}
use Rattle.std.specs.Option.{option_and_then}
use Rattle.std.proofs.lemmas.List.{take-append-drop}
use Rattle.std.proofs.lemmas.Grind.{common_steps}
use Rattle.text_terms.proofs.Cases.{less_or_not}
use Rattle.fixed_decimal.specs.declared.form.State.{State}
use Rattle.fixed_decimal.specs.declared.form.State.TheVariants.{Start, Mantissa, Mark, Exponent}
use Rattle.fixed_decimal.specs.Form.{has_form}
use Rattle.fixed_decimal.specs.Inside.State.{after, ends, run}
use Rattle.fixed_decimal.specs.Leaving.{CanBegin, LeavesFormAt}
use Rattle.fixed_decimal.proofs.RunForm.{accepted, accepted-form}

-- a run from a state that may not be there
onward : (xs ys : List ℕ) (r : Option State) → ((t : State) → run t (xs ++ ys) ≡ option_and_then (λ u. run u ys) (run t xs))
    → option_and_then (λ t. run t (xs ++ ys)) r ≡ option_and_then (λ u. run u ys) (option_and_then (λ t. run t xs) r)
onward xs ys None goes_on = refl
onward xs ys (Some t) goes_on = goes_on t

-- a run over joined bytes goes on where the first one ended
pub run-append : (s : State) (xs ys : List ℕ) → run s (xs ++ ys) ≡ option_and_then (λ u. run u ys) (run s xs)
run-append s [] ys = refl
run-append s (x ∷ xs) ys = onward xs ys (after s x) (λ t. run-append t xs ys)

-- what a state still wants, to be a decimal
abbrev wanted : State → List ℕ
wanted Start = 48 ∷ []
wanted (Mantissa true point) = []
wanted (Mantissa false point) = 48 ∷ []
wanted Mark = 48 ∷ []
wanted (Exponent true) = []
wanted (Exponent false) = 48 ∷ []

wanted-accepted : (s : State) → accepted (run s (wanted s)) ≡ true
wanted-accepted Start = refl
wanted-accepted (Mantissa true point) = refl
wanted-accepted (Mantissa false point) = refl
wanted-accepted Mark = refl
wanted-accepted (Exponent true) = refl
wanted-accepted (Exponent false) = refl

-- bytes that may stand there begin a text of the form
pub begins : (bytes : List ℕ) (s : State) → run Start bytes ≡ Some s → CanBegin bytes
begins bytes s e =
    let joined : run Start (bytes ++ wanted s) ≡ run s (wanted s) = run-append Start bytes (wanted s) ∙ from_state e in
    (wanted s, sym (accepted-form (bytes ++ wanted s)) ∙ ap accepted joined ∙ wanted-accepted s)
  where
    from_state : run Start bytes ≡ Some s → option_and_then (λ u. run u (wanted s)) (run Start bytes) ≡ run s (wanted s)
    from_state here = rw here refl

-- bytes of which one may not stand there begin none
pub begins_not : (bytes : List ℕ) → run Start bytes ≡ None → CanBegin bytes → ⊥
begins_not bytes e can =
    let stuck : option_and_then (λ u. run u can.0) (run Start bytes) ≡ None = rw e refl in
    let none : accepted (run Start (bytes ++ can.0)) ≡ false = ap accepted (run-append Start bytes can.0 ∙ stuck) in
    let some : accepted (run Start (bytes ++ can.0)) ≡ true = accepted-form (bytes ++ can.0) ∙ can.1 in
    let differ : true ≡ false = sym some ∙ none in
    cc

-- the byte at a place may not stand there
pub leaves_at : (text : List ℕ) (i : ℕ) (s : State) → i < length text → run Start (take i text) ≡ Some s
    → run Start (take (i + 1) text) ≡ None → LeavesFormAt text i
leaves_at text i s within so_far stops = record {
  within = omega arith;
  before = begins (take i text) s so_far;
  here = λ less can. begins_not (take (i + 1) text) stops can;
  short = λ e. absurd (omega arith);
}

-- the text may not end where it ends
pub leaves_short : (text : List ℕ) (s : State) → run Start text ≡ Some s → ends s ≡ false → LeavesFormAt text (length text)
leaves_short text s e open_end = record {
  within = omega arith;
  before = let all : take (length text) text ≡ text = grind (arith, common_steps) in begins (take (length text) text) s (rw all e);
  here = λ less can. absurd (omega arith);
  short = λ same. sym (accepted-form text) ∙ ap accepted e ∙ open_end;
}

-- a text with a last state that may end has the form
pub forms : (text : List ℕ) (s : State) → run Start text ≡ Some s → ends s ≡ true → has_form text ≡ true
forms text s e end = sym (accepted-form text) ∙ ap accepted e ∙ end

-- one byte more
pub run_more : (text : List ℕ) (i : ℕ) (s : State) → i < length text → run Start (take i text) ≡ Some s
    → run Start (take (i + 1) text) ≡ after s (get_or text i 0)
run_more text i s within so_far =
    let more : take (i + 1) text ≡ take i text ++ get_or text i 0 ∷ [] = grind (arith, common_steps) in
    rw more (run-append Start (take i text) (get_or text i 0 ∷ []) ∙ rw so_far (one (after s (get_or text i 0))))
  where
    one : (r : Option State) → option_and_then (λ t. Some t) r ≡ r
    one None = refl
    one (Some t) = refl

-- where a text leaves the form it has none
pub no_form_left : (text : List ℕ) (k : ℕ) → LeavesFormAt text k → has_form text ≡ true → ⊥
no_form_left text k leaves form = elim (less_or_not k (length text)) [
  | inl less ↦
      let can : CanBegin (take (k + 1) text) = (drop (k + 1) text, rw (take-append-drop (k + 1) text) form) in
      leaves.here less can
  | inr past ↦
      let within : k ≤ length text = leaves.within in
      let end : k ≡ length text = omega arith in
      let not_form : has_form text ≡ false = leaves.short end in
      let differ : true ≡ false = sym form ∙ not_form in
      cc
]

-- a text that begins with more bytes begins with fewer
begins_shorter : (xs ys : List ℕ) → CanBegin (xs ++ ys) → CanBegin xs
begins_shorter xs ys can = (ys ++ can.0, rw (← append_assoc xs ys can.0) can.1)

-- no place before the one where a text leaves the form is one where it does
not_before : (text : List ℕ) (j k : ℕ) → LeavesFormAt text j → LeavesFormAt text k → j < k → ⊥
not_before text j k first other less =
    let within : k ≤ length text = other.within in
    let inner : take (j + 1) (take k text) ≡ take (j + 1) text = grind (arith, common_steps) in
    let joined : take (j + 1) text ++ drop (j + 1) (take k text) ≡ take k text = rw (← inner) (take-append-drop (j + 1) (take k text)) in
    let can : CanBegin (take (j + 1) text ++ drop (j + 1) (take k text)) = rw joined other.before in
    first.here (omega arith) (begins_shorter (take (j + 1) text) (drop (j + 1) (take k text)) can)

-- and it leaves it at one place
pub one_place : (text : List ℕ) (j k : ℕ) → LeavesFormAt text j → LeavesFormAt text k → j ≡ k
one_place text j k first other =
    let not_less : j < k → ⊥ = not_before text j k first other in
    let not_more : k < j → ⊥ = not_before text k j other first in
    omega arith
