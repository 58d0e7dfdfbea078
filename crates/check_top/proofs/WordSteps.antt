-- The words of a line, one after another.
use Rattle.std.proofs.Common.{◌≡◌, ℕ, zero, suc, ◌+◌, ◌<◌, ◌≤◌, Bool, true, false, List, [], ◌∷◌, length, get_or, drop, map, Bor, Option, Some, None, refl, sym, ◌∙◌, ap, add-one, drop-cons, drop_of_length-le, arith}
use Rattle.std.specs.Prelude.{◌&&◌, MatchOption, unwrap_or}
use Rattle.edt_text.specs.Reading.{reading_of}
use Rattle.cover_certificate.specs.LineFaults.{number_of}
use Rattle.check_top.specs.declared.report.fault.ReportCause.TheVariants.{Form, Number}
use Rattle.text_terms.specs.Faults.{unless}
use Rattle.check_top.specs.ReportLines.{each_fits, has_form, is_number, words_cause}

-- forms as bytes
abbrev pub bytes_of : List (Bor (List ℕ)) → List (List ℕ)
bytes_of forms = map (λ (form : Bor (List ℕ)). form.now) forms

-- what is left of forms and words says what all of them do
abbrev pub Leaves : List (Bor (List ℕ)) → List (List ℕ) → ℕ → List (List ℕ) → Type 0
Leaves forms words i left = each_fits has_form (bytes_of (drop i forms)) left ≡ each_fits has_form (bytes_of forms) words

abbrev pub LeavesNumbers : List (Bor (List ℕ)) → List (List ℕ) → ℕ → List (List ℕ) → Bool → Type 0
LeavesNumbers forms words i left so_far = (so_far && each_fits is_number (bytes_of (drop i forms)) left) ≡ each_fits is_number (bytes_of forms) words

-- one word more
pub fits_drop : (fits : List ℕ → List ℕ → Bool) (forms : List (Bor (List ℕ))) (i : ℕ) (d : Bor (List ℕ)) (word : List ℕ) (words : List (List ℕ)) → i < length forms
    → each_fits fits (bytes_of (drop i forms)) (word ∷ words) ≡ (fits (get_or forms i d).now word && each_fits fits (bytes_of (drop (suc i) forms)) words)
fits_drop fits forms i d word words within = rw (drop-cons forms i d within) refl

-- words that don't have their form
misformed : (forms words : List (List ℕ)) → each_fits has_form forms words ≡ false → words_cause forms words ≡ Some Form
unfolding words_cause
misformed forms words h = rw h refl

-- no words don't fit forms
none_fits : (fits : List ℕ → List ℕ → Bool) (forms : List (Bor (List ℕ))) (i : ℕ) → i < length forms → each_fits fits (bytes_of (drop i forms)) [] ≡ false
none_fits fits [] i within = absurd (omega arith)
none_fits fits (form ∷ forms) zero within = refl
none_fits fits (form ∷ forms) (suc i) within = none_fits fits forms i (omega (arith, within))

-- too few words
pub too_few : (forms : List (Bor (List ℕ))) (words left : List (List ℕ)) (i : ℕ) → i < length forms → left ≡ [] → Leaves forms words i left
    → words_cause (bytes_of forms) words ≡ Some Form
too_few forms words left i within none same =
    misformed (bytes_of forms) words (sym (ap (each_fits has_form (bytes_of (drop i forms))) (sym none) ∙ same) ∙ none_fits has_form forms i within)

-- a word without its form
pub no_word : (forms : List (Bor (List ℕ))) (words left more : List (List ℕ)) (word : List ℕ) (i : ℕ) (d : Bor (List ℕ)) → i < length forms → left ≡ word ∷ more
    → has_form (get_or forms i d).now word ≡ false → Leaves forms words i left → words_cause (bytes_of forms) words ≡ Some Form
no_word forms words left more word i d within is other same =
    let step = fits_drop has_form forms i d word more within in
    let at_word : each_fits has_form (bytes_of (drop i forms)) (word ∷ more) ≡ each_fits has_form (bytes_of forms) words = rw is at same in
    let stops : each_fits has_form (bytes_of (drop i forms)) (word ∷ more) ≡ false = step ∙ ap (λ b. b && each_fits has_form (bytes_of (drop (suc i) forms)) more) other in
    misformed (bytes_of forms) words (sym at_word ∙ stops)

-- a word with its form
pub next_word : (forms : List (Bor (List ℕ))) (words left more : List (List ℕ)) (word : List ℕ) (i : ℕ) (d : Bor (List ℕ)) → i < length forms → left ≡ word ∷ more
    → has_form (get_or forms i d).now word ≡ true → Leaves forms words i left → Leaves forms words (suc i) more
next_word forms words left more word i d within is has same =
    let step = fits_drop has_form forms i d word more within in
    let at_word : each_fits has_form (bytes_of (drop i forms)) (word ∷ more) ≡ each_fits has_form (bytes_of forms) words = rw is at same in
    sym (step ∙ ap (λ b. b && each_fits has_form (bytes_of (drop (suc i) forms)) more) has) ∙ at_word

and_same : (a b c : Bool) → ((a && b) && c) ≡ (a && (b && c))
and_same true b c = refl
and_same false b c = refl

pub next_number : (forms : List (Bor (List ℕ))) (words left more : List (List ℕ)) (word : List ℕ) (i : ℕ) (d : Bor (List ℕ)) (so_far : Bool) → i < length forms
    → left ≡ word ∷ more → LeavesNumbers forms words i left so_far
    → LeavesNumbers forms words (suc i) more (so_far && is_number (get_or forms i d).now word)
next_number forms words left more word i d so_far within is same =
    let step = fits_drop is_number forms i d word more within in
    let at_word : (so_far && each_fits is_number (bytes_of (drop i forms)) (word ∷ more)) ≡ each_fits is_number (bytes_of forms) words = rw is at same in
    and_same so_far (is_number (get_or forms i d).now word) (each_fits is_number (bytes_of (drop (suc i) forms)) more)
    ∙ ap (λ b. so_far && b) (sym step) ∙ at_word

-- too many words
pub too_many : (forms : List (Bor (List ℕ))) (words left more : List (List ℕ)) (word : List ℕ) (i : ℕ) → length forms ≤ i → left ≡ word ∷ more
    → Leaves forms words i left → words_cause (bytes_of forms) words ≡ Some Form
too_many forms words left more word i past is same =
    let end : drop i forms ≡ [] = drop_of_length-le forms past in
    misformed (bytes_of forms) words (sym (rw (is, end) at same))

and_true : (b : Bool) → (b && true) ≡ b
and_true true = refl
and_true false = refl

-- words that all have their form
pub all_read : (forms : List (Bor (List ℕ))) (words left : List (List ℕ)) (i : ℕ) (good : Bool) → length forms ≤ i → left ≡ []
    → Leaves forms words i left → LeavesNumbers forms words i left good → words_cause (bytes_of forms) words ≡ unless good Number
unfolding words_cause
all_read forms words left i good past none form numbers =
    let end : drop i forms ≡ [] = drop_of_length-le forms past in
    let a : true ≡ each_fits has_form (bytes_of forms) words = rw (none, end) at form in
    let b : (good && true) ≡ each_fits is_number (bytes_of forms) words = rw (none, end) at numbers in
    rw (← a, ← b, and_true good) refl

-- the word after some, and what is left after one more
pub word_at : (words more : List (List ℕ)) (word : List ℕ) (k : ℕ) → drop k words ≡ word ∷ more → get_or words k [] ≡ word
word_at [] more word zero e = absurd cc
word_at (w ∷ words) more word zero e = cc
word_at [] more word (suc k) e = absurd cc
word_at (w ∷ words) more word (suc k) e = word_at words more word k e

pub no_word_at : (words : List (List ℕ)) (k : ℕ) → drop k words ≡ [] → get_or words k [] ≡ []
no_word_at [] zero e = refl
no_word_at (w ∷ words) zero e = absurd cc
no_word_at [] (suc k) e = refl
no_word_at (w ∷ words) (suc k) e = no_word_at words k e

pub drop_more : (words more : List (List ℕ)) (word : List ℕ) (k : ℕ) → drop k words ≡ word ∷ more → drop (suc k) words ≡ more
drop_more [] more word zero e = absurd cc
drop_more (w ∷ words) more word zero e = cc
drop_more [] more word (suc k) e = absurd cc
drop_more (w ∷ words) more word (suc k) e = drop_more words more word k e

pub drop_still : (words : List (List ℕ)) (k : ℕ) → drop k words ≡ [] → drop (suc k) words ≡ []
drop_still [] zero e = refl
drop_still (w ∷ words) zero e = absurd cc
drop_still [] (suc k) e = refl
drop_still (w ∷ words) (suc k) e = drop_still words k e

-- a cursor that stands after some words, one step on
pub cursor_more : (words left more : List (List ℕ)) (k : ℕ) (word : Option (Bor (List ℕ))) → left ≡ drop k words
    → MatchOption word ((left ≡ []) × (more ≡ [])) (λ w. left ≡ w.now ∷ more) → more ≡ drop (k + 1) words
cursor_more words left more k None at ends = rw add-one (ends.1 ∙ sym (drop_still words k (sym at ∙ ends.0)))
cursor_more words left more k (Some w) at gives = rw add-one (sym (drop_more words more w.now k (sym at ∙ gives)))

-- the number of the word there, and 0 where there is none
pub number_some : (words left more : List (List ℕ)) (word : List ℕ) (k place number : ℕ) (found : Option ℕ) → left ≡ drop k words → left ≡ word ∷ more → k ≤ place → place ≤ k
    → found ≡ reading_of word → number ≡ unwrap_or found 0 → number ≡ number_of (get_or words place [])
number_some words left more word k place number found at gives up down read is =
    let same : k ≡ place = omega arith in
    let here : get_or words place [] ≡ word = word_at words more word place (rw same at (sym at ∙ gives)) in
    is ∙ ap (λ (f : Option ℕ). unwrap_or f 0) read ∙ sym (ap number_of here)

pub number_none : (words left : List (List ℕ)) (k place : ℕ) → left ≡ drop k words → left ≡ [] → k ≤ place → place ≤ k → 0 ≡ number_of (get_or words place [])
number_none words left k place at none up down =
    let same : k ≡ place = omega arith in
    sym (ap number_of (no_word_at words place (rw same at (sym at ∙ none))))
