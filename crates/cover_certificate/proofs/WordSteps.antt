-- Words that are read one after another against their slots.
use Rattle.std.proofs.Common.{◌≡◌, ℕ, suc, ◌<◌, ◌≤◌, Bool, true, false, List, [], ◌∷◌, length, get_or, drop, Some, refl, sym, ◌∙◌, drop-cons, drop_of_length-le}
use Rattle.std.specs.Prelude.{◌&&◌}
use Rattle.cover_certificate.specs.declared.block.BlockCause.TheVariants.{Form}
use Rattle.cover_certificate.specs.declared.line_form.Slot.{Slot}
use Rattle.cover_certificate.specs.LineWords.{is_plain}
use Rattle.cover_certificate.specs.LineFaults.{all_fit, cause_of, fits_limit, fits_number, words_fault}
use Rattle.cover_certificate.proofs.WordLaws.{all_fit-drop}

-- a test of the words and the slots that are left says what it says of all
abbrev pub LeavesTest : (Slot → List ℕ → Bool) → List Slot → List (List ℕ) → ℕ → List (List ℕ) → Bool → Type 0
LeavesTest fits slots words i left so_far = (so_far && all_fit fits (drop i slots) left) ≡ all_fit fits slots words

any_slot : Slot
any_slot = record { least = 0; most = 0; limit = 0 }

-- words that don't have their form
misformed : (slots : List Slot) (words : List (List ℕ)) → all_fit (λ slot. is_plain) slots words ≡ false → words_fault slots words ≡ Some Form
unfolding words_fault
misformed slots words h = rw h refl

-- too few words
pub too_few : (slots : List Slot) (words left : List (List ℕ)) (i : ℕ) → i < length slots → left ≡ []
    → all_fit (λ slot. is_plain) (drop i slots) left ≡ all_fit (λ slot. is_plain) slots words → words_fault slots words ≡ Some Form
too_few slots words left i within none same =
    let front : drop i slots ≡ get_or slots i any_slot ∷ drop (suc i) slots = drop-cons slots i any_slot within in
    misformed slots words (sym (rw (none, front) at same))

-- a part that is no word
pub no_word : (slots : List Slot) (words left more : List (List ℕ)) (word : List ℕ) (i : ℕ) → i < length slots → left ≡ word ∷ more
    → is_plain word ≡ false
    → all_fit (λ slot. is_plain) (drop i slots) left ≡ all_fit (λ slot. is_plain) slots words → words_fault slots words ≡ Some Form
no_word slots words left more word i within is other same =
    let step = all_fit-drop (λ slot. is_plain) slots i any_slot word more within in
    let at_word : all_fit (λ slot. is_plain) (drop i slots) (word ∷ more) ≡ all_fit (λ slot. is_plain) slots words = rw is at same in
    let stops : all_fit (λ slot. is_plain) (drop i slots) (word ∷ more) ≡ false = step ∙ rw other refl in
    misformed slots words (sym at_word ∙ stops)

-- too many words
pub too_many : (slots : List Slot) (words left more : List (List ℕ)) (word : List ℕ) (i : ℕ) → length slots ≤ i → left ≡ word ∷ more
    → all_fit (λ slot. is_plain) (drop i slots) left ≡ all_fit (λ slot. is_plain) slots words → words_fault slots words ≡ Some Form
too_many slots words left more word i past is same =
    let end : drop i slots ≡ [] = drop_of_length-le slots past in
    misformed slots words (sym (rw (is, end) at same))

and_true : (b : Bool) → (b && true) ≡ b
and_true true = refl
and_true false = refl

-- words that all have their form
pub all_read : (slots : List Slot) (words left : List (List ℕ)) (i : ℕ) (good within : Bool) → length slots ≤ i → left ≡ []
    → all_fit (λ slot. is_plain) (drop i slots) left ≡ all_fit (λ slot. is_plain) slots words
    → LeavesTest fits_number slots words i left good → LeavesTest fits_limit slots words i left within
    → words_fault slots words ≡ cause_of good within
unfolding words_fault
all_read slots words left i good within past none plain goods withins =
    let end : drop i slots ≡ [] = drop_of_length-le slots past in
    let a : true ≡ all_fit (λ slot. is_plain) slots words = rw (none, end) at plain in
    let b : (good && true) ≡ all_fit fits_number slots words = rw (none, end) at goods in
    let c : (within && true) ≡ all_fit fits_limit slots words = rw (none, end) at withins in
    rw (← a, ← b, ← c, and_true good, and_true within) refl
