-- Lines of numbers: one spelling, read again.
use Rattle.std.proofs.Common.{◌≡◌, ℕ, inl, inr, true, false, List, [], ◌∷◌, ◌++◌, length, take, drop, map, Some, None, refl, sym, ◌∙◌, ap, arith, lit<, ◌<◌}
use Rattle.std.specs.Prelude.{decimal, codes, find}
use Rattle.std.specs.List.{list_all, join_with_byte}
use Rattle.std.specs.Str.{bytes_eq}
use Rattle.std.proofs.lemmas.List.{take-append-drop}
use Rattle.std.proofs.lemmas.List.Splits.{join_with_byte-slice_split}
use Rattle.std.proofs.lemmas.Slice.Eq.{bytes_eq-Decides}
use Rattle.text_terms.specs.Lines.{LineText}
use Rattle.text_terms.proofs.Cases.{by_bool}
use Rattle.cover_certificate.specs.declared.block.BlockCause.TheVariants.{Form, Number, Limit}
use Rattle.cover_certificate.specs.declared.kind.Kind.{Kind}
use Rattle.cover_certificate.specs.declared.kind.Kind.TheVariants.{Located, NoFit, Few, Many, Budget, NearLimit}
use Rattle.cover_certificate.specs.declared.line_form.LineForm.{LineForm}
use Rattle.cover_certificate.specs.declared.line_form.LineForm.TheVariants.{Best, Near, Entry, Cover, Area}
use Rattle.cover_certificate.specs.declared.line_form.Slot.{Slot}
use Rattle.cover_certificate.specs.Kinds.{first_bytes, kind_of, kinds}
use Rattle.cover_certificate.specs.LineForms.{FirstLine, Numbered, LastLine, head_of, slots_of, are_allowed}
use Rattle.cover_certificate.specs.LineWords.{parts, is_plain}
use Rattle.cover_certificate.specs.BlockLines.{ended_line, numbers_line, spaced}
use Rattle.cover_certificate.specs.LineFaults.{after_head, all_fit, fits_limit, fits_number, has_head, line_fault, number_of, numbers_in, words_fault}
use Rattle.cover_certificate.specs.Inside.FirstFaults.{is_last}
use Rattle.cover_certificate.proofs.PartLaws.{both, parts-join}
use Rattle.cover_certificate.proofs.WordLaws.{DecimalsFit, WordsAre, decimals_fit, words_are, is_wide}

-- the words have their form, and their numbers are good
pub record WordsFine (slots : List Slot) (words : List (List ℕ)) : Type 0 where
  pub plain : all_fit (λ slot. is_plain) slots words ≡ true
  pub good : all_fit fits_number slots words ≡ true
  pub within : all_fit fits_limit slots words ≡ true

pub words_fine : (slots : List Slot) (words : List (List ℕ)) → words_fault slots words ≡ None → WordsFine slots words
unfolding words_fault
words_fine slots words h = elim (by_bool (all_fit (λ slot. is_plain) slots words)) [
  | inl plain ↦ elim (by_bool (all_fit fits_number slots words)) [
    | inl good ↦ elim (by_bool (all_fit fits_limit slots words)) [
      | inl within ↦ record { plain = plain; good = good; within = within }
      | inr past ↦ let some : words_fault slots words ≡ Some Limit = rw (plain, good, past) refl in absurd cc
    ]
    | inr bad ↦ let some : words_fault slots words ≡ Some Number = rw (plain, bad) refl in absurd cc
  ]
  | inr other ↦ let some : words_fault slots words ≡ Some Form = rw other refl in absurd cc
]

pub words_without_fault : (slots : List Slot) (words : List (List ℕ)) → WordsFine slots words → words_fault slots words ≡ None
unfolding words_fault
words_without_fault slots words fine = rw (fine.plain, fine.good, fine.within) refl

-- a line without a fault has its head, and words without a fault after it
record Parted (form : LineForm) (line : LineText) : Type 0 where
  ended : line.ended ≡ true
  head : has_head form line.bytes ≡ true
  fine : WordsFine (slots_of form) (parts (after_head form line.bytes))

parted_line : (form : LineForm) (line : LineText) → line_fault (Numbered form) line ≡ None → Parted form line
unfolding line_fault
parted_line form line h = elim (by_bool line.ended) [
  | inl ended ↦ elim (by_bool (has_head form line.bytes)) [
    | inl head ↦
        let words : words_fault (slots_of form) (parts (after_head form line.bytes)) ≡ None = rw (ended, head) at h in
        record { ended = ended; head = head; fine = words_fine (slots_of form) (parts (after_head form line.bytes)) words }
    | inr other ↦ let some : line_fault (Numbered form) line ≡ Some Form = rw (ended, other) refl in absurd cc
  ]
  | inr open_line ↦ let some : line_fault (Numbered form) line ≡ Some Form = rw open_line refl in absurd cc
]

-- a line that begins with bytes is these and the rest
pub begun : (head bytes : List ℕ) → bytes_eq (take (length head) bytes) head ≡ true → head ++ drop (length head) bytes ≡ bytes
begun head bytes h =
    let same : take (length head) bytes ≡ head = (bytes_eq-Decides (take (length head) bytes) head).0 h in
    ap (λ front. front ++ drop (length head) bytes) (sym same) ∙ take-append-drop (length head) bytes

-- a line is its bytes and its end
line_is : (line : LineText) (bytes : List ℕ) → line.ended ≡ true → bytes ≡ line.bytes → line ≡ ended_line bytes
line_is line bytes ended same = rw (same, ← ended) refl

-- a line of numbers without a fault is that of its numbers, which are allowed
pub line_once : (form : LineForm) (line : LineText) → line_fault (Numbered form) line ≡ None
    → (line ≡ numbers_line form (numbers_in form line.bytes)) × (are_allowed (slots_of form) (numbers_in form line.bytes) ≡ true)
unfolding numbers_line numbers_in
line_once form line h =
    let parted : Parted form line = parted_line form line h in
    let rest : List ℕ = after_head form line.bytes in
    let are : WordsAre (slots_of form) (parts rest) = words_are (slots_of form) (parts rest) parted.fine.good parted.fine.within in
    let joined : spaced (map number_of (parts rest)) ≡ rest = ap (join_with_byte 32) are.are ∙ join_with_byte-slice_split 32 rest in
    let whole : head_of form ++ spaced (map number_of (parts rest)) ≡ line.bytes =
    ap (λ bytes. head_of form ++ bytes) joined ∙ begun (head_of form) line.bytes parted.head in
    (line_is line (head_of form ++ spaced (map number_of (parts rest))) parted.ended whole, are.allowed)

-- all slots are of 64 bits
pub all_wide : (form : LineForm) → list_all is_wide (slots_of form) ≡ true
all_wide Best = refl
all_wide Near = refl
all_wide Entry = refl
all_wide Cover = refl
all_wide Area = refl

-- bytes that stand before others are their head
front_is : (head rest : List ℕ) → take (length head) (head ++ rest) ≡ head
front_is [] rest = refl
front_is (b ∷ head) rest = ap (λ bytes. b ∷ bytes) (front_is head rest)

back_is : (head rest : List ℕ) → drop (length head) (head ++ rest) ≡ rest
back_is [] rest = refl
back_is (b ∷ head) rest = back_is head rest

-- numbers that a form allows are some
pub record Nonempty (numbers : List ℕ) : Type 0 where
  pub first : ℕ
  pub more : List ℕ
  pub is : numbers ≡ first ∷ more

some_allowed : (slots : List Slot) (numbers : List ℕ) → 0 < length slots → are_allowed slots numbers ≡ true → Nonempty numbers
some_allowed [] numbers some h = absurd (omega arith)
some_allowed (slot ∷ slots) [] some h = absurd cc
some_allowed (slot ∷ slots) (n ∷ numbers) some h = record { first = n; more = numbers; is = refl }

some_slots : (form : LineForm) → 0 < length (slots_of form)
some_slots Best = lit< tt
some_slots Near = lit< tt
some_slots Entry = lit< tt
some_slots Cover = lit< tt
some_slots Area = lit< tt

-- the words of spaced numbers are their decimals
parts-spaced : (numbers : List ℕ) → Nonempty numbers → list_all is_plain (map decimal numbers) ≡ true → parts (spaced numbers) ≡ map decimal numbers
parts-spaced numbers some plain =
    let as_words : map decimal numbers ≡ decimal some.first ∷ map decimal some.more = ap (map decimal) some.is in
    ap (λ words. parts (join_with_byte 32 words)) as_words
    ∙ parts-join (decimal some.first) (map decimal some.more) (rw as_words at plain)
    ∙ sym as_words

-- a line of numbers that are allowed has no fault, and these are its numbers
pub line_again : (form : LineForm) (numbers : List ℕ) → are_allowed (slots_of form) numbers ≡ true
    → (line_fault (Numbered form) (numbers_line form numbers) ≡ None) × (numbers_in form (numbers_line form numbers).bytes ≡ numbers)
unfolding numbers_line numbers_in line_fault
line_again form numbers h =
    let fit : DecimalsFit (slots_of form) numbers = decimals_fit (slots_of form) numbers (all_wide form) h in
    let words : parts (spaced numbers) ≡ map decimal numbers = parts-spaced numbers (some_allowed (slots_of form) numbers (some_slots form) h) fit.words in
    let rest : after_head form (head_of form ++ spaced numbers) ≡ spaced numbers = back_is (head_of form) (spaced numbers) in
    let head : has_head form (head_of form ++ spaced numbers) ≡ true =
    (bytes_eq-Decides (take (length (head_of form)) (head_of form ++ spaced numbers)) (head_of form)).1 (front_is (head_of form) (spaced numbers)) in
    let fine : words_fault (slots_of form) (map decimal numbers) ≡ None =
    words_without_fault (slots_of form) (map decimal numbers) (record { plain = fit.plain; good = fit.good; within = fit.within }) in
    (rw (head, rest, words) fine, rw (rest, words) fit.values)

-- the first line of a kind tells it, and that of another line is none
found : (bytes : List ℕ) (choice : List Kind) (kind : Kind) → find (λ k. bytes_eq (first_bytes k) bytes) choice ≡ Some kind
    → first_bytes kind ≡ bytes
found bytes [] kind e = absurd cc
found bytes (k ∷ choice) kind e = elim (by_bool (bytes_eq (first_bytes k) bytes)) [
  | inl here ↦
      let same : find (λ k. bytes_eq (first_bytes k) bytes) (k ∷ choice) ≡ Some k = rw here refl in
      let is : k ≡ kind = cc in
      rw (← is) ((bytes_eq-Decides (first_bytes k) bytes).0 here)
  | inr other ↦
      let later : find (λ k. bytes_eq (first_bytes k) bytes) (k ∷ choice) ≡ find (λ k. bytes_eq (first_bytes k) bytes) choice = rw other refl in
      found bytes choice kind (sym later ∙ e)
]

pub kind_of-Some : (bytes : List ℕ) (kind : Kind) → kind_of bytes ≡ Some kind → first_bytes kind ≡ bytes
kind_of-Some bytes kind e = found bytes kinds kind e

pub kind_of-first_bytes : (kind : Kind) → kind_of (first_bytes kind) ≡ Some kind
kind_of-first_bytes Located = refl
kind_of-first_bytes NoFit = refl
kind_of-first_bytes Few = refl
kind_of-first_bytes Many = refl
kind_of-first_bytes Budget = refl
kind_of-first_bytes NearLimit = refl

pub first_line_again : (kind : Kind) → line_fault FirstLine (ended_line (first_bytes kind)) ≡ None
unfolding line_fault
first_line_again kind = rw (kind_of-first_bytes kind) refl

pub last_line_again : line_fault LastLine (ended_line (codes "END")) ≡ None
unfolding line_fault
last_line_again = refl

-- the last line, and any other in its place
pub last_line : (line : LineText) → is_last line ≡ true → line ≡ ended_line (codes "END")
last_line line h =
    let parted = both line.ended (bytes_eq line.bytes (codes "END")) h in
    line_is line (codes "END") parted.0 (sym ((bytes_eq-Decides line.bytes (codes "END")).0 parted.1))

pub other_line : (line : LineText) → is_last line ≡ false → line_fault LastLine line ≡ Some Form
unfolding line_fault
other_line line h = elim (by_bool line.ended) [
  | inl ended ↦
      let other : bytes_eq line.bytes (codes "END") ≡ false = rw ended at h in
      rw (ended, other) refl
  | inr open_line ↦ rw open_line refl
]
