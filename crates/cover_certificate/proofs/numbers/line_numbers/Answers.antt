use Rattle.std.proofs.Common.{◌≡◌, ℕ, true, false, List, map, length, take, drop, Some, refl}
use Rattle.std.specs.Str.{bytes_eq}
use Rattle.text_terms.specs.Lines.{LineText}
use Rattle.cover_certificate.specs.declared.block.BlockCause.TheVariants.{Form}
use Rattle.edt_text.specs.LineCursor.{line_text}
use Rattle.cover_certificate.specs.declared.line_form.LineForm.{LineForm}
use Rattle.cover_certificate.specs.declared.line_form.Slot.{Slot}
use Rattle.cover_certificate.specs.LineForms.{Numbered, head_of, slots_of}
use Rattle.cover_certificate.specs.LineWords.{parts}
use Rattle.cover_certificate.specs.LineFaults.{line_fault, number_of, numbers_in, words_fault}
use Rattle.cover_certificate.proofs.numbers.line_numbers.Goals as goal

-- a line that no line feed ends
open_line : (form : LineForm) (line : LineText) → line.ended ≡ false → line_fault (Numbered form) line ≡ Some Form
unfolding line_fault
open_line form line h = rw h refl

-- a line without its head
headless : (form : LineForm) (line : LineText) (head : List ℕ) → head ≡ head_of form → line.ended ≡ true
    → bytes_eq (take (length head) line.bytes) head ≡ false → line_fault (Numbered form) line ≡ Some Form
unfolding line_fault
headless form line head is ended h = rw (ended, rw is at h) refl

-- a line with its head has the fault of its words
headed : (form : LineForm) (line : LineText) (head rest : List ℕ) (slots : List Slot) (words : List (List ℕ)) → head ≡ head_of form
    → line.ended ≡ true → bytes_eq (take (length head) line.bytes) head ≡ true → rest ≡ drop (length head) line.bytes
    → slots ≡ slots_of form → words ≡ parts rest → line_fault (Numbered form) line ≡ words_fault slots words
unfolding line_fault
headed form line head rest slots words head_is ended h is slots_are words_are =
    rw (ended, rw head_is at h, slots_are, words_are, is, head_is) refl

-- and their numbers
numbers_after : (form : LineForm) (line : LineText) (head rest : List ℕ) (words : List (List ℕ)) → head ≡ head_of form
    → rest ≡ drop (length head) line.bytes → words ≡ parts rest → numbers_in form line.bytes ≡ map number_of words
unfolding numbers_in
numbers_after form line head rest words head_is is words_are = rw (words_are, is, head_is) refl

pub returns-then-not-line-clause-fault : goal.returns-then-not-line-clause-fault
returns-then-not-line-clause-fault c = open_line c.args.form (line_text c.args.line.now) c.if-not-line.true

pub returns-in-Some-clause-good : goal.returns-in-Some-clause-good
returns-in-Some-clause-good c =
    let same = headed c.args.form (line_text c.args.line.now) c.head.result.now c.in-Some.rest.now c.slots.result.now c.new.result
    c.head.ensures c.if-not-line.false c.in-Some.ensures.cases.0 c.in-Some.ensures.cases.1 c.slots.ensures c.new.ensures in
    simp same c.word_numbers.ensures.good

pub returns-in-Some-clause-value : goal.returns-in-Some-clause-value
returns-in-Some-clause-value c =
    let same = numbers_after c.args.form (line_text c.args.line.now) c.head.result.now c.in-Some.rest.now c.new.result
    c.head.ensures c.in-Some.ensures.cases.1 c.new.ensures in
    simp same c.word_numbers.ensures.value

pub returns-in-Some-clause-fault : goal.returns-in-Some-clause-fault
returns-in-Some-clause-fault c =
    let same = headed c.args.form (line_text c.args.line.now) c.head.result.now c.in-Some.rest.now c.slots.result.now c.new.result
    c.head.ensures c.if-not-line.false c.in-Some.ensures.cases.0 c.in-Some.ensures.cases.1 c.slots.ensures c.new.ensures in
    simp same c.word_numbers.ensures.fault

pub returns-in-None-clause-fault : goal.returns-in-None-clause-fault
returns-in-None-clause-fault c =
    headless c.args.form (line_text c.args.line.now) c.head.result.now c.head.ensures c.if-not-line.false c.in-None.ensures.cases
