-- The fault of a line, by its length and kind.
use Rattle.std.proofs.Common.{◌≡◌, ℕ, ◌≤◌, true, false, List, length, Some, None, refl, sym, ◌∙◌, ap, arith}
use Rattle.std.specs.Prelude.{nat_lt, nat_le, map}
use Rattle.std.proofs.lemmas.Grind.{common_steps}
use Rattle.text_terms.specs.Lines.{NumberedLine}
use Rattle.text_terms.specs.Words.{words_of}
use Rattle.edt_text.specs.declared.limits.TheConstants.{LONGEST_LINE}
use Rattle.phase_reader.specs.declared.fault.PhaseCause.{PhaseCause}
use Rattle.phase_reader.specs.declared.fault.PhaseCause.TheVariants.{Fields, Limit}
use Rattle.phase_reader.specs.declared.kind.LineKind.{LineKind}
use Rattle.phase_reader.specs.declared.kind.LineKind.TheVariants.{PickLine}
use Rattle.phase_reader.specs.LineKinds.{kind_of, kind_of_words}
use Rattle.phase_reader.specs.PickFields.{pick_of}
use Rattle.phase_reader.specs.PickFaults.{words_fault}
use Rattle.phase_reader.specs.PhaseEvents.{event_lines, open_lines, passes_limit}
use Rattle.phase_reader.specs.PhaseFile.{fault_after, kind_fault, limit_fault}

-- the kind of a line, by its words
pub kind_by_words : (line : NumberedLine) (words : List (List ℕ)) (kind : LineKind) → words ≡ words_of line.1 → kind ≡ kind_of_words words → kind_of line ≡ kind
unfolding kind_of
kind_by_words line words kind same is = sym (is ∙ ap kind_of_words same)

-- a line of this kind
pub fault_kind : (lines : List NumberedLine) (line : NumberedLine) (kind : LineKind) → length line.1 ≤ LONGEST_LINE → kind_of line ≡ kind
    → fault_after lines line ≡ kind_fault kind lines line
fault_kind lines line kind short is =
    let within : nat_lt LONGEST_LINE (length line.1) ≡ false = grind (arith, common_steps) in
    rw (within, is) refl

-- a pick with too few words
pub fault_few : (lines : List NumberedLine) (line : NumberedLine) → nat_le 11 (length (words_of line.1)) ≡ false → kind_fault PickLine lines line ≡ Some Fields
fault_few lines line few = rw few refl

-- a pick with a fault in its words
pub fault_words : (lines : List NumberedLine) (line : NumberedLine) (cause : PhaseCause) → nat_le 11 (length (words_of line.1)) ≡ true
    → words_fault (words_of line.1) ≡ Some cause → kind_fault PickLine lines line ≡ Some cause
fault_words lines line cause enough fault = rw (enough, fault) refl

-- a pick without a fault in its words, that passes a limit or not
pub fault_limit : (lines : List NumberedLine) (line : NumberedLine) → nat_le 11 (length (words_of line.1)) ≡ true
    → words_fault (words_of line.1) ≡ None
    → passes_limit (length (event_lines lines)) (map pick_of (open_lines lines)) (pick_of line).time ≡ true
    → kind_fault PickLine lines line ≡ Some Limit
unfolding limit_fault
fault_limit lines line enough good is = rw (enough, good, is) refl

pub fault_none : (lines : List NumberedLine) (line : NumberedLine) → nat_le 11 (length (words_of line.1)) ≡ true
    → words_fault (words_of line.1) ≡ None
    → passes_limit (length (event_lines lines)) (map pick_of (open_lines lines)) (pick_of line).time ≡ false
    → kind_fault PickLine lines line ≡ None
unfolding limit_fault
fault_none lines line enough good is = rw (enough, good, is) refl
