-- Counted lists of lines.
use Rattle.std.proofs.Common.{◌≡◌, ℕ, zero, suc, ◌+◌, ◌<◌, true, List, [], ◌∷◌, ◌++◌, length, map, replicate, Some, None, refl, ◌∙◌, arith}
use Rattle.std.specs.List.{list_all}
use Rattle.text_terms.specs.Lines.{LineText}
use Rattle.cover_certificate.specs.declared.block.BlockCause.{BlockCause}
use Rattle.cover_certificate.specs.declared.line_form.LineForm.{LineForm}
use Rattle.cover_certificate.specs.LineForms.{Wanted, Numbered, are_allowed, slots_of}
use Rattle.cover_certificate.specs.LineFaults.{line_fault}
use Rattle.cover_certificate.specs.BlockLines.{numbers_line}
use Rattle.cover_certificate.specs.Inside.FirstFaults.{first_fault}
use Rattle.cover_certificate.proofs.PartLaws.{both}
use Rattle.cover_certificate.proofs.LineLaws.{line_again}
use Rattle.cover_certificate.proofs.FirstFaultLaws.{AreFine, first_fault-front}

-- a line without a fault is passed
pub passes : (wanted : Wanted) (more : List Wanted) (line : LineText) (lines : List LineText) (number : ℕ) → line_fault wanted line ≡ None
    → first_fault (wanted ∷ more) (line ∷ lines) number ≡ first_fault more lines (suc number)
passes wanted more line lines number fine = rw fine refl

-- the fault of an item after others without a fault
pub item_fault : (form : LineForm) (count : ℕ) (items : List (List ℕ)) (rest : List LineText) (number here : ℕ) (f : ℕ × BlockCause)
    → list_all (are_allowed (slots_of form)) items ≡ true → length items < count → here ≡ number + length items
    → first_fault (Numbered form ∷ []) rest here ≡ Some f
    → first_fault (replicate count (Numbered form)) (map (numbers_line form) items ++ rest) number ≡ Some f
item_fault form zero items rest number here f good less same fault = absurd (omega arith)
item_fault form (suc n) [] rest number here f good less same fault =
    let at_number : here ≡ number = omega arith in
    first_fault-front (Numbered form ∷ []) (replicate n (Numbered form)) rest number f (rw at_number at fault)
item_fault form (suc n) (item ∷ items) rest number here f good less same fault =
    let parted = both (are_allowed (slots_of form) item) (list_all (are_allowed (slots_of form)) items) good in
    passes (Numbered form) (replicate n (Numbered form)) (numbers_line form item) (map (numbers_line form) items ++ rest) number
    (line_again form item parted.0).0
    ∙ item_fault form n items rest (suc number) here f parted.1 (omega arith) (omega arith) fault

-- items without a fault
pub items_fine : (form : LineForm) (items : List (List ℕ)) → list_all (are_allowed (slots_of form)) items ≡ true
    → AreFine (replicate (length items) (Numbered form)) (map (numbers_line form) items)
items_fine form [] good = tt
items_fine form (item ∷ items) good =
    let parted = both (are_allowed (slots_of form) item) (list_all (are_allowed (slots_of form)) items) good in
    ((line_again form item parted.0).0, items_fine form items parted.1)
