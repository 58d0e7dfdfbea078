-- The first fault of lines that are put together.
use Rattle.std.proofs.Common.{◌≡◌, ℕ, ◌<◌, ◌≤◌, List, [], ◌∷◌, ◌++◌, length, get_or, Some, None, inl, inr, refl, ◌∙◌, ap, arith, length-append}
use Rattle.std.proofs.Math.Seq.{take-append_seam}
use Rattle.std.proofs.lemmas.List.{take-append-le}
use Rattle.std.proofs.lemmas.Option.{slice_get-get_or, slice_get_past}
use Rattle.text_terms.specs.Faults.{NoFaultBelow, HasNoFault}
use Rattle.text_terms.proofs.Cases.{less_or_not}
use Rattle.control_reader.specs.declared.fault.ControlFault.{ControlFault}
use Rattle.control_reader.specs.ControlLines.{ControlLine}
use Rattle.control_reader.specs.ControlFile.{fault_after, fault_at, missing_fault, IsFaultOf}
use Rattle.control_reader.proofs.ListLaws.{get_front, get_next}

-- the fault at a place of a front, and at the place after it
fault_at_front : (front rest : List ControlLine) (j : ℕ) → j < length front → fault_at (front ++ rest) j ≡ fault_at front j
unfolding fault_at
fault_at_front front rest j less =
    let none : ControlLine = record { file = 0; number = 0; bytes = [] } in
    let part = get_front front rest j less in
    let here = slice_get-get_or front j none less in
    let within : j ≤ length front = omega arith in
    rw (part, here) (ap (λ lines. fault_after lines (get_or front j none)) (take-append-le j front rest within))

fault_at_next : (front rest : List ControlLine) (line : ControlLine) → fault_at (front ++ line ∷ rest) (length front) ≡ fault_after front line
unfolding fault_at
fault_at_next front rest line =
    let here = get_next front rest line in
    let upto = take-append_seam front (line ∷ rest) in
    rw (here, upto) refl

-- lines without a fault stay so where more follow
clean_front : (front rest : List ControlLine) → NoFaultBelow (fault_at front) (length front) → NoFaultBelow (fault_at (front ++ rest)) (length front)
clean_front front rest clean = λ j less. fault_at_front front rest j less ∙ clean j less

-- one more line without a fault
pub clean_more : (front : List ControlLine) (line : ControlLine) → NoFaultBelow (fault_at front) (length front) → fault_after front line ≡ None
    → NoFaultBelow (fault_at (front ++ line ∷ [])) (length (front ++ line ∷ []))
clean_more front line clean good = λ j less. elim (less_or_not j (length front)) [
  | inl below ↦ clean_front front (line ∷ []) clean j below
  | inr not_below ↦
      let is : j ≡ length front = omega (arith, less, length-append front (line ∷ [])) in
      rw is (fault_at_next front [] line ∙ good)
]

-- the first faulty line after lines without a fault
pub fault_of_next : (front rest : List ControlLine) (line : ControlLine) (fault : ControlFault) → NoFaultBelow (fault_at front) (length front)
    → fault_after front line ≡ Some fault.cause → fault.file ≡ line.file → fault.line ≡ line.number → IsFaultOf (front ++ line ∷ rest) fault
fault_of_next front rest line fault clean is file number = record {
  place = length front;
  line = rw (get_next front rest line, file, number) refl;
  first = record {
    within = omega (arith, length-append front (line ∷ rest));
    before = clean_front front (line ∷ rest) clean;
    here = fault_at_next front rest line ∙ is;
  };
}

-- after the last line stands what the whole file lacks
fault_at_end : (lines : List ControlLine) → fault_at lines (length lines) ≡ missing_fault lines
unfolding fault_at
fault_at_end lines = rw (slice_get_past lines (length lines) (omega arith)) refl

pub faultless : (lines : List ControlLine) → NoFaultBelow (fault_at lines) (length lines) → missing_fault lines ≡ None
    → HasNoFault (fault_at lines) (length lines)
faultless lines clean none = λ j within. elim (less_or_not j (length lines)) [
  | inl below ↦ clean j below
  | inr not_below ↦ let is : j ≡ length lines = omega arith in rw is (fault_at_end lines ∙ none)
]

pub fault_of_end : (lines : List ControlLine) (fault : ControlFault) → NoFaultBelow (fault_at lines) (length lines)
    → missing_fault lines ≡ Some fault.cause → fault.file ≡ 0 → fault.line ≡ 0 → IsFaultOf lines fault
fault_of_end lines fault clean is file number = record {
  place = length lines;
  line = rw (slice_get_past lines (length lines) (omega arith), file, number) refl;
  first = record { within = omega arith; before = clean; here = fault_at_end lines ∙ is };
}
