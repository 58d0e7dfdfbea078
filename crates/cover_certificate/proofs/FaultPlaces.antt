-- The place of a first fault among the lines.
use Rattle.std.proofs.Common.{◌≡◌, ℕ, zero, suc, ◌+◌, ◌<◌, ◌≤◌, List, [], ◌∷◌, ◌++◌, length, Option, Some, None, refl, ◌∙◌, ap, arith}
use Rattle.std.specs.Prelude.{slice_get}
use Rattle.text_terms.specs.Faults.{HasNoFault, IsFirstFault}
use Rattle.text_terms.specs.Lines.{LineText}
use Rattle.text_terms.proofs.FaultLaws.{one_cause, first_place}
use Rattle.cover_certificate.specs.declared.block.BlockCause.{BlockCause}
use Rattle.cover_certificate.specs.declared.block.BlockCause.TheVariants.{Form}
use Rattle.cover_certificate.specs.LineForms.{Wanted}
use Rattle.cover_certificate.specs.LineFaults.{line_fault}
use Rattle.cover_certificate.specs.BlockFaults.{IsBlockFault, fault_at, fault_of, wanted_of}
use Rattle.cover_certificate.specs.Inside.FirstFaults.{first_fault, or_later}
use Rattle.cover_certificate.proofs.FirstFaultLaws.{AreFine}

-- the fault of the line at a place
abbrev pub cause_at : List Wanted → List LineText → ℕ → Option BlockCause
cause_at wanted lines place = fault_of (slice_get wanted place) (slice_get lines place)

-- a first fault with its place
pub record Placed (wanted : List Wanted) (lines : List LineText) (number n : ℕ) (cause : BlockCause) : Type 0 where
  pub place : ℕ
  pub number_is : n ≡ number + place
  pub first : IsFirstFault (cause_at wanted lines) (length lines) place cause

-- the first line is faulty
at_first : (wanted : List Wanted) (lines : List LineText) (number n : ℕ) (found cause : BlockCause) → cause_at wanted lines 0 ≡ Some found
    → ◌≡◌ {A = Option (ℕ × BlockCause)} (Some (number, found)) (Some (n, cause)) → Placed wanted lines number n cause
at_first wanted lines number n found cause here e =
    let pair : ◌≡◌ {A = ℕ × BlockCause} (number, found) (n, cause) = cc in
    let same : number ≡ n = ap (λ (f : ℕ × BlockCause). f.0) pair in
    let causes : found ≡ cause = ap (λ (f : ℕ × BlockCause). f.1) pair in
    record {
      place = 0;
      number_is = omega arith;
      first = record { within = omega arith; before = λ j less. absurd (omega arith); here = here ∙ ap Some causes };
    }

-- a later line is
at_later : (w : Wanted) (wanted : List Wanted) (line : LineText) (lines : List LineText) (number n : ℕ) (cause : BlockCause)
    → line_fault w line ≡ None → Placed wanted lines (suc number) n cause → Placed (w ∷ wanted) (line ∷ lines) number n cause
at_later w wanted line lines number n cause fine later =
    let within : later.place ≤ length lines = later.first.within in
    record {
      place = suc later.place;
      number_is = omega (arith, later.number_is);
      first = record {
        within = omega (arith, within);
        before = λ j less. earlier w wanted line lines later.place cause fine later.first j less;
        here = later.first.here;
      };
    }
  where
    earlier : (w : Wanted) (wanted : List Wanted) (line : LineText) (lines : List LineText) (place : ℕ) (cause : BlockCause)
        → line_fault w line ≡ None → IsFirstFault (cause_at wanted lines) (length lines) place cause
        → (j : ℕ) → j < suc place → cause_at (w ∷ wanted) (line ∷ lines) j ≡ None
    earlier w wanted line lines place cause fine first zero less = fine
    earlier w wanted line lines place cause fine first (suc j) less = first.before j (omega arith)

-- a line, by its own fault
by_fault : (w : Wanted) (wanted : List Wanted) (line : LineText) (lines : List LineText) (number n : ℕ) (cause : BlockCause) (fault : Option BlockCause)
    → line_fault w line ≡ fault → (first_fault wanted lines (suc number) ≡ Some (n, cause) → Placed wanted lines (suc number) n cause)
    → or_later fault number (first_fault wanted lines (suc number)) ≡ Some (n, cause) → Placed (w ∷ wanted) (line ∷ lines) number n cause
by_fault w wanted line lines number n cause None is later e = at_later w wanted line lines number n cause is (later e)
by_fault w wanted line lines number n cause (Some found) is later e = at_first (w ∷ wanted) (line ∷ lines) number n found cause is e

pub placed : (wanted : List Wanted) (lines : List LineText) (number n : ℕ) (cause : BlockCause)
    → first_fault wanted lines number ≡ Some (n, cause) → Placed wanted lines number n cause
placed [] lines number n cause e = absurd cc
placed (w ∷ wanted) [] number n cause e = at_first (w ∷ wanted) [] number n Form cause refl e
placed (w ∷ wanted) (line ∷ lines) number n cause e =
    by_fault w wanted line lines number n cause (line_fault w line) refl (placed wanted lines (suc number) n cause) e

-- a first fault of a certificate's lines
pub block_fault : (lines : List LineText) (passed n : ℕ) (cause : BlockCause) → first_fault (wanted_of lines) lines (passed + 1) ≡ Some (n, cause)
    → IsBlockFault lines passed n cause
unfolding fault_at
block_fault lines passed n cause e =
    let at : Placed (wanted_of lines) lines (passed + 1) n cause = placed (wanted_of lines) lines (passed + 1) n cause e in
    record {
      place = at.place;
      number_is = omega (arith, at.number_is);
      first = record { within = at.first.within; before = at.first.before; here = at.first.here };
    }

-- lines that are what they have to be have no fault, whatever follows
pub fine_none : (wanted : List Wanted) (lines rest : List LineText) (j : ℕ) → AreFine wanted lines → cause_at wanted (lines ++ rest) j ≡ None
fine_none [] [] rest j fine = refl
fine_none [] (line ∷ lines) rest j fine = absurd fine
fine_none (w ∷ wanted) [] rest j fine = absurd fine
fine_none (w ∷ wanted) (line ∷ lines) rest zero fine = fine.0
fine_none (w ∷ wanted) (line ∷ lines) rest (suc j) fine = fine_none wanted lines rest j fine.1

pub block_faultless : (lines rest : List LineText) → AreFine (wanted_of (lines ++ rest)) lines → HasNoFault (fault_at (lines ++ rest)) (length (lines ++ rest))
unfolding fault_at
block_faultless lines rest fine = λ j within. fine_none (wanted_of (lines ++ rest)) lines rest j fine

-- a first fault of a certificate is the only one
pub one_fault : (lines : List LineText) (passed p q : ℕ) (c d : BlockCause) → IsBlockFault lines passed p c → IsBlockFault lines passed q d
    → (p ≡ q) × (c ≡ d)
one_fault lines passed p q c d a b =
    let places : a.place ≡ b.place = first_place (fault_at lines) (length lines) a.place b.place c d a.first b.first in
    (omega (arith, a.number_is, b.number_is, places), one_cause (fault_at lines) (length lines) a.place b.place c d a.first b.first)
