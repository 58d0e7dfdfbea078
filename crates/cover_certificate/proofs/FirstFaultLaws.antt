-- The first fault of lines.
use Rattle.std.proofs.Common.{◌≡◌, ℕ, suc, ◌+◌, List, [], ◌∷◌, ◌++◌, length, drop, Option, Some, None, refl, ◌∙◌, ap, arith}
use Rattle.std.specs.Prelude.{slice_get}
use Rattle.text_terms.specs.Lines.{LineText}
use Rattle.cover_certificate.specs.declared.block.BlockCause.{BlockCause}
use Rattle.cover_certificate.specs.declared.block.BlockCause.TheVariants.{Form}
use Rattle.cover_certificate.specs.LineForms.{Wanted}
use Rattle.cover_certificate.specs.LineFaults.{fault_in, line_fault}
use Rattle.cover_certificate.specs.Inside.FirstFaults.{or_later, first_fault}

-- a line with a fault
pub fault_here : (wanted : Wanted) (more : List Wanted) (lines rest : List LineText) (line : LineText) (number here : ℕ) (cause : BlockCause)
    → lines ≡ line ∷ rest → here ≡ number → line_fault wanted line ≡ Some cause
    → first_fault (wanted ∷ more) lines number ≡ Some (here, cause)
fault_here wanted more lines rest line number here cause is same fault = rw (is, fault, same) refl

-- a missing line
pub fault_missing : (wanted : Wanted) (more : List Wanted) (lines : List LineText) (number here : ℕ) (cause : BlockCause)
    → lines ≡ [] → here ≡ number → cause ≡ Form → first_fault (wanted ∷ more) lines number ≡ Some (here, cause)
fault_missing wanted more lines number here cause is same form = rw (is, form, same) refl

-- a fault among the first lines is the first fault
or_later-Some : (fault : Option BlockCause) (number : ℕ) (later more : Option (ℕ × BlockCause)) (f : ℕ × BlockCause)
    → (later ≡ Some f → more ≡ Some f) → or_later fault number later ≡ Some f → or_later fault number more ≡ Some f
or_later-Some None number later more f goes e = goes e
or_later-Some (Some cause) number later more f goes e = e

pub first_fault-front : (wanted more : List Wanted) (lines : List LineText) (number : ℕ) (f : ℕ × BlockCause)
    → first_fault wanted lines number ≡ Some f → first_fault (wanted ++ more) lines number ≡ Some f
first_fault-front [] more lines number f e = absurd cc
first_fault-front (w ∷ wanted) more lines number f e =
    or_later-Some (fault_in w (slice_get lines 0)) number (first_fault wanted (drop 1 lines) (suc number))
    (first_fault (wanted ++ more) (drop 1 lines) (suc number)) f (first_fault-front wanted more (drop 1 lines) (suc number) f) e

-- as many lines as are wanted, and none of them faulty
abbrev pub AreFine : List Wanted → List LineText → Type 0
AreFine [] [] = Unit {0}
AreFine [] (line ∷ lines) = ⊥
AreFine (wanted ∷ more) [] = ⊥
AreFine (wanted ∷ more) (line ∷ lines) = (line_fault wanted line ≡ None) × AreFine more lines

-- after lines without a fault
pub first_fault-after : (wanted more : List Wanted) (lines rest : List LineText) (number : ℕ) → AreFine wanted lines
    → first_fault (wanted ++ more) (lines ++ rest) number ≡ first_fault more rest (number + length lines)
first_fault-after [] more [] rest number fine = ap (first_fault more rest) (omega arith)
first_fault-after [] more (line ∷ lines) rest number fine = absurd fine
first_fault-after (w ∷ wanted) more [] rest number fine = absurd fine
first_fault-after (w ∷ wanted) more (line ∷ lines) rest number fine =
    rw (fine.0) (first_fault-after wanted more lines rest (suc number) fine.1 ∙ ap (first_fault more rest) (omega arith))

pub fine-append : (a b : List Wanted) (lines rest : List LineText) → AreFine a lines → AreFine b rest → AreFine (a ++ b) (lines ++ rest)
fine-append [] b [] rest fine more = more
fine-append [] b (line ∷ lines) rest fine more = absurd fine
fine-append (w ∷ a) b [] rest fine more = absurd fine
fine-append (w ∷ a) b (line ∷ lines) rest fine more = (fine.0, fine-append a b lines rest fine.1 more)
