-- An included file, taken line by line.
use Rattle.std.proofs.Common.{◌≡◌, ℕ, suc, ◌+◌, ◌≤◌, List, [], ◌∷◌, ◌++◌, length, take, drop, Some, refl, sym, ◌∙◌, ap, arith, append_assoc}
use Rattle.std.specs.Prelude.{map}
use Rattle.std.specs.List.{enumerate_from}
use Rattle.std.proofs.lemmas.List.{take_all, length-map}
use Rattle.std.proofs.lemmas.List.FromFn.{length-enumerate_from}
use Rattle.text_terms.specs.Lines.{LineText, lines_of}
use Rattle.edt_text.specs.declared.cursor.Line.{Line}
use Rattle.edt_text.specs.declared.cursor.Lines.{Lines}
use Rattle.edt_text.specs.LineCursor.{line_text, lines_left, lines_passed}
use Rattle.control_reader.specs.declared.draft.ControlDraft.{ControlDraft}
use Rattle.control_reader.specs.declared.fault.ControlFault.{ControlFault}
use Rattle.control_reader.specs.ControlLines.{ControlLine, file_lines}
use Rattle.control_reader.specs.ControlFile.{fault_after, IsFaultOf}
use Rattle.control_reader.specs.Inside.Said.{said_of, control_line}
use Rattle.control_reader.specs.Inside.Follows.{Follows}
use Rattle.control_reader.specs.Inside.SaidLimits.{IsWithin}
use Rattle.text_terms.proofs.ListLaws.{IsHere, drop_here, drop_none}
use Rattle.control_reader.proofs.ListLaws.{few_lines}
use Rattle.control_reader.proofs.FaultSteps.{fault_of_next}

-- the lines of a file from a number on
abbrev numbered : ℕ → ℕ → List (List ℕ) → List ControlLine
numbered file n texts = map (λ (line : ℕ × List ℕ). record { file = file; number = line.0; bytes = line.1 }) (enumerate_from n texts)

abbrev texts : List LineText → List (List ℕ)
texts lines = map (λ (line : LineText). line.bytes) lines

-- so many lines of a file were given, and these are left
pub record Given (file : ℕ) (bytes : List ℕ) (lines : Lines) : Type 0 where
  pub left : drop (lines_passed lines) (file_lines file bytes) ≡ numbered file (lines_passed lines + 1) (texts (lines_left lines))
  pub within : lines_passed lines ≤ length (file_lines file bytes)

pub given_none : (file : ℕ) (bytes : List ℕ) (lines : Lines) → lines_left lines ≡ lines_of bytes → lines_passed lines ≡ 0 → Given file bytes lines
given_none file bytes lines left none = record { left = rw (none, left) refl; within = omega (arith, none) }

-- the next line
abbrev pub IsNext : ℕ → List ℕ → Lines → Line → Lines → Type 0
IsNext file bytes old line new =
    IsHere (lines_passed old) (file_lines file bytes) (control_line file line) (drop (lines_passed new) (file_lines file bytes)) × Given file bytes new

pub given_next : (file : ℕ) (bytes : List ℕ) (old new : Lines) (line : Line) → Given file bytes old
    → lines_left old ≡ line_text line ∷ lines_left new → line.number ≡ lines_passed old + 1 → lines_passed new ≡ line.number
    → IsNext file bytes old line new
given_next file bytes old new line given e number passed =
    let more : lines_passed new ≡ suc (lines_passed old) = omega (arith, number, passed) in
    let same : lines_passed old + 1 ≡ line.number = sym number in
    let left : drop (lines_passed old) (file_lines file bytes) ≡ control_line file line ∷ numbered file (line.number + 1) (texts (lines_left new)) =
    given.left ∙ ap (λ ls. numbered file (lines_passed old + 1) (texts ls)) e
    ∙ ap (λ n. record { file = file; number = n; bytes = line.bytes.now } ∷ numbered file (n + 1) (texts (lines_left new))) same in
    let cut = drop_here (lines_passed old) (file_lines file bytes) (control_line file line) (numbered file (line.number + 1) (texts (lines_left new))) left in
    let behind : drop (lines_passed new) (file_lines file bytes) ≡ numbered file (line.number + 1) (texts (lines_left new)) = rw more cut.behind in (
      rw behind cut,
      record { left = behind ∙ ap (λ n. numbered file (n + 1) (texts (lines_left new))) (sym passed); within = omega (arith, more, cut.within) },
    )

-- no line is left
pub given_all : (file : ℕ) (bytes : List ℕ) (lines : Lines) → Given file bytes lines → lines_left lines ≡ []
    → lines_passed lines ≡ length (file_lines file bytes)
given_all file bytes lines given end =
    let none : drop (lines_passed lines) (file_lines file bytes) ≡ [] = given.left ∙ ap (λ ls. numbered file (lines_passed lines + 1) (texts ls)) end in
    omega (arith, drop_none (lines_passed lines) (file_lines file bytes) none, given.within)

-- there are at most as many lines as bytes, and one more
pub few_given : (file : ℕ) (bytes : List ℕ) → length (file_lines file bytes) ≤ length bytes + 1
few_given file bytes =
    let all : List (ℕ × List ℕ) = enumerate_from 1 (texts (lines_of bytes)) in
    let line : ℕ × List ℕ → ControlLine = λ line. record { file = file; number = line.0; bytes = line.1 } in
    omega (
      arith,
      length-map all line,
      length-enumerate_from 1 (texts (lines_of bytes)),
      length-map (lines_of bytes) (λ (line : LineText). line.bytes),
      few_lines bytes,
    )

-- the draft follows the lines that were given
pub record TakesFile (file : ℕ) (bytes : List ℕ) (lines : Lines) (start draft : ControlDraft) : Type 0 where
  pub given : Given file bytes lines
  pub follows : (before : List ControlLine) → Follows before start → Follows (before ++ take (lines_passed lines) (file_lines file bytes)) draft
  pub limits : IsWithin (said_of draft)
  pub includes : draft.includes ≡ start.includes
  pub room : draft.passed ≤ start.passed + lines_passed lines

pub takes_next : (file : ℕ) (bytes : List ℕ) (old new : Lines) (start draft next : ControlDraft) (line : Line) → TakesFile file bytes old start draft
    → lines_left old ≡ line_text line ∷ lines_left new → line.number ≡ lines_passed old + 1 → lines_passed new ≡ line.number
    → ((before : List ControlLine) → Follows before draft → Follows (before ++ control_line file line ∷ []) next)
    → IsWithin (said_of next) → next.includes ≡ draft.includes → next.passed ≤ draft.passed + 1 → TakesFile file bytes new start next
takes_next file bytes old new start draft next line takes e number passed follows limits includes room =
    let at = given_next file bytes old new line takes.given e number passed in
    let more : lines_passed new ≡ suc (lines_passed old) = omega (arith, number, passed) in
    record {
      given = at.1;
      follows = λ before start_follows.
          rw (more, at.0.upto, ← append_assoc before (take (lines_passed old) (file_lines file bytes)) (control_line file line ∷ []))
          (follows (before ++ take (lines_passed old) (file_lines file bytes)) (takes.follows before start_follows));
      limits = limits;
      includes = includes ∙ takes.includes;
      room = omega (arith, takes.room, room, more);
    }

-- a line with a fault
pub takes_fault : (file : ℕ) (bytes : List ℕ) (old new : Lines) (start draft : ControlDraft) (line : Line) (fault : ControlFault) → TakesFile file bytes old start draft
    → lines_left old ≡ line_text line ∷ lines_left new → line.number ≡ lines_passed old + 1 → lines_passed new ≡ line.number
    → fault.file ≡ file → fault.line ≡ line.number
    → ((before : List ControlLine) → Follows before draft → fault_after before (control_line file line) ≡ Some fault.cause)
    → (before rest : List ControlLine) → Follows before start → IsFaultOf (before ++ file_lines file bytes ++ rest) fault
takes_fault file bytes old new start draft line fault takes e number passed of_file of_line is before rest start_follows =
    let at = given_next file bytes old new line takes.given e number passed in
    let front : List ControlLine = before ++ take (lines_passed old) (file_lines file bytes) in
    let behind : List ControlLine = drop (lines_passed new) (file_lines file bytes) in
    let follows : Follows front draft = takes.follows before start_follows in
    let found = fault_of_next front (behind ++ rest) (control_line file line) fault follows.clean (is front follows) of_file of_line in
    let whole : before ++ file_lines file bytes ++ rest ≡ front ++ control_line file line ∷ (behind ++ rest) =
    ap (λ ls. before ++ ls ++ rest) at.0.whole
    ∙ ap (λ ls. ls ++ rest) (sym (append_assoc before (take (lines_passed old) (file_lines file bytes)) (control_line file line ∷ behind)))
    ∙ append_assoc front (control_line file line ∷ behind) rest in
    rw whole found

-- all lines were given
pub takes_all : (file : ℕ) (bytes : List ℕ) (lines : Lines) (start draft : ControlDraft) → TakesFile file bytes lines start draft → lines_left lines ≡ []
    → (before : List ControlLine) → Follows before start → Follows (before ++ file_lines file bytes) draft
takes_all file bytes lines start draft takes end before start_follows =
    let all = given_all file bytes lines takes.given end in
    let most : length (file_lines file bytes) ≤ lines_passed lines = omega (arith, all) in
    let whole = take_all (lines_passed lines) (file_lines file bytes) most in
    rw whole at takes.follows before start_follows

pub takes_room : (file : ℕ) (bytes : List ℕ) (lines : Lines) (start draft : ControlDraft) → TakesFile file bytes lines start draft → length bytes ≤ 1048576
    → draft.passed ≤ start.passed + 1048577
takes_room file bytes lines start draft takes size = omega (arith, takes.room, takes.given.within, few_given file bytes)
