-- A main control file, read line by line, with the lines of each included file after its line.
use Rattle.std.proofs.Common.{◌≡◌, ℕ, suc, ◌+◌, ◌-◌, ◌*◌, ◌<◌, ◌≤◌, Bool, true, false, List, [], ◌∷◌, ◌++◌, length, take, drop, Some, inl, inr, refl, sym, ◌∙◌, ap, arith, append_assoc}
use Rattle.std.specs.Prelude.{count_by, slice_get, if◌then◌else◌}
use Rattle.std.specs.List.{flat_map}
use Rattle.std.proofs.lemmas.List.{append-nil, take_all}
use Rattle.std.proofs.lemmas.Grind.{flat_map-append}
use Rattle.text_terms.specs.Lines.{lines_of}
use Rattle.text_terms.specs.Prefixes.{with_those_before}
use Rattle.text_terms.proofs.Cases.{by_bool}
use Rattle.text_terms.proofs.PrefixLaws.{before_push}
use Rattle.edt_text.specs.declared.cursor.Line.{Line}
use Rattle.edt_text.specs.declared.cursor.Lines.{Lines}
use Rattle.edt_text.specs.LineCursor.{line_text, lines_left, lines_passed}
use Rattle.control_reader.specs.declared.draft.ControlDraft.{ControlDraft}
use Rattle.control_reader.specs.declared.fault.ControlFault.{ControlFault}
use Rattle.control_reader.specs.ControlLines.{ControlLine, file_lines, is_include, included_lines, with_file, control_lines}
use Rattle.control_reader.specs.ControlFile.{fault_after, IsFaultOf}
use Rattle.control_reader.specs.Includes.{include_count}
use Rattle.control_reader.specs.Inside.Said.{said_of, control_line}
use Rattle.control_reader.specs.Inside.Follows.{Follows}
use Rattle.control_reader.specs.Inside.SaidLimits.{IsWithin}
use Rattle.control_reader.proofs.ListLaws.{count_front}
use Rattle.control_reader.proofs.DraftSteps.{count_more}
use Rattle.control_reader.proofs.FaultSteps.{fault_of_next}
use Rattle.control_reader.proofs.FileSteps.{Given, given_none, given_next, given_all, few_given}

-- how many lines of a front include a file
abbrev pub includes_to : List ℕ → ℕ → ℕ
includes_to main k = count_by is_include (take k (file_lines 0 main))

-- the lines of a front of the main file, with those of the files that they include
abbrev pub all_lines : List (List ℕ) → List ControlLine → List ControlLine
all_lines included lines =
    flat_map (λ (at : List ControlLine × ControlLine). with_file included (count_by is_include at.0) at.1) (with_those_before lines)

-- all lines up to a place of the main file
abbrev pub lines_to : List ℕ → List (List ℕ) → ℕ → List ControlLine
lines_to main included k = all_lines included (take k (file_lines 0 main))

-- one more line
all_push : (included : List (List ℕ)) (front : List ControlLine) (line : ControlLine)
    → all_lines included (front ++ line ∷ []) ≡ all_lines included front ++ with_file included (count_by is_include front) line
all_push included front line =
    let each : List ControlLine × ControlLine → List ControlLine = λ at. with_file included (count_by is_include at.0) at.1 in
    ap (flat_map each) (before_push front line)
    ∙ flat_map-append each (with_those_before front) ((front, line) ∷ [])
    ∙ ap (λ ls. all_lines included front ++ ls) (append-nil (with_file included (count_by is_include front) line))

-- the lines of a front stand before all others
front_first : (included : List (List ℕ)) (front rest : List ControlLine)
    → (behind : List ControlLine) × (all_lines included (front ++ rest) ≡ all_lines included front ++ behind)
front_first included front [] = ([], ap (all_lines included) (append-nil front) ∙ sym (append-nil (all_lines included front)))
front_first included front (line ∷ rest) =
    let more = front_first included (front ++ line ∷ []) rest in
    let here : List ControlLine = with_file included (count_by is_include front) line in (
      here ++ more.0,
      ap (all_lines included) (sym (append_assoc front (line ∷ []) rest)) ∙ more.1 ∙ ap (λ ls. ls ++ more.0) (all_push included front line)
          ∙ append_assoc (all_lines included front) here more.0,
    )

-- the draft follows all lines up to the one that was given last
pub record Reads (main : List ℕ) (included : List (List ℕ)) (lines : Lines) (draft : ControlDraft) : Type 0 where
  pub given : Given 0 main lines
  pub follows : Follows (lines_to main included (lines_passed lines)) draft
  pub limits : IsWithin (said_of draft)
  pub includes : draft.includes ≡ includes_to main (lines_passed lines)
  pub room : draft.passed ≤ lines_passed lines + 1048577 * draft.includes

-- few lines are counted
pub reads_room : (main : List ℕ) (included : List (List ℕ)) (lines : Lines) (draft : ControlDraft) → Reads main included lines draft → length main ≤ 1048576
    → draft.passed ≤ 17825809
reads_room main included lines draft reads size =
    omega (arith, reads.room, reads.limits.includes, reads.given.within, few_given 0 main)

-- the place of the next line
pub record IsPlace (main : List ℕ) (included : List (List ℕ)) (old new : Lines) (line : Line) : Type 0 where
  pub given : Given 0 main new
  pub more : lines_passed new ≡ suc (lines_passed old)
  pub behind : List ControlLine
  pub whole : control_lines main included ≡ lines_to main included (lines_passed old) ++ (with_file included (includes_to main (lines_passed old)) (control_line 0 line) ++ behind)
  pub lines : lines_to main included (lines_passed new) ≡ lines_to main included (lines_passed old) ++ with_file included (includes_to main (lines_passed old)) (control_line 0 line)
  pub includes : includes_to main (lines_passed new) ≡ (if is_include (control_line 0 line) then includes_to main (lines_passed old) + 1 else includes_to main (lines_passed old))

pub next_place : (main : List ℕ) (included : List (List ℕ)) (old new : Lines) (line : Line) → Given 0 main old
    → lines_left old ≡ line_text line ∷ lines_left new → line.number ≡ lines_passed old + 1 → lines_passed new ≡ line.number
    → IsPlace main included old new line
unfolding control_lines front_first
next_place main included old new line given e number passed =
    let at = given_next 0 main old new line given e number passed in
    let front : List ControlLine = take (lines_passed old) (file_lines 0 main) in
    let more : lines_passed new ≡ suc (lines_passed old) = omega (arith, number, passed) in
    let rest : List ControlLine = drop (lines_passed new) (file_lines 0 main) in
    record {
      given = at.1;
      more = more;
      behind = (front_first included (front ++ control_line 0 line ∷ []) rest).0;
      whole = ap (all_lines included) at.0.whole ∙ (front_first included front (control_line 0 line ∷ rest)).1;
      lines = rw (more, at.0.upto) (all_push included front (control_line 0 line));
      includes = rw (more, at.0.upto) (count_more is_include front (control_line 0 line));
    }

-- a line of the main file, and what stands after it
with_file_behind : (included : List (List ℕ)) (before : ℕ) (line : ControlLine)
    → with_file included before line ≡ line ∷ (if is_include line then included_lines included (before + 1) else [])
with_file_behind included before line = elim (by_bool (is_include line)) [ inl has ↦ rw has refl | inr lacks ↦ rw lacks refl ]

-- whether the line includes a file, by the number of files
same_files : (b : Bool) (old new : ℕ) → new ≡ (if b then old + 1 else old) → new ≤ old → b ≡ false
same_files true old new is less = absurd (omega (arith, is, less))
same_files false old new is less = refl

more_files : (b : Bool) (old new : ℕ) → new ≡ (if b then old + 1 else old) → old < new → b ≡ true
more_files true old new is less = refl
more_files false old new is less = absurd (omega (arith, is, less))

-- one more line that includes no file
pub reads_line : (main : List ℕ) (included : List (List ℕ)) (old new : Lines) (draft next : ControlDraft) (line : Line) → Reads main included old draft
    → IsPlace main included old new line
    → ((before : List ControlLine) → Follows before draft → Follows (before ++ control_line 0 line ∷ []) next)
    → IsWithin (said_of next) → next.includes ≡ (if is_include (control_line 0 line) then draft.includes + 1 else draft.includes)
    → next.includes ≤ draft.includes → next.passed ≤ draft.passed + 1 → Reads main included new next
reads_line main included old new draft next line reads place follows limits includes same room =
    let plain = same_files (is_include (control_line 0 line)) draft.includes next.includes includes same in
    let count : next.includes ≡ draft.includes = includes ∙ ap (λ b. if b then draft.includes + 1 else draft.includes) plain in
    let lines : lines_to main included (lines_passed new) ≡ lines_to main included (lines_passed old) ++ control_line 0 line ∷ [] =
    rw plain at place.lines in
    let places = place.includes
    ∙ ap (λ b. if b then includes_to main (lines_passed old) + 1 else includes_to main (lines_passed old)) plain in
    record {
      given = place.given;
      follows = rw lines (follows (lines_to main included (lines_passed old)) reads.follows);
      limits = limits;
      includes = count ∙ reads.includes ∙ sym places;
      room = omega (arith, reads.room, room, count, place.more);
    }

-- the file of the next line that includes one
pub record IsNextFile (main : List ℕ) (included : List (List ℕ)) (old new : Lines) (line : Line) (draft mid : ControlDraft) (bytes : List ℕ) : Type 0 where
  pub includes : mid.includes ≡ draft.includes + 1
  pub places : includes_to main (lines_passed new) ≡ draft.includes + 1
  pub lines : with_file included (includes_to main (lines_passed old)) (control_line 0 line) ≡ control_line 0 line ∷ file_lines mid.includes bytes

pub next_file : (main : List ℕ) (included : List (List ℕ)) (old new : Lines) (draft mid : ControlDraft) (line : Line) (bytes : List ℕ) → Reads main included old draft
    → IsPlace main included old new line
    → mid.includes ≡ (if is_include (control_line 0 line) then draft.includes + 1 else draft.includes) → draft.includes < mid.includes
    → slice_get included draft.includes ≡ Some bytes → IsNextFile main included old new line draft mid bytes
next_file main included old new draft mid line bytes reads place includes less found =
    let has = more_files (is_include (control_line 0 line)) draft.includes mid.includes includes less in
    let count : mid.includes ≡ draft.includes + 1 = includes ∙ ap (λ b. if b then draft.includes + 1 else draft.includes) has in
    let number : includes_to main (lines_passed old) + 1 ≡ mid.includes = omega (arith, reads.includes, count) in
    let index : mid.includes - 1 ≡ draft.includes = omega (arith, count) in
    let file : included_lines included mid.includes ≡ file_lines mid.includes bytes = rw (index, found) refl in
    record {
      includes = count;
      places =
          place.includes ∙ ap (λ b. if b then includes_to main (lines_passed old) + 1 else includes_to main (lines_passed old)) has
          ∙ ap (λ n. n + 1) (sym reads.includes);
      lines =
          rw has (ap (λ n. control_line 0 line ∷ included_lines included n) number ∙ ap (λ ls. control_line 0 line ∷ ls) file);
    }

-- one more line with its file
pub reads_file : (main : List ℕ) (included : List (List ℕ)) (old new : Lines) (draft mid next : ControlDraft) (line : Line) (bytes : List ℕ) → Reads main included old draft
    → IsPlace main included old new line → IsNextFile main included old new line draft mid bytes
    → ((before : List ControlLine) → Follows before draft → Follows (before ++ control_line 0 line ∷ []) mid)
    → ((before : List ControlLine) → Follows before mid → Follows (before ++ file_lines mid.includes bytes) next)
    → IsWithin (said_of next) → next.includes ≡ mid.includes → mid.passed ≤ draft.passed + 1 → next.passed ≤ mid.passed + 1048577
    → Reads main included new next
reads_file main included old new draft mid next line bytes reads place file follows follows_file limits includes room room_file =
    let front : List ControlLine = lines_to main included (lines_passed old) in
    let both : Follows (front ++ control_line 0 line ∷ [] ++ file_lines mid.includes bytes) next =
    follows_file (front ++ control_line 0 line ∷ []) (follows front reads.follows) in
    let lines : lines_to main included (lines_passed new) ≡ front ++ (control_line 0 line ∷ file_lines mid.includes bytes) =
    place.lines ∙ ap (λ ls. front ++ ls) file.lines in
    record {
      given = place.given;
      follows = rw (lines, ← append_assoc front (control_line 0 line ∷ []) (file_lines mid.includes bytes)) both;
      limits = limits;
      includes = includes ∙ file.includes ∙ sym file.places;
      room = omega (arith, reads.room, room, room_file, includes, file.includes, place.more);
    }

-- a fault of a line of the main file
pub reads_fault : (main : List ℕ) (included : List (List ℕ)) (old new : Lines) (draft : ControlDraft) (line : Line) (fault : ControlFault) → Reads main included old draft
    → IsPlace main included old new line → fault.file ≡ 0 → fault.line ≡ line.number
    → ((before : List ControlLine) → Follows before draft → fault_after before (control_line 0 line) ≡ Some fault.cause)
    → IsFaultOf (control_lines main included) fault
reads_fault main included old new draft line fault reads place of_file of_line is =
    let front : List ControlLine = lines_to main included (lines_passed old) in
    let before : ℕ = includes_to main (lines_passed old) in
    let behind : List ControlLine = if is_include (control_line 0 line) then included_lines included (before + 1) else [] in
    let whole : control_lines main included ≡ front ++ control_line 0 line ∷ (behind ++ place.behind) =
    place.whole ∙ ap (λ ls. front ++ (ls ++ place.behind)) (with_file_behind included before (control_line 0 line)) in
    rw whole
    (fault_of_next front (behind ++ place.behind) (control_line 0 line) fault reads.follows.clean (is front reads.follows) of_file of_line)

-- a fault of a line of the included file
pub reads_file_fault : (main : List ℕ) (included : List (List ℕ)) (old new : Lines) (draft mid : ControlDraft) (line : Line) (bytes : List ℕ) (fault : ControlFault)
    → Reads main included old draft → IsPlace main included old new line → IsNextFile main included old new line draft mid bytes
    → ((before : List ControlLine) → Follows before draft → Follows (before ++ control_line 0 line ∷ []) mid)
    → ((before rest : List ControlLine) → Follows before mid → IsFaultOf (before ++ file_lines mid.includes bytes ++ rest) fault)
    → IsFaultOf (control_lines main included) fault
reads_file_fault main included old new draft mid line bytes fault reads place file follows is =
    let front : List ControlLine = lines_to main included (lines_passed old) in
    let lines : List ControlLine = file_lines mid.includes bytes in
    let found = is (front ++ control_line 0 line ∷ []) place.behind (follows front reads.follows) in
    let whole : control_lines main included ≡ front ++ control_line 0 line ∷ [] ++ lines ++ place.behind =
    place.whole ∙ ap (λ ls. front ++ (ls ++ place.behind)) file.lines
    ∙ sym (append_assoc front (control_line 0 line ∷ lines) place.behind)
    ∙ ap (λ ls. ls ++ place.behind) (sym (append_assoc front (control_line 0 line ∷ []) lines)) in
    rw whole found

-- no line is left
pub reads_all : (main : List ℕ) (included : List (List ℕ)) (lines : Lines) (draft : ControlDraft) → Reads main included lines draft → lines_left lines ≡ []
    → Follows (control_lines main included) draft
unfolding control_lines
reads_all main included lines draft reads end =
    let all = given_all 0 main lines reads.given end in
    let whole = take_all (lines_passed lines) (file_lines 0 main) (omega (arith, all)) in
    rw whole at reads.follows

-- the file of a line is among the included ones
pub file_within : (main : List ℕ) (included : List (List ℕ)) (old new : Lines) (draft : ControlDraft) (line : Line) (files : ℕ) → Reads main included old draft
    → IsPlace main included old new line
    → files ≡ (if is_include (control_line 0 line) then draft.includes + 1 else draft.includes) → draft.includes < files
    → draft.includes < include_count main
file_within main included old new draft line files reads place includes less =
    let has = more_files (is_include (control_line 0 line)) draft.includes files includes less in
    let places = place.includes
    ∙ ap (λ b. if b then includes_to main (lines_passed old) + 1 else includes_to main (lines_passed old)) has in
    omega (arith, reads.includes, places, count_front is_include (lines_passed new) (file_lines 0 main))

-- no line was given
pub reads_none : (main : List ℕ) (included : List (List ℕ)) (lines : Lines) (draft : ControlDraft) → lines_left lines ≡ lines_of main → lines_passed lines ≡ 0
    → Follows [] draft → IsWithin (said_of draft) → draft.includes + draft.passed ≡ 0 → Reads main included lines draft
reads_none main included lines draft left none follows limits empty = record {
  given = given_none 0 main lines left none;
  follows = rw none follows;
  limits = limits;
  includes = let no_files : draft.includes ≡ 0 = omega (arith, empty) in rw none no_files;
  room = omega (arith, empty);
}
