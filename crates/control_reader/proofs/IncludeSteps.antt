-- The names of included files, read line by line.
use Rattle.std.proofs.Common.{◌≡◌, ℕ, suc, ◌+◌, ◌<◌, ◌≤◌, List, [], ◌∷◌, ◌++◌, length, take, drop, Some, None, inl, inr, refl, sym, ◌∙◌, ap, arith, length-append}
use Rattle.std.specs.Prelude.{map, filter, count_by, codes}
use Rattle.std.proofs.Math.Seq.{take-append_seam}
use Rattle.std.proofs.lemmas.List.{map-append, take-append-le, take_all, length-map}
use Rattle.std.proofs.lemmas.List.Elements.{filter-append}
use Rattle.std.proofs.lemmas.List.Sums.{length-filter}
use Rattle.std.proofs.lemmas.Grind.{common_steps}
use Rattle.std.proofs.lemmas.Option.{slice_get_past}
use Rattle.text_terms.specs.Lines.{lines_of}
use Rattle.text_terms.proofs.Cases.{by_bool, less_or_not}
use Rattle.edt_text.specs.declared.cursor.Line.{Line}
use Rattle.edt_text.specs.declared.cursor.Lines.{Lines}
use Rattle.edt_text.specs.LineCursor.{line_text, lines_left, lines_passed}
use Rattle.control_reader.specs.declared.fault.ControlCause.{ControlCause}
use Rattle.control_reader.specs.ControlLines.{ControlLine, file_lines, is_include, arguments_of, statements_with}
use Rattle.control_reader.specs.Values.{include_of}
use Rattle.control_reader.specs.Inside.Said.{control_line}
use Rattle.control_reader.specs.Includes.{name_fault_after, name_fault_at, include_line_fault, include_count, AreIncludes, IsIncludeFault}
use Rattle.control_reader.specs.Inside.IncludeNames.{names_in, name_fault_by, NamesFollow}
use Rattle.control_reader.proofs.ListLaws.{get_front, get_next}
use Rattle.control_reader.proofs.FileSteps.{Given, given_none, given_next, given_all}

-- as many names as lines that include a file
count_names : (before : List ControlLine) (names : List (List ℕ)) → NamesFollow before names → count_by is_include before ≡ length names
unfolding statements_with
count_names before names follows =
    let listed = ap length follows.listed in
    let found : List ControlLine = filter is_include before in
    omega (arith, listed, length-map (map arguments_of found) include_of, length-map found arguments_of, length-filter is_include before)

-- the fault of a line by the number of names before it
same_name_fault : (before : List ControlLine) (names : List (List ℕ)) (line : ControlLine) → NamesFollow before names
    → name_fault_by (length names) line ≡ name_fault_after before line
unfolding name_fault_by include_line_fault
same_name_fault before names line follows = elim (by_bool (is_include line)) [
  | inl has ↦ let count = count_names before names follows in rw (has, count) refl
  | inr lacks ↦ rw lacks refl
]

-- the fault at a place of a front, and at the place after it
name_fault_front : (front rest : List ControlLine) (j : ℕ) → j < length front → name_fault_at (front ++ rest) j ≡ name_fault_at front j
unfolding name_fault_at
name_fault_front front rest j less =
    let part = get_front front rest j less in
    let within : j ≤ length front = omega arith in
    let upto = take-append-le j front rest within in
    rw (part, upto) refl

name_fault_next : (front rest : List ControlLine) (line : ControlLine) → name_fault_at (front ++ line ∷ rest) (length front) ≡ name_fault_after front line
unfolding name_fault_at
name_fault_next front rest line =
    let here = get_next front rest line in
    let upto = take-append_seam front (line ∷ rest) in
    rw (here, upto) refl

names_listed : (before : List ControlLine) (line : ControlLine)
    → map include_of (statements_with (codes "INCLUDE") (before ++ line ∷ [])) ≡ map include_of (statements_with (codes "INCLUDE") before) ++ names_in line
unfolding statements_with
names_listed before line =
    let parts = filter-append is_include before (line ∷ []) in
    let front : List ControlLine = filter is_include before in
    let back : List ControlLine = filter is_include (line ∷ []) in
    let one : map include_of (map arguments_of back) ≡ names_in line =
    elim (by_bool (is_include line)) [ inl has ↦ rw has refl | inr lacks ↦ rw lacks refl ] in
    ap (λ ls. map include_of (map arguments_of ls)) parts
    ∙ ap (map include_of) (map-append arguments_of front back)
    ∙ map-append include_of (map arguments_of front) (map arguments_of back)
    ∙ ap (λ ns. map include_of (map arguments_of front) ++ ns) one

-- one more line without a fault
pub names_follow : (before : List ControlLine) (line : ControlLine) (old new : List (List ℕ)) → NamesFollow before old → new ≡ old ++ names_in line
    → name_fault_by (length old) line ≡ None → NamesFollow (before ++ line ∷ []) new
names_follow before line old new follows value good = record {
  listed = value ∙ ap (λ ns. ns ++ names_in line) follows.listed ∙ sym (names_listed before line);
  clean = λ j less. elim (less_or_not j (length before)) [
    | inl below ↦ name_fault_front before (line ∷ []) j below ∙ follows.clean j below
    | inr not_below ↦
        let is : j ≡ length before = omega (arith, less, length-append before (line ∷ [])) in
        rw is (name_fault_next before [] line ∙ sym (same_name_fault before old line follows) ∙ good)
  ];
}

-- no line stands past the end
past_end : (lines : List ControlLine) (j : ℕ) → length lines ≤ j → name_fault_at lines j ≡ None
unfolding name_fault_at
past_end lines j past = rw (slice_get_past lines j past) refl

front_length : (k : ℕ) (lines : List ControlLine) → k ≤ length lines → length (take k lines) ≡ k
front_length k lines within = grind (arith, common_steps)

-- the names follow the lines that were given
pub record ReadsNames (main : List ℕ) (lines : Lines) (names : List (List ℕ)) : Type 0 where
  pub given : Given 0 main lines
  pub follows : NamesFollow (take (lines_passed lines) (file_lines 0 main)) names

pub names_next : (main : List ℕ) (old new : Lines) (names next : List (List ℕ)) (line : Line) → ReadsNames main old names
    → lines_left old ≡ line_text line ∷ lines_left new → line.number ≡ lines_passed old + 1 → lines_passed new ≡ line.number
    → next ≡ names ++ names_in (control_line 0 line) → name_fault_by (length names) (control_line 0 line) ≡ None → ReadsNames main new next
names_next main old new names next line reads e number passed value good =
    let at = given_next 0 main old new line reads.given e number passed in
    let more : lines_passed new ≡ suc (lines_passed old) = omega (arith, number, passed) in
    record {
      given = at.1;
      follows = rw (more, at.0.upto) (names_follow (take (lines_passed old) (file_lines 0 main)) (control_line 0 line) names next reads.follows value good);
    }

pub names_fault : (main : List ℕ) (old new : Lines) (names : List (List ℕ)) (line : Line) (cause : ControlCause) → ReadsNames main old names
    → lines_left old ≡ line_text line ∷ lines_left new → line.number ≡ lines_passed old + 1 → lines_passed new ≡ line.number
    → name_fault_by (length names) (control_line 0 line) ≡ Some cause
    → IsIncludeFault main (record { file = 0; line = line.number; cause = cause })
names_fault main old new names line cause reads e number passed is =
    let at = given_next 0 main old new line reads.given e number passed in
    let front : List ControlLine = take (lines_passed old) (file_lines 0 main) in
    let place : length front ≡ lines_passed old = front_length (lines_passed old) (file_lines 0 main) (omega (arith, at.0.within)) in
    let behind : List ControlLine = drop (lines_passed new) (file_lines 0 main) in
    let whole : file_lines 0 main ≡ front ++ control_line 0 line ∷ behind = at.0.whole in
    let here : name_fault_at (file_lines 0 main) (lines_passed old) ≡ Some cause =
    ap (λ ls. name_fault_at ls (lines_passed old)) whole ∙ ap (name_fault_at (front ++ control_line 0 line ∷ behind)) (sym place)
    ∙ name_fault_next front behind (control_line 0 line) ∙ sym (same_name_fault front names (control_line 0 line) reads.follows) ∙ is in
    record {
      place = lines_passed old;
      file = refl;
      line = number;
      first = record {
        within = omega (arith, at.0.within);
        before = λ j less.
            let below : j < length front = omega (arith, place, less) in
            ap (λ ls. name_fault_at ls j) whole ∙ name_fault_front front (control_line 0 line ∷ behind) j below ∙ reads.follows.clean j below;
        here = here;
      };
    }

pub names_all : (main : List ℕ) (lines : Lines) (names : List (List ℕ)) → ReadsNames main lines names → lines_left lines ≡ [] → AreIncludes main names
names_all main lines names reads end =
    let all = given_all 0 main lines reads.given end in
    let most : length (file_lines 0 main) ≤ lines_passed lines = omega (arith, all) in
    let whole = take_all (lines_passed lines) (file_lines 0 main) most in
    let follows : NamesFollow (file_lines 0 main) names = rw whole at reads.follows in
    record {
      faultless = λ j within. elim (less_or_not j (length (file_lines 0 main))) [
        | inl below ↦ follows.clean j below
        | inr not_below ↦ past_end (file_lines 0 main) j not_below
      ];
      listed = follows.listed;
    }

-- no line was given
pub reads_no_names : (main : List ℕ) (lines : Lines) (names : List (List ℕ)) → lines_left lines ≡ lines_of main → lines_passed lines ≡ 0 → names ≡ []
    → ReadsNames main lines names
unfolding statements_with
reads_no_names main lines names left none empty = record {
  given = given_none 0 main lines left none;
  follows = rw (none, empty) record { listed = refl; clean = λ j less. absurd (omega (arith, less)) };
}

-- there are as many names as lines that include a file
pub names_count : (main : List ℕ) (lines : Lines) (names : List (List ℕ)) → ReadsNames main lines names → lines_left lines ≡ []
    → length names ≡ include_count main
names_count main lines names reads end =
    let all = given_all 0 main lines reads.given end in
    let most : length (file_lines 0 main) ≤ lines_passed lines = omega (arith, all) in
    let whole = take_all (lines_passed lines) (file_lines 0 main) most in
    let follows : NamesFollow (file_lines 0 main) names = rw whole at reads.follows in
    sym (count_names (file_lines 0 main) names follows)
