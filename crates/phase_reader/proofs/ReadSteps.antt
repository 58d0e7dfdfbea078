-- A phase file, read line by line.
use Rattle.std.proofs.Common.{◌≡◌, ℕ, suc, ◌+◌, ◌<◌, ◌≤◌, List, [], ◌∷◌, ◌++◌, length, take, drop, Option, Some, None, inl, inr, refl, sym, ◌∙◌, ap, arith}
use Rattle.std.specs.Prelude.{map, nat_lt}
use Rattle.std.specs.List.{slice_get}
use Rattle.std.proofs.lemmas.List.{take_all}
use Rattle.std.proofs.lemmas.List.FromFn.{length-enumerate_from}
use Rattle.std.proofs.lemmas.Option.{slice_get_past}
use Rattle.std.proofs.lemmas.Grind.{common_steps}
use Rattle.text_terms.specs.Faults.{NoFaultBelow}
use Rattle.text_terms.specs.Lines.{LineText, lines_of, NumberedLine, numbered_lines}
use Rattle.text_terms.proofs.Cases.{by_bool}
use Rattle.edt_text.specs.declared.cursor.Line.{Line}
use Rattle.edt_text.specs.declared.cursor.Lines.{Lines}
use Rattle.edt_text.specs.LineCursor.{line_text, lines_left, lines_passed}
use Rattle.phase_reader.specs.declared.draft.PhaseDraft.{PhaseDraft}
use Rattle.phase_reader.specs.declared.fault.PhaseCause.{PhaseCause}
use Rattle.phase_reader.specs.declared.phases.Phases.{Phases}
use Rattle.phase_reader.specs.PickFields.{pick_of}
use Rattle.phase_reader.specs.PhaseEvents.{closed_lines}
use Rattle.phase_reader.specs.PhaseFile.{fault_after, fault_at, picks_of_events, IsReading, IsPhaseFault}
use Rattle.phase_reader.specs.Inside.Drafts.{as_event, Follows}
use Rattle.text_terms.proofs.ListLaws.{IsHere, drop_here, drop_none}
use Rattle.phase_reader.proofs.ListLaws.{IsNumbered, numbered_here}
use Rattle.phase_reader.proofs.DraftSteps.{events_cut}

-- the bytes of lines
abbrev pub texts : List LineText → List (List ℕ)
texts lines = map (λ (line : LineText). line.bytes) lines

-- the lines that were given so far have no fault, and the draft follows them
pub record Reads (bytes : List ℕ) (lines : Lines) (draft : PhaseDraft) : Type 0 where
  pub left : texts (lines_left lines) ≡ drop (lines_passed lines) (texts (lines_of bytes))
  pub follows : Follows (take (lines_passed lines) (numbered_lines bytes)) draft
  pub clean : NoFaultBelow (fault_at (numbered_lines bytes)) (lines_passed lines)
  pub room : draft.passed ≤ lines_passed lines

-- the fault at a place is that of the line there
fault_here : (lines : List NumberedLine) (k : ℕ) (line : NumberedLine) (found : Option PhaseCause) → slice_get lines k ≡ Some line
    → fault_after (take k lines) line ≡ found → fault_at lines k ≡ found
unfolding fault_at
fault_here lines k line found here e = rw here e

fault_past : (lines : List NumberedLine) (k : ℕ) → length lines ≤ k → fault_at lines k ≡ None
unfolding fault_at
fault_past lines k past = rw (slice_get_past lines k past) refl

-- the next line, where it stands among the lines of the file
pub record IsNext (bytes : List ℕ) (k : ℕ) (line : NumberedLine) (rest : List (List ℕ)) : Type 0 where
  pub here : slice_get (numbered_lines bytes) k ≡ Some line
  pub upto : take (suc k) (numbered_lines bytes) ≡ take k (numbered_lines bytes) ++ line ∷ []
  pub behind : rest ≡ drop (suc k) (texts (lines_of bytes))
  pub within : k < length (numbered_lines bytes)

next_line : (bytes : List ℕ) (old new : Lines) (draft : PhaseDraft) (line : Line) → Reads bytes old draft
    → lines_left old ≡ line_text line ∷ lines_left new → line.number ≡ lines_passed old + 1
    → IsNext bytes (lines_passed old) (line.number, line.bytes.now) (texts (lines_left new))
next_line bytes old new draft line reads e number =
    let at : IsHere (lines_passed old) (texts (lines_of bytes)) line.bytes.now (texts (lines_left new)) =
    drop_here (lines_passed old) (texts (lines_of bytes)) line.bytes.now (texts (lines_left new)) (sym reads.left ∙ ap texts e) in
    let found : IsNumbered 1 (lines_passed old) (texts (lines_of bytes)) line.bytes.now =
    numbered_here 1 (lines_passed old) (texts (lines_of bytes)) line.bytes.now at.here in
    let same : 1 + lines_passed old ≡ line.number = omega arith in
    record {
      here = rw same at found.here;
      upto = rw same at found.upto;
      behind = sym at.behind;
      within = omega (arith, at.within, length-enumerate_from 1 (texts (lines_of bytes)));
    }

-- one more line without a fault
pub reads_next : (bytes : List ℕ) (old new : Lines) (draft next : PhaseDraft) (line : Line) → Reads bytes old draft
    → lines_left old ≡ line_text line ∷ lines_left new → line.number ≡ lines_passed old + 1 → lines_passed new ≡ line.number
    → ((before : List NumberedLine) → Follows before draft → Follows (before ++ (line.number, line.bytes.now) ∷ []) next)
    → ((before : List NumberedLine) → Follows before draft → fault_after before (line.number, line.bytes.now) ≡ None)
    → next.passed ≤ line.number → Reads bytes new next
reads_next bytes old new draft next line reads e number passed follows good room =
    let at = next_line bytes old new draft line reads e number in
    let more : lines_passed new ≡ suc (lines_passed old) = omega arith in
    let none : fault_at (numbered_lines bytes) (lines_passed old) ≡ None =
    fault_here (numbered_lines bytes) (lines_passed old) (line.number, line.bytes.now) None at.here
    (good (take (lines_passed old) (numbered_lines bytes)) reads.follows) in
    record {
      left = rw more at.behind;
      follows = rw (more, at.upto) (follows (take (lines_passed old) (numbered_lines bytes)) reads.follows);
      clean = λ j less. elim (by_bool (nat_lt j (lines_passed old))) [
        | inl below ↦ let before : j < lines_passed old = grind (arith, common_steps) in reads.clean j before
        | inr not_below ↦ let same : j ≡ lines_passed old = grind (arith, common_steps) in rw same none
      ];
      room = omega arith;
    }

-- a line with a fault
pub reads_fault : (bytes : List ℕ) (old new : Lines) (draft : PhaseDraft) (line : Line) (cause : PhaseCause) → Reads bytes old draft
    → lines_left old ≡ line_text line ∷ lines_left new → line.number ≡ lines_passed old + 1
    → ((before : List NumberedLine) → Follows before draft → fault_after before (line.number, line.bytes.now) ≡ Some cause)
    → IsPhaseFault bytes (record { line = line.number; cause = cause })
reads_fault bytes old new draft line cause reads e number fault =
    let at = next_line bytes old new draft line reads e number in
    record {
      place = lines_passed old;
      line = number;
      first = record {
        within = omega (arith, at.within);
        before = reads.clean;
        here =
            fault_here (numbered_lines bytes) (lines_passed old) (line.number, line.bytes.now) (Some cause) at.here
            (fault (take (lines_passed old) (numbered_lines bytes)) reads.follows);
      };
    }

-- no line is left
pub reads_end : (bytes : List ℕ) (lines : Lines) (draft : PhaseDraft) (phases : Phases) → Reads bytes lines draft → lines_left lines ≡ []
    → picks_of_events phases.events.items ≡ picks_of_events draft.events.items ++ as_event draft.picks.items → phases.passed ≡ draft.passed
    → IsReading bytes phases
reads_end bytes lines draft phases reads end events passed =
    let all = numbered_lines bytes in
    let most : length (numbered_lines bytes) ≤ lines_passed lines =
    omega (
      arith,
      drop_none (lines_passed lines) (texts (lines_of bytes)) (sym reads.left ∙ ap texts end),
      length-enumerate_from 1 (texts (lines_of bytes)),
    ) in
    let follows : Follows (numbered_lines bytes) draft =
    rw (take_all (lines_passed lines) (numbered_lines bytes) most) at reads.follows in
    record {
      faultless = λ j within. elim (by_bool (nat_lt j (lines_passed lines))) [
        | inl below ↦ let before : j < lines_passed lines = grind (arith, common_steps) in reads.clean j before
        | inr not_below ↦ let past : length (numbered_lines bytes) ≤ j = grind (arith, common_steps) in fault_past (numbered_lines bytes) j past
      ];
      events =
          events ∙ ap (λ es. es ++ as_event draft.picks.items) follows.events
          ∙ ap (λ ps. map (map pick_of) (closed_lines (numbered_lines bytes)) ++ as_event ps) follows.picks
          ∙ sym (events_cut (numbered_lines bytes));
      passed = passed ∙ follows.passed;
    }
