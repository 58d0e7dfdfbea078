-- The sections of a report, one after another.
use Rattle.std.proofs.Common.{◌≡◌, ℕ, suc, ◌+◌, ◌-◌, ◌<◌, true, false, List, [], ◌∷◌, ◌++◌, drop, Some, None, Result, Ok, Err, refl, sym, ◌∙◌, ap, arith}
use Rattle.std.specs.Prelude.{slice_get}
use Rattle.text_terms.specs.Lines.{LineText}
use Rattle.cover_certificate.specs.Blocks.{BlockValue}
use Rattle.check_top.specs.declared.report.fault.ReportCause.TheVariants.{Form}
use Rattle.check_top.specs.declared.report.fault.ReportFault.{ReportFault}
use Rattle.check_top.specs.ReportLines.{begins_certificate, event_cause, head_cause}
use Rattle.check_top.specs.Reports.{Section, certificate_of, passed_over, report_of, section_of, sections, with_block}

-- a line that begins a certificate isn't passed over
pub over_here : (line : LineText) (lines : List LineText) → begins_certificate line ≡ true → passed_over (line ∷ lines) ≡ 0
unfolding passed_over
over_here line lines begins = rw begins refl

-- another one is
pub over_more : (line : LineText) (lines : List LineText) → begins_certificate line ≡ false → passed_over (line ∷ lines) ≡ suc (passed_over lines)
unfolding passed_over
over_more line lines other = rw other (omega arith)

over_none : passed_over [] ≡ 0
unfolding passed_over
over_none = refl

-- how many lines were passed, and which are left, before the first that begins a certificate
pub record PassesTo (first : List LineText) (start : ℕ) (lines : List LineText) (passed : ℕ) : Type 0 where
  pub left : drop (passed_over lines) lines ≡ drop (passed_over first) first
  pub count : passed + passed_over lines ≡ start + passed_over first

pub to_here : (first lines rest : List LineText) (start passed : ℕ) (line : LineText) → PassesTo first start lines passed → lines ≡ line ∷ rest
    → begins_certificate line ≡ true → (lines ≡ drop (passed_over first) first) × (passed ≡ start + passed_over first)
to_here first lines rest start passed line passes is begins =
    let none : passed_over lines ≡ 0 = ap passed_over is ∙ over_here line rest begins in
    (ap (λ n. drop n lines) (sym none) ∙ passes.left, omega (arith, passes.count, none))

pub to_end : (first lines : List LineText) (start passed : ℕ) → PassesTo first start lines passed → lines ≡ []
    → (lines ≡ drop (passed_over first) first) × (passed ≡ start + passed_over first)
to_end first lines start passed passes is =
    let none : passed_over lines ≡ 0 = ap passed_over is ∙ over_none in
    (ap (λ n. drop n lines) (sym none) ∙ passes.left, omega (arith, passes.count, none))

pub to_next : (first lines rest : List LineText) (start passed now : ℕ) (line : LineText) → PassesTo first start lines passed → lines ≡ line ∷ rest
    → begins_certificate line ≡ false → now ≡ passed + 1 → PassesTo first start rest now
to_next first lines rest start passed now line passes is other one =
    let more : passed_over lines ≡ suc (passed_over rest) = ap passed_over is ∙ over_more line rest other in
    record {
      left = sym (ap (λ n. drop n lines) more ∙ ap (drop (suc (passed_over rest))) is) ∙ passes.left;
      count = omega (arith, passes.count, more, one);
    }

-- a faulty first line of an event
pub section_faulty : (passed number : ℕ) (lines : List LineText) (fault : ReportFault) → event_cause number (slice_get lines 0) ≡ Some fault.cause
    → fault.line ≡ passed + 1 → section_of passed number lines ≡ Err fault
unfolding section_of
section_faulty passed number lines fault cause line = rw (cause, ← line) refl

-- the section of an event is what its certificate says
pub section_good : (passed number : ℕ) (lines second third : List LineText) (p q : ℕ) → event_cause number (slice_get lines 0) ≡ None → second ≡ drop 1 lines
    → p ≡ passed + 1 → third ≡ drop (passed_over second) second → q ≡ p + passed_over second → section_of passed number lines ≡ certificate_of q third
unfolding section_of
section_good passed number lines second third p q good one at two over = rw (good, over, two, one, at) refl

-- blocks before others
abbrev pub with_blocks : List BlockValue → Result (List BlockValue) ReportFault → Result (List BlockValue) ReportFault
with_blocks [] next = next
with_blocks (block ∷ blocks) next = with_block block (with_blocks blocks next)

pub blocks_more : (blocks : List BlockValue) (block : BlockValue) (next : Result (List BlockValue) ReportFault)
    → with_blocks (blocks ++ block ∷ []) next ≡ with_blocks blocks (with_block block next)
blocks_more [] block next = refl
blocks_more (first ∷ blocks) block next = ap (with_block first) (blocks_more blocks block next)

pub blocks_fault : (blocks : List BlockValue) (fault : ReportFault) → with_blocks blocks (Err fault) ≡ Err fault
blocks_fault [] fault = refl
blocks_fault (first ∷ blocks) fault = ap (with_block first) (blocks_fault blocks fault)

pub blocks_all : (blocks : List BlockValue) → with_blocks blocks (Ok []) ≡ Ok blocks
blocks_all [] = refl
blocks_all (first ∷ blocks) = ap (with_block first) (blocks_all blocks)

-- after some sections the report is read so far, and the others follow
abbrev pub ReadSoFar : ℕ → List LineText → List BlockValue → ℕ → ℕ → List LineText → Type 0
ReadSoFar events lines blocks number passed left = report_of events lines ≡ with_blocks blocks (sections passed (number + 1) (events - number) left)

pub read_head : (events : ℕ) (lines left : List LineText) (passed : ℕ) (blocks : List BlockValue) → head_cause events (slice_get lines 0) ≡ None → left ≡ drop 1 lines
    → passed ≡ 1 → blocks ≡ [] → ReadSoFar events lines blocks 0 passed left
unfolding report_of
read_head events lines left passed blocks good at one none =
    let all : events - 0 ≡ events = omega arith in rw (good, at, one, none, all) refl

pub head_faulty : (events : ℕ) (lines : List LineText) (fault : ReportFault) → head_cause events (slice_get lines 0) ≡ Some fault.cause → fault.line ≡ 1
    → report_of events lines ≡ Err fault
unfolding report_of
head_faulty events lines fault cause line = rw (cause, ← line) refl

-- one more section
pub read_next : (events : ℕ) (lines : List LineText) (blocks : List BlockValue) (number passed : ℕ) (left : List LineText) (section : Section) → number < events
    → ReadSoFar events lines blocks number passed left → section_of passed (number + 1) left ≡ Ok section
    → ReadSoFar events lines (blocks ++ section.block ∷ []) (number + 1) section.passed section.rest
read_next events lines blocks number passed left section less before found =
    let one : events - number ≡ suc (events - (number + 1)) = omega arith in
    let step : sections passed (number + 1) (events - number) left ≡ with_block section.block (sections section.passed (number + 1 + 1) (events - (number + 1)) section.rest) =
    rw (one, found) refl in
    before ∙ ap (with_blocks blocks) step ∙ sym (blocks_more blocks section.block (sections section.passed (number + 1 + 1) (events - (number + 1)) section.rest))

-- a faulty one
pub read_faulty : (events : ℕ) (lines : List LineText) (blocks : List BlockValue) (number passed : ℕ) (left : List LineText) (fault : ReportFault) → number < events
    → ReadSoFar events lines blocks number passed left → section_of passed (number + 1) left ≡ Err fault → report_of events lines ≡ Err fault
read_faulty events lines blocks number passed left fault less before found =
    let one : events - number ≡ suc (events - (number + 1)) = omega arith in
    let step : sections passed (number + 1) (events - number) left ≡ Err fault = rw (one, found) refl in
    before ∙ ap (with_blocks blocks) step ∙ blocks_fault blocks fault

-- all sections, and no line after them
pub read_end : (events : ℕ) (lines : List LineText) (blocks : List BlockValue) (number passed : ℕ) (left : List LineText) → number ≡ events
    → ReadSoFar events lines blocks number passed left → left ≡ [] → report_of events lines ≡ Ok blocks
read_end events lines blocks number passed left all before none =
    let zero_left : events - number ≡ 0 = omega arith in
    let step : sections passed (number + 1) (events - number) left ≡ Ok [] = rw (zero_left, none) refl in
    before ∙ ap (with_blocks blocks) step ∙ blocks_all blocks

-- or one line too many
pub read_long : (events : ℕ) (lines : List LineText) (blocks : List BlockValue) (number passed : ℕ) (left : List LineText) (fault : ReportFault) → number ≡ events
    → ReadSoFar events lines blocks number passed left → fault.line ≡ passed + 1 → fault.cause ≡ Form → (left ≡ [] → ⊥) → report_of events lines ≡ Err fault
read_long events lines blocks number passed [] fault all before line cause some = absurd (some refl)
read_long events lines blocks number passed (first ∷ left) fault all before line cause some =
    let zero_left : events - number ≡ 0 = omega arith in
    let step : sections passed (number + 1) (events - number) (first ∷ left) ≡ Err fault = rw (zero_left, ← line, ← cause) refl in
    before ∙ ap (with_blocks blocks) step ∙ blocks_fault blocks fault
