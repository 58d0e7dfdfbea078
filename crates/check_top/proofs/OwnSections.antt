-- The text that a run that locates writes is read as a report.
use Rattle.std.proofs.Common.{◌≡◌, ℕ, suc, ◌+◌, ◌<◌, ◌≤◌, ◌^◌, true, List, [], ◌∷◌, ◌++◌, length, drop, map, Option, Some, None, Ok, refl, ◌∙◌, ap, arith}
use Rattle.std.specs.Prelude.{flat_map, codes}
use Rattle.std.specs.List.{AllByRecursion, enumerate_from}
use Rattle.text_terms.specs.Lines.{LineText, lines_of}
use Rattle.cover_certificate.specs.Blocks.{BlockValue, IsLocated, FitsNowhere, HasFew, HasMany, PassesBudget, PassesNearLimit, IsValidBlock}
use Rattle.cover_certificate.specs.BlockLines.{IsTypedBlock, block_lines, body_lines, ended_line, kind_of_block, text_of_lines}
use Rattle.cover_certificate.specs.Kinds.{first_bytes}
use Rattle.cover_certificate.proofs.BlockLaws.{drop_lines}
use Rattle.cover_certificate.proofs.TextLaws.{lines_back}
use Rattle.event_assembly.specs.AssemblyValues.{EventValues}
use Rattle.location_report.specs.BlockForms.{IsBefore}
use Rattle.location_report.specs.Blocks.{first_line, lines_between}
use Rattle.location_report.specs.Lines.{LaneValues, line_of}
use Rattle.location_report.specs.Texts.{event_block, head_line, lanes_of_case, outcome_of_case}
use Rattle.location_report.proofs.FormLaws.{all_before, block_of-lines}
use Rattle.run_input.specs.Inputs.{InputValues}
use Rattle.check_top.specs.ReportLines.{begins_certificate, event_cause}
use Rattle.check_top.specs.Reports.{passed_over, report_of, section_of, sections}
use Rattle.check_top.specs.OwnReports.{IsPlainInput, IsPlainOwn, own_block, own_blocks, own_text}
use Rattle.check_top.proofs.CertificateSteps.{certificate_read}
use Rattle.check_top.proofs.OwnLines.{event_read, head_plain, head_read, head_words}
use Rattle.check_top.proofs.SectionSteps.{over_here, over_more}

-- the first line of a block begins a certificate
first_begins : (block : BlockValue) → begins_certificate (ended_line (first_bytes (kind_of_block block))) ≡ true
first_begins (IsLocated event) = refl
first_begins (FitsNowhere boxes) = refl
first_begins HasFew = refl
first_begins HasMany = refl
first_begins PassesBudget = refl
first_begins PassesNearLimit = refl

-- lines of which none begins a certificate are passed over, up to a block
over_between : (between rest : List LineText) (block : BlockValue) → AllByRecursion IsBefore between
    → passed_over (between ++ (block_lines block ++ rest)) ≡ length between
over_between [] rest block before =
    over_here (ended_line (first_bytes (kind_of_block block))) ((body_lines block ++ ended_line (codes "END") ∷ []) ++ rest) (first_begins block)
over_between (line ∷ between) rest block before =
    over_more line (between ++ (block_lines block ++ rest)) before.0.other ∙ ap suc (over_between between rest block before.1)

-- a first line, lines of which none begins a certificate, and the lines of a block are a section
section_read : (passed number : ℕ) (first : LineText) (between rest : List LineText) (block : BlockValue) → event_cause number (Some first) ≡ None
    → AllByRecursion IsBefore between → IsValidBlock block → IsTypedBlock block
    → section_of passed number (first ∷ (between ++ (block_lines block ++ rest)))
    ≡ Ok (record { block = block; passed = passed + 1 + length between + length (block_lines block); rest = rest })
unfolding section_of
section_read passed number first between rest block cause before valid typed =
    let over : passed_over (between ++ (block_lines block ++ rest)) ≡ length between = over_between between rest block before in
    let left : drop (length between) (between ++ (block_lines block ++ rest)) ≡ block_lines block ++ rest =
    drop_lines between (block_lines block ++ rest) (length between) refl in
    rw (cause, over, left) (
    certificate_read (passed + 1 + length between) (passed + 1 + length between + length (block_lines block)) (block_lines block ++ rest) rest block refl valid typed refl)

-- the text of the events of an input from a number on
abbrev text_from : InputValues → ℕ → List EventValues → List ℕ
text_from input number events = flat_map (λ part. part) (map (event_block input.control input.assembly) (enumerate_from number events))

-- its sections are those of the events
sections_read : (input : InputValues) (events : List EventValues) (passed number : ℕ) → AllByRecursion (IsPlainOwn input) events → number + length events ≤ 2 ^ 32
    → sections passed number (length events) (lines_of (text_from input number events)) ≡ Ok (map (own_block input) events)
sections_read input [] passed number plain few = refl
sections_read input (event ∷ events) passed number plain few =
    let outcome = outcome_of_case input.control input.assembly.field event.case in
    let block : BlockValue = own_block input event in
    let lanes : Option LaneValues = lanes_of_case input.control input.assembly.field event.case in
    let between : List LineText = lines_between input.assembly.frame input.assembly.field event outcome lanes in
    let rest : List LineText = lines_of (text_from input (number + 1) events) in
    let lines : lines_of (text_from input number (event ∷ events)) ≡ first_line number event ∷ (between ++ (block_lines block ++ rest)) =
    block_of-lines input.assembly.frame input.assembly.field number event outcome lanes (text_from input (number + 1) events) plain.0.plain in
    let cause : event_cause number (Some (first_line number event)) ≡ None = event_read number event (omega (arith, few)) plain.0.used plain.0.skipped in
    let next : ℕ = passed + 1 + length between + length (block_lines block) in
    let section : section_of passed number (first_line number event ∷ (between ++ (block_lines block ++ rest))) ≡ Ok (record { block = block; passed = next; rest = rest }) =
    section_read passed number (first_line number event) between rest block cause
    (all_before input.assembly.frame input.assembly.field event outcome lanes) plain.0.plain.valid plain.0.plain.typed in
    let more : sections next (number + 1) (length events) rest ≡ Ok (map (own_block input) events) =
    sections_read input events next (number + 1) plain.1 (omega (arith, few)) in
    rw (lines, section, more) refl

-- the whole text is read
pub own_read : (input : InputValues) → IsPlainInput input → report_of (length input.assembly.events) (lines_of (own_text input)) ≡ Ok (own_blocks input)
unfolding own_text head_line report_of
own_read input plain =
    let events : ℕ = length input.assembly.events in
    let small : events < 2 ^ 32 = omega (arith, plain.few) in
    let head : LineText = line_of (head_words events input.control.passed input.phases_passed) in
    let rest : List ℕ = text_from input 1 input.assembly.events in
    let lines : lines_of (text_of_lines (head ∷ []) ++ rest) ≡ head ∷ lines_of rest =
    lines_back (head ∷ []) rest (head_plain events input.control.passed input.phases_passed small plain.control_passed plain.phases_passed, refl, tt) in
    rw (lines, head_read events input.control.passed input.phases_passed small plain.control_passed plain.phases_passed) (
    sections_read input input.assembly.events 1 1 plain.events (omega (arith, plain.few)))
