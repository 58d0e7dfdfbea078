use Rattle.std.proofs.Common.{◌≡◌, ◌≢◌, ◌+◌, ℕ, Some, replicate, arith, ◌∷◌, []}
use Rattle.edt_text.specs.LineCursor.{lines_left, lines_passed}
use Rattle.std.proofs.Common.{Vec, Global}
use Rattle.cover_certificate.specs.declared.block.BlockCause.TheVariants.{Memory}
use Rattle.cover_certificate.specs.declared.block.BlockFault.{BlockFault}
use Rattle.cover_certificate.specs.declared.line_form.LineForm.TheVariants.{Near, Entry}
use Rattle.cover_certificate.specs.LineForms.{Numbered}
use Rattle.cover_certificate.specs.BlockLines.{entry_numbers}
use Rattle.cover_certificate.specs.BlockFaults.{near_wanted}
use Rattle.cover_certificate.specs.Inside.FirstFaults.{first_fault}
use Rattle.cover_certificate.proofs.FirstFaultLaws.{first_fault-front}
use Rattle.cover_certificate.proofs.CountedLaws.{counted_fault, counted_passed, counted_value, counted_within, err_map, near_count}
use Rattle.cover_certificate.proofs.Refusals.{passed_on}
use Rattle.cover_certificate.proofs.reading.read_near.Goals as goal

pub returns-in_err-count-clause-fault : goal.returns-in_err-count-clause-fault
returns-in_err-count-clause-fault c =
    passed_on
    (λ (fault : BlockFault). fault.cause ≢ Memory → first_fault (near_wanted (lines_left c.args.lines.now)) (lines_left c.args.lines.now)
    (lines_passed c.args.lines.now + 1) ≡ Some (fault.line, fault.cause))
    c.from_residual.result c.in_err-count.field-0.0 c.from_residual.ensures
    (λ known. first_fault-front (Numbered Near ∷ []) _ (lines_left c.args.lines.now) (lines_passed c.args.lines.now + 1) _ c.in_err-count.ensures.fault)

pub returns-clause-value : goal.returns-clause-value
returns-clause-value c =
    counted_value (λ (near : Vec (ℕ × ℕ) Global). near.items) entry_numbers Near Entry c.read_entries.result _ _ _ c.in_ok-count.count
    c.in_ok-count.ensures.value c.read_entries.ensures.value c.read_entries.ensures.count

pub returns-clause-limits : goal.returns-clause-limits
returns-clause-limits c =
    counted_within (λ (near : Vec (ℕ × ℕ) Global). near.items) c.read_entries.result c.in_ok-count.count 100000
    c.in_ok-count.ensures.limits c.read_entries.ensures.count

pub returns-clause-passed : goal.returns-clause-passed
returns-clause-passed c =
    counted_passed (λ (near : Vec (ℕ × ℕ) Global). near.items) c.read_entries.result _ _ _
    c.in_ok-count.ensures.passed c.read_entries.ensures.passed

pub returns-clause-fault : goal.returns-clause-fault
returns-clause-fault c =
    err_map
    (λ (fault : BlockFault). fault.cause ≢ Memory → first_fault (replicate c.in_ok-count.count (Numbered Entry)) (lines_left c.read_near_count.new.lines)
    (lines_passed c.read_near_count.new.lines + 1) ≡ Some (fault.line, fault.cause))
    (λ (fault : BlockFault). fault.cause ≢ Memory → first_fault (near_wanted (lines_left c.args.lines.now)) (lines_left c.args.lines.now)
    (lines_passed c.args.lines.now + 1) ≡ Some (fault.line, fault.cause))
    c.read_entries.result
    (λ fault h known. counted_fault Near Entry c.in_ok-count.count (lines_left c.args.lines.now) (lines_left c.read_near_count.new.lines)
    (lines_passed c.args.lines.now + 1) (lines_passed c.read_near_count.new.lines + 1) (fault.line, fault.cause) c.in_ok-count.ensures.value
    (near_count c.in_ok-count.count c.in_ok-count.ensures.limits) (omega (arith, c.in_ok-count.ensures.passed)) (h known))
    c.read_entries.ensures.fault
