-- A certificate among the lines of a report.
use Rattle.std.proofs.Common.{◌≡◌, ◌≢◌, ℕ, ◌+◌, List, ◌++◌, length, drop, Ok, Err, refl, ◌∙◌, ap}
use Rattle.text_terms.specs.Lines.{LineText}
use Rattle.run_input.proofs.FaultyLaws.{faultless, faulty}
use Rattle.cover_certificate.specs.declared.block.BlockCause.{BlockCause}
use Rattle.cover_certificate.specs.declared.block.BlockCause.TheVariants.{Memory as block_memory}
use Rattle.cover_certificate.specs.Blocks.{BlockValue, IsValidBlock}
use Rattle.cover_certificate.specs.BlockFaults.{IsBlockFault, fault_at}
use Rattle.cover_certificate.specs.BlockLines.{IsTypedBlock, block_lines}
use Rattle.cover_certificate.specs.BlocksTold.{block_in}
use Rattle.cover_certificate.proofs.BlockLaws.{block_fine, drop_lines}
use Rattle.cover_certificate.proofs.Decoding.{block_back}
use Rattle.cover_certificate.proofs.FaultPlaces.{block_faultless}
use Rattle.check_top.specs.declared.report.fault.ReportCause.{ReportCause}
use Rattle.check_top.specs.declared.report.fault.ReportCause.TheVariants.{Memory}
use Rattle.check_top.specs.declared.report.fault.ReportFault.{ReportFault}
use Rattle.check_top.specs.Reports.{certificate_of, cause_of_block, fault_in}

-- lines that begin with those of a block are read as it
pub certificate_read : (passed after : ℕ) (lines rest : List LineText) (block : BlockValue) → lines ≡ block_lines block ++ rest → IsValidBlock block → IsTypedBlock block
    → after ≡ passed + length (block_lines block) → certificate_of passed lines ≡ Ok (record { block = block; passed = after; rest = rest })
unfolding certificate_of
certificate_read passed after lines rest block is valid typed count =
    let none = faultless (fault_at (block_lines block ++ rest)) (length (block_lines block ++ rest)) (block_faultless (block_lines block) rest (block_fine block rest valid typed)) in
    let told : block_in (block_lines block ++ rest) ≡ block = block_back block rest valid typed in
    let left : drop (length (block_lines block)) (block_lines block ++ rest) ≡ rest = drop_lines (block_lines block) rest (length (block_lines block)) refl in
    rw (is, none, told, left, count) refl

-- a block before lines is read whatever stands before it
pub certificate_faulty : (passed number : ℕ) (lines : List LineText) (cause : BlockCause) → IsBlockFault lines passed number cause
    → certificate_of passed lines ≡ Err (fault_in number (cause_of_block cause))
unfolding certificate_of
certificate_faulty passed number lines cause fault =
    let found = faulty (fault_at lines) (length lines) fault.place cause fault.first in
    rw (found, fault.number_is) refl

-- another cause than running out of memory comes from one
pub no_memory : (cause : BlockCause) (found : ReportCause) → found ≡ cause_of_block cause → found ≢ Memory → cause ≢ block_memory
no_memory cause found is other same = other (is ∙ ap cause_of_block same)

-- a fault by its line and its cause
pub fault_is : (fault : ReportFault) (line : ℕ) (cause : ReportCause) → fault.line ≡ line → fault.cause ≡ cause → fault_in line cause ≡ fault
fault_is fault line cause at is = rw (← at, ← is) refl
