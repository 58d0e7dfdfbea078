use Rattle.std.proofs.Common.{List, length, subst, sym}
use Rattle.text_terms.specs.Faults.{HasNoFault}
use Rattle.text_terms.specs.Lines.{LineText}
use Rattle.text_terms.proofs.FaultLaws.{excluded_by_fault}
use Rattle.cover_certificate.specs.BlockLines.{block_lines}
use Rattle.cover_certificate.specs.BlockFaults.{fault_at}
use Rattle.cover_certificate.proofs.BlockLaws.{block_fine}
use Rattle.cover_certificate.proofs.FaultPlaces.{block_faultless, one_fault}
use Rattle.cover_certificate.proofs.laws.fault_law.Goals as goal

pub returns-clause-excludes : goal.returns-clause-excludes
returns-clause-excludes c = λ block lines rest passed number cause valid typed is fault.
    let P : List LineText → Type 0 = λ ls. HasNoFault (fault_at ls) (length ls) in
    excluded_by_fault (fault_at lines) (length lines) fault.place cause
    (subst P (sym is) (block_faultless (block_lines block) rest (block_fine block rest valid typed))) fault.first

pub returns-clause-single : goal.returns-clause-single
returns-clause-single c = one_fault
