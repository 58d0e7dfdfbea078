use Rattle.location_report.proofs.FormLaws.{all_before, block_of-lines, first_before}
use Rattle.location_report.proofs.laws.report_law.Goals as goal

pub returns-clause-lines : goal.returns-clause-lines
returns-clause-lines c = block_of-lines

pub returns-clause-first : goal.returns-clause-first
returns-clause-first c = first_before

pub returns-clause-between : goal.returns-clause-between
returns-clause-between c = all_before
