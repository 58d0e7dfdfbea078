use Rattle.grid_header.proofs.AnswerLaws.{one_reading, no_fault}
use Rattle.grid_header.proofs.laws.reading_excludes_fault.Goals as goal

pub returns-clause-reading : goal.returns-clause-reading
returns-clause-reading c = one_reading

pub returns-clause-fault : goal.returns-clause-fault
returns-clause-fault c = no_fault
