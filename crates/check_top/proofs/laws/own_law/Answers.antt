use Rattle.check_top.proofs.OwnAnswers.{own_accepted}
use Rattle.check_top.proofs.OwnInputs.{input_plain, input_roots}
use Rattle.check_top.proofs.OwnSections.{own_read}
use Rattle.check_top.proofs.laws.own_law.Goals as goal

pub returns-clause-reads : goal.returns-clause-reads
returns-clause-reads c = own_read

pub returns-clause-accepted : goal.returns-clause-accepted
returns-clause-accepted c = own_accepted

pub returns-clause-plain : goal.returns-clause-plain
returns-clause-plain c = input_plain

pub returns-clause-roots : goal.returns-clause-roots
returns-clause-roots c = input_roots
