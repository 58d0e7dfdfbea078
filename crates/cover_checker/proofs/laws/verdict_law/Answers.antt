use Rattle.cover_checker.proofs.BoundLaws.{bounds_are}
use Rattle.cover_checker.proofs.ExactLaws.{proved_from, proves_from}
use Rattle.cover_checker.proofs.laws.verdict_law.Goals as goal

pub returns-clause-exactly : goal.returns-clause-exactly
returns-clause-exactly c s margin block = (proves_from s margin block, proved_from s margin block)

pub returns-clause-bounds : goal.returns-clause-bounds
returns-clause-bounds c = bounds_are
