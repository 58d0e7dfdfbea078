use Rattle.edt_score.proofs.NumberedPicks.{bound_over-numbered, score_of-numbered}
use Rattle.edt_score.proofs.laws.numbered_law.Goals as goal

pub returns-clause-bound : goal.returns-clause-bound
returns-clause-bound c = bound_over-numbered

pub returns-clause-score : goal.returns-clause-score
returns-clause-score c = score_of-numbered
