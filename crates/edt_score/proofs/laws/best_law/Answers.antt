use Rattle.edt_score.proofs.BestNodes.{IsFirstBest-exists, IsFirstBest-first_best, best_score-is, first_best-is}
use Rattle.edt_score.proofs.laws.best_law.Goals as goal

pub returns-clause-first : goal.returns-clause-first
returns-clause-first c n node score = first_best-is n score node

pub returns-clause-back : goal.returns-clause-back
returns-clause-back c n node score = IsFirstBest-first_best n score node

pub returns-clause-score : goal.returns-clause-score
returns-clause-score c n node score = best_score-is n score node

pub returns-clause-exists : goal.returns-clause-exists
returns-clause-exists c = IsFirstBest-exists
