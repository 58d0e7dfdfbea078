use Rattle.edt_score.proofs.ScoreBounds.{misfit_of-le, pair_scale-is, score_of-bound}
use Rattle.edt_score.proofs.laws.score_law.Goals as goal

pub returns-clause-scale : goal.returns-clause-scale
returns-clause-scale c = pair_scale-is

pub returns-clause-misfit : goal.returns-clause-misfit
returns-clause-misfit c = misfit_of-le

pub returns-clause-bound : goal.returns-clause-bound
returns-clause-bound c = score_of-bound
