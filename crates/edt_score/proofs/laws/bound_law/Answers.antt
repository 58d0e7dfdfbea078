use Rattle.minmax_pyramid.specs.Spans.{span_over}
use Rattle.edt_score.specs.Inside.Domination.{bound_over-above, bound_over-one, bound_over-part}
use Rattle.edt_score.proofs.ScoreBounds.{bound_by-limit}
use Rattle.edt_score.proofs.laws.bound_law.Goals as goal

pub returns-clause-above : goal.returns-clause-above
returns-clause-above c = bound_over-above

pub returns-clause-part : goal.returns-clause-part
returns-clause-part c = bound_over-part

pub returns-clause-single : goal.returns-clause-single
returns-clause-single c = bound_over-one

pub returns-clause-limit : goal.returns-clause-limit
returns-clause-limit c shape times field problem nodes = bound_by-limit shape (λ row. span_over (times row) nodes) field problem
