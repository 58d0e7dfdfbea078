use Rattle.octree_search.proofs.FieldScores.{first_by_scores}
use Rattle.octree_search.proofs.OutcomeMeanings.{outcome_says, near_few, outcome_shortest, zero_bounds}
use Rattle.octree_search.proofs.laws.outcome_law.Goals as goal

pub returns-clause-says : goal.returns-clause-says
returns-clause-says c = outcome_says

pub returns-clause-near : goal.returns-clause-near
returns-clause-near c = near_few

pub returns-clause-cover : goal.returns-clause-cover
returns-clause-cover c = outcome_shortest

pub returns-clause-scores : goal.returns-clause-scores
returns-clause-scores c = first_by_scores

pub returns-clause-zero : goal.returns-clause-zero
returns-clause-zero c = zero_bounds
