-- The scales and the weights of pairs of picks.
use Rattle.std.specs.Prelude.{ℕ, List, [], ◌∷◌, ◌++◌, map}
use Rattle.pair_weights.specs.Scale.{scale_of}
use Rattle.pair_weights.specs.Weight.{weight_of}
use Rattle.edt_score.specs.declared.problem.ProblemPick.{ProblemPick}

-- the scale and the weight of a pair
pub record PairTerms : Type 0 where
  pub scale : ℕ
  pub weight : ℕ

-- the scale and the weight of a pair of picks
abbrev pub terms_of : ProblemPick → ProblemPick → PairTerms
terms_of a b = record {
  scale = scale_of a.variance b.variance;
  weight = weight_of a.weight b.weight (scale_of a.variance b.variance);
}

-- those of all pairs: the first pick with each later one, then the second, and so on
abbrev pub pairs_of : List ProblemPick → List PairTerms
pairs_of [] = []
pairs_of (pick ∷ picks) = map (terms_of pick) picks ++ pairs_of picks
