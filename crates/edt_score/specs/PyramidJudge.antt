-- What a judge over spans was made from.
use Rattle.std.specs.Prelude.{ℕ}
use Rattle.edt_score.specs.declared.scorer.Scorer.{Scorer}
use Rattle.edt_score.specs.declared.pyramid_judge.PyramidJudge.{PyramidJudge}

-- the scorer that a judge asks
abbrev pub scorer_of : {F : Type 0} → PyramidJudge F → Scorer F
scorer_of judge = judge.scorer

-- how often it was asked
abbrev pub times_asked : {F : Type 0} → PyramidJudge F → ℕ
times_asked judge = judge.asked
