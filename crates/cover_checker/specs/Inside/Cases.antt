-- What a check is made of, and the scores and bounds that it means.
use Rattle.std.specs.Prelude.{ℕ, List}
use Rattle.kernel_table.specs.declared.stored.Falloff.{Falloff}
use Rattle.kernel_table.specs.Falloff.{shape_of}
use Rattle.node_boxes.specs.Grid.{GridSize}
use Rattle.edt_score.specs.declared.problem.ProblemPick.{ProblemPick}
use Rattle.edt_score.specs.Look.{numbered}
use Rattle.cover_checker.specs.declared.case.Case.{Case}
use Rattle.cover_checker.specs.Scorings.{Scoring, scoring_of}

-- the picks
abbrev pub case_picks : {F : Type 0} → Case F → List ProblemPick
case_picks case = case.picks.now

-- the grid
abbrev pub case_grid : {F : Type 0} → Case F → GridSize
case_grid case = case.grid.now

-- the falloff
abbrev pub case_falloff : {F : Type 0} → Case F → Falloff F
case_falloff case = case.falloff.now

-- the scores and bounds by times that are told for each pick
abbrev pub case_scoring : {F : Type 0} → Case F → (ℕ → ℕ → ℕ) → Scoring
case_scoring case times = scoring_of (shape_of (case_falloff case)) (case_grid case) times (numbered (case_picks case))
