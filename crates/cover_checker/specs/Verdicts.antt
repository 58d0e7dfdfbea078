-- The verdict over a certificate.
use Rattle.std.specs.Prelude.{ℕ, Bool, true, false, List, [], ◌∷◌, Option, Some, None}
use Rattle.cover_certificate.specs.Blocks.{BlockValue, IsLocated, FitsNowhere, HasFew, HasMany, PassesBudget, PassesNearLimit}
use Rattle.octree_search.specs.Cover.{threshold_of}
use Rattle.cover_checker.specs.declared.verdict.Verdict.{Verdict}
use Rattle.cover_checker.specs.declared.verdict.Verdict.TheVariants.{NoClaim, Outside, Twice, Uncovered, WrongBound, NotClosed, WrongScore, NotFirst, NearWrong, Proved}
use Rattle.cover_checker.specs.Covers.{misplaced, uncovered}
use Rattle.cover_checker.specs.Findings.{near_wrong, not_closed, not_first, not_zero, wrong_bound, wrong_score}
use Rattle.cover_checker.specs.Scorings.{Scoring}

-- the first of some findings, and `Proved` where there is none
abbrev pub first_found : List (Option Verdict) → Verdict
first_found [] = Proved
first_found (None ∷ findings) = first_found findings
first_found (Some verdict ∷ findings) = verdict

-- the verdict over a certificate, with a margin in thousandths: the threshold comes from the printed score
unfoldable pub verdict_of : Scoring → ℕ → BlockValue → Verdict
verdict_of s margin (IsLocated event) = first_found (
    misplaced s.grid event.boxes
    ∷ uncovered s.grid event.boxes
    ∷ wrong_bound s event.boxes
    ∷ not_closed (threshold_of margin event.score) event.boxes
    ∷ wrong_score s event
    ∷ not_first s event
    ∷ near_wrong s (threshold_of margin event.score) event
    ∷ [])
verdict_of s margin (FitsNowhere boxes) =
    first_found (misplaced s.grid boxes ∷ uncovered s.grid boxes ∷ wrong_bound s boxes ∷ not_zero boxes ∷ [])
verdict_of s margin HasFew = NoClaim
verdict_of s margin HasMany = NoClaim
verdict_of s margin PassesBudget = NoClaim
verdict_of s margin PassesNearLimit = NoClaim

-- a verdict for which no travel time has to be known
abbrev pub is_early : Verdict → Bool
is_early NoClaim = true
is_early (Outside place) = true
is_early (Twice node) = true
is_early (Uncovered node) = true
is_early (WrongBound place) = false
is_early (NotClosed place) = false
is_early (WrongScore node) = false
is_early (NotFirst node) = false
is_early (NearWrong place) = false
is_early Proved = false
