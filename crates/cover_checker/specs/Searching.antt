-- Whether the certificate of what a search finds proves it.
use Rattle.std.specs.Prelude.{ℕ}
use Rattle.cover_certificate.specs.Blocks.{IsLocated as located_block, FitsNowhere as fitless_block}
use Rattle.octree_search.specs.Outcomes.{Outcome, IsLocated, FitsNowhere, PassesBudget, PassesNearLimit}
use Rattle.cover_checker.specs.Proving.{Proves}
use Rattle.cover_checker.specs.Scorings.{Scoring}

-- a certificate with what was found of a located event proves it, and so does one with the boxes of an event that
-- fits nowhere; past the budget, or with too many near nodes, there is nothing to prove
abbrev pub ProvesOutcome : Scoring → ℕ → Outcome → Type 0
ProvesOutcome s margin (IsLocated event) =
    Proves s margin (located_block (record {
      hyp = event.hyp;
      score = event.score;
      near = event.near;
      boxes = event.boxes;
    }))
ProvesOutcome s margin (FitsNowhere boxes met) = Proves s margin (fitless_block boxes)
ProvesOutcome s margin PassesBudget = Unit {0}
ProvesOutcome s margin PassesNearLimit = Unit {0}
