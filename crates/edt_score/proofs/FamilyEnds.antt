-- The ends of picks over a family of boxes, one pick after another.
use Rattle.std.proofs.Common.{◌≡◌, ℕ, ℤ, List, [], ◌+◌, ◌<◌, length, get_or, get_or-set_other, set, inl, inr, arith, sym, ap, ◌∙◌}
use Rattle.std.proofs.lemmas.Bool.{cases_lt}
use Rattle.std.proofs.lemmas.Grind.{get_or-set_at}
use Rattle.edt_score.specs.declared.problem.ProblemPick.{ProblemPick}
use Rattle.edt_score.specs.declared.ends.Ends.{Ends}
use Rattle.edt_score.specs.Inside.Ends.{ends_within}
use Rattle.edt_score.specs.Inside.Families.{AreEnds, kept_span, no_pick}
use Rattle.edt_score.specs.Inside.Lanes.{lane}

pub ends_more : (start : ℤ) (picks : List ProblemPick) (places : List ℕ) (spans : List (List (ℕ × ℕ))) (ends : List (List Ends)) (i : ℕ) (eight : List Ends)
    → i < length ends
    → ((k : ℕ) → k < 8 → lane k eight ≡ ends_within start (get_or picks i no_pick).time (kept_span spans k (get_or places i 0)))
    → AreEnds i start picks places spans ends → AreEnds (i + 1) start picks places spans (set ends i eight)
ends_more start picks places spans ends i eight within here before j k below in_eight = elim (cases_lt j i) [
  | inl earlier ↦ ap (lane k) (get_or-set_other ends i j eight [] (omega arith)) ∙ before j k earlier in_eight
  | inr last ↦
      let same : j ≡ i = omega arith in
      ap (lane k) (get_or-set_at ends i j eight [] same within) ∙ here k in_eight
      ∙ ap (λ m. ends_within start (get_or picks m no_pick).time (kept_span spans k (get_or places m 0))) (sym same)
]
