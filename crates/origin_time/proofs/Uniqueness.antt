-- There is one origin time at most, and one root mean square.
use Rattle.std.proofs.Common.{◌≡◌, ℕ, ◌≤◌, ◌<◌, List, ℤ, ◌<ℤ◌, ◌⊎◌, inl, inr, refl, arith}
use Rattle.std.specs.declared.cmp.Ordering.{Ordering}
use Rattle.std.specs.declared.cmp.Ordering.TheVariants.{Less, Equal, Greater}
use Rattle.std.specs.Ordering.{int_cmp, MatchOrdering}
use Rattle.std.proofs.lemmas.Bool.{cases_lt}
use Rattle.std.proofs.lemmas.Cmp.{int_ranked}
use Rattle.origin_time.specs.OriginTime.{IsOriginTime}
use Rattle.origin_time.specs.RootMeanSquare.{IsRms}

-- of two origin times neither is less
pub not_less : (items : List (ℤ × ℕ)) (one other : ℤ) → IsOriginTime items one → IsOriginTime items other → one <ℤ other → ⊥
not_less items one other a b less = let more = b.least one less in let no_more = a.nearest other in absurd (omega (arith, more, no_more))

pub one_origin-by : (items : List (ℤ × ℕ)) (one other : ℤ) (r : Ordering) → MatchOrdering r (one <ℤ other) (one ≡ other) (other <ℤ one)
    → IsOriginTime items one → IsOriginTime items other → one ≡ other
one_origin-by items one other Less less a b = absurd (not_less items one other a b less)
one_origin-by items one other Equal same a b = same
one_origin-by items one other Greater more a b = absurd (not_less items other one b a more)

pub one_origin : (items : List (ℤ × ℕ)) (one other : ℤ) → IsOriginTime items one → IsOriginTime items other → one ≡ other
one_origin items one other a b = one_origin-by items one other (int_cmp one other) (int_ranked one other (int_cmp one other) refl) a b

-- of two roots neither is less
pub no_less : (items : List (ℤ × ℕ)) (one other : ℕ) → IsRms items one → IsRms items other → one < other → ⊥
no_less items one other a b less = let more = b.least one less in let enough = a.enough in absurd (omega (arith, more, enough))

pub one_rms-by : (items : List (ℤ × ℕ)) (one other : ℕ) → IsRms items one → IsRms items other → (one < other) ⊎ (other ≤ one) → (other < one) ⊎ (one ≤ other) → one ≡ other
one_rms-by items one other a b (inl less) _ = absurd (no_less items one other a b less)
one_rms-by items one other a b (inr _) (inl less) = absurd (no_less items other one b a less)
one_rms-by items one other a b (inr from) (inr to) = omega (arith, from, to)

pub one_rms : (items : List (ℤ × ℕ)) (one other : ℕ) → IsRms items one → IsRms items other → one ≡ other
one_rms items one other a b = one_rms-by items one other a b (cases_lt one other) (cases_lt other one)
