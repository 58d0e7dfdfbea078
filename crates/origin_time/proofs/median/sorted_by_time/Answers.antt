use Rattle.std.proofs.Common.{rules, ◌≡◌, ℕ, ℤ}
use Rattle.std.proofs.lemmas.Fn.{always_returns_same}
use Rattle.origin_time.proofs.median.sorted_by_time.Goals as goal

pub returns-clause-sorted : goal.returns-clause-sorted
returns-clause-sorted c =
    c.sort_unstable_by_key.ensures.sorted (λ (x : ℤ × ℕ). x.0) (always_returns_same _ (λ a r. r ≡ a.0.now.0) _ (λ a r q called. search rules))
