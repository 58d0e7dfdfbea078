use Rattle.std.proofs.Common.{rules, ℕ}
use Rattle.std.proofs.lemmas.List.Sorted.{IsNonDecreasingBy-from_sort_by_key}
use Rattle.octree_search.proofs.near.near_nodes.Goals as goal

pub returns-clause-order : goal.returns-clause-order
returns-clause-order c =
    IsNonDecreasingBy-from_sort_by_key (λ (e : ℕ × ℕ). e.0) _ c.sort_unstable_by_key.ensures.sorted (λ a r q called. search rules)
