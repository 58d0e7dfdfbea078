use Rattle.std.proofs.Common.{◌≡◌, ◌==◌, ℕ, drop}
use Rattle.std.specs.List.{find}
use Rattle.octree_search.proofs.near.first_with.Given as goal

abbrev pub invariant-loop-entry : goal.invariant-loop-entry
invariant-loop-entry l = record {
  rest : find (λ (e : ℕ × ℕ). e.1 == l.score) (drop l.entry-index l.near) ≡ find (λ (e : ℕ × ℕ). e.1 == l.score) l.near;
}
