-- Numbers that are taken from a piece, each into its place.
use Rattle.std.proofs.Common.{◌≡◌, ℕ, ◌+◌, ◌<◌, ◌≤◌, List, length, get_or, set, arith, inl, inr}
use Rattle.std.proofs.lemmas.Bool.{cases_lt}
use Rattle.std.proofs.lemmas.List.{get_or-set_same, get_or-set_other}
use Rattle.time_grid.specs.declared.numbers.ByteOrder.{ByteOrder}
use Rattle.time_grid.specs.declared.selections.Selection.{Selection}
use Rattle.time_grid.specs.Inside.Cursors.{IsTaken}
use Rattle.time_grid.specs.Inside.Selections.{selected_node}

-- one more number is put into the next place
pub taken_more : (order : ByteOrder) (first : ℕ) (piece : List ℕ) (s : Selection) (into : List ℕ) (start done n v : ℕ) → done < length into
    → IsTaken order first piece (selected_node s done) v
    → ((k : ℕ) → start ≤ k → k < done → IsTaken order first piece (selected_node s k) (get_or into k 0))
    → n ≡ done + 1 → (k : ℕ) → start ≤ k → k < n → IsTaken order first piece (selected_node s k) (get_or (set into done v) k 0)
taken_more order first piece s into start done n v room taken before next k from to = elim (cases_lt k done) [
  | inl low ↦
      let other : get_or (set into done v) k 0 ≡ get_or into k 0 = get_or-set_other into done k v 0 (λ e. absurd (omega arith)) in
      rw other (before k from low)
  | inr high ↦
      let same : k ≡ done = omega arith in
      rw (same, get_or-set_same into done v 0 room) taken
]
