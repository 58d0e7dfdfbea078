-- The nodes of a search grid, past their limit.
use Rattle.std.proofs.Common.{◌≡◌, ℕ, ◌*◌, ◌≤◌, List, Some, None, ◌≤ℤ◌, ℤ, pos, inl, inr, refl, arith}
use Rattle.std.specs.Prelude.{nat_le, unsigned_abs}
use Rattle.std.proofs.lemmas.Grind.{common_steps}
use Rattle.std.proofs.lemmas.Int.{ints}
use Rattle.text_terms.proofs.Cases.{by_bool}
use Rattle.node_boxes.specs.Grid.{IsGrid, grid_size}
use Rattle.control_reader.specs.declared.fault.ControlCause.TheVariants.{Limit}
use Rattle.text_terms.specs.Words.{word_at}
use Rattle.node_boxes.specs.declared.limits.TheConstants.{MOST_NODES, MOST_ON_AXIS}
use Rattle.control_reader.specs.Words.{count_at}
use Rattle.control_reader.specs.WordFaults.{axis_fault, frame_fault}

-- a number from 1 to 4096, without its sign
pub record IsAxis (n : ℕ) : Type 0 where
  pub from : 1 ≤ n
  pub to : n ≤ MOST_ON_AXIS

pub axis_is : (n : ℤ) → (pos 1 ≤ℤ n) × (n ≤ℤ pos MOST_ON_AXIS) → IsAxis (unsigned_abs n)
axis_is n range = record { from = omega (arith, ints, range.0); to = omega (arith, ints, range.1) }

-- counts that are within their range and yet make no grid are too many nodes
pub too_many_nodes : (words : List (List ℕ)) → axis_fault (word_at 0 words) ≡ None → axis_fault (word_at 1 words) ≡ None
    → axis_fault (word_at 2 words) ≡ None → IsAxis (count_at 0 words) → IsAxis (count_at 1 words) → IsAxis (count_at 2 words)
    → (IsGrid (grid_size (count_at 0 words) (count_at 1 words) (count_at 2 words)) → ⊥) → frame_fault words ≡ Some Limit
unfolding frame_fault
too_many_nodes words x_good y_good z_good x y z none = elim (by_bool (nat_le (count_at 0 words * count_at 1 words * count_at 2 words) MOST_NODES)) [
  | inl few ↦ absurd (none (record { x_from = x.from; x_to = x.to; y_from = y.from; y_to = y.to; z_from = z.from; z_to = z.to; nodes = grind (arith, common_steps) }))
  | inr many ↦ rw (x_good, y_good, z_good, many) refl
]
