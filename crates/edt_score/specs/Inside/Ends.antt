-- The ends of each pick at a list of nodes, from which gaps come without signed numbers.
use Rattle.std.specs.Prelude.{ℕ, ℤ, List, [], ◌∷◌, ◌+◌, ◌-◌, ◌*◌, ◌≤◌, ◌-ℤ◌, ◌+ℤ◌, pos, bit_or, length, drop, unsigned_abs}
use Rattle.kernel_table.specs.declared.kernels.Shape.{Shape}
use Rattle.kernel_table.specs.Kernel.{kernel_value}
use Rattle.edt_score.specs.declared.problem.ProblemPick.{ProblemPick}
use Rattle.edt_score.specs.declared.ends.Ends.{Ends}
use Rattle.edt_score.specs.Bound.{IsTimeSpan}
use Rattle.edt_score.specs.PairTerms.{PairTerms}

-- an observed time less a travel time, counted from `start` and lifted so that it isn't negative
abbrev pub end_of : ℤ → ℤ → ℕ → ℕ
end_of start observed time = unsigned_abs (((observed -ℤ start) -ℤ pos time) +ℤ pos 4398046511104)

-- the ends of a pick with this span of travel times
abbrev pub ends_within : ℤ → ℤ → ℕ × ℕ → Ends
ends_within start observed span = record { low = end_of start observed span.1; high = end_of start observed span.0 }

-- the ends of a pick, with the span of each row
abbrev pub ends_of : ℤ → (ℕ → ℕ × ℕ) → ProblemPick → Ends
ends_of start spans pick = ends_within start pick.time (spans pick.row)

-- a travel time as a span
abbrev pub point : (ℕ → ℕ → ℕ) → ℕ → ℕ → ℕ × ℕ
point times node row = (times row node, times row node)

-- how far two picks are apart at least; one of the two differences is 0
abbrev pub ends_gap : Ends → Ends → ℕ
ends_gap a b = bit_or (a.low - b.high) (b.low - a.high)

-- what a pair is worth by its ends and its terms
abbrev pub ends_value : Shape → Ends → Ends → PairTerms → ℕ
ends_value shape a b pair = pair.weight * kernel_value shape (ends_gap a b) pair.scale

-- what the first pick's ends are worth with those of each of the others, by the terms of their pairs
abbrev pub row_total : Shape → Ends → List Ends → List PairTerms → ℕ
row_total shape first [] pairs = 0
row_total shape first (other ∷ others) [] = 0
row_total shape first (other ∷ others) (pair ∷ pairs) =
    ends_value shape first other pair + row_total shape first others pairs

-- what all pairs of ends are worth
abbrev pub table_total : Shape → List Ends → List PairTerms → ℕ
table_total shape [] pairs = 0
table_total shape (first ∷ others) pairs =
    row_total shape first others pairs + table_total shape others (drop (length others) pairs)

-- a pick whose time is near the start, with a span in order
pub record IsNear (start : ℤ) (spans : ℕ → ℕ × ℕ) (pick : ProblemPick) : Type 0 where
  pub close : unsigned_abs (pick.time -ℤ start) ≤ 2200000000000
  pub span : IsTimeSpan (spans pick.row)
