-- What a sink in memory holds.
use Rattle.std.specs.Prelude.{List, ℕ, Bool, true, ◌&&◌, ◌==◌, nat_lt, length, Result, Ok, Err}
use Rattle.edt_outside.specs.declared.faults.Failed.{Failed}

-- a sink in memory: the bytes taken, how many it takes in all and in one write at most, the numbers
-- of the writes that fail, and its counts, of which `writes` is the number of the last write
pub record MemorySinkState : Type 0 where
  pub taken : List ℕ
  pub room : ℕ
  pub piece : ℕ
  pub failing : List ℕ
  pub writes : ℕ
  pub faults : ℕ

-- the write failed, or took nothing of a nonempty piece
abbrev pub is_fault : List ℕ → Result ℕ Failed → Bool
is_fault piece (Ok n) = nat_lt 0 (length piece) && (n == 0)
is_fault piece (Err _) = true
