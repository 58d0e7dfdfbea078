-- Words on the answer of a stream.
use Rattle.std.specs.Prelude.{◌≡◌, ⊤, ℕ, Bool, true, false, List, Option, Some, None, IsSomeAnd, Result, Ok, Err}
use Rattle.time_grid.specs.declared.faults.GridFault.TheVariants.{Short as body_short, Long as body_long, TimeLimit as body_limit}
use Rattle.time_grid.specs.declared.faults.StreamFault.{StreamFault}
use Rattle.time_grid.specs.declared.faults.StreamFault.TheVariants.{Absent, Failed, Short, Long, TimeLimit, NotAligned, Memory}
use Rattle.time_grid.specs.declared.numbers.ByteOrder.{ByteOrder}
use Rattle.time_grid.specs.Bodies.{body_fault}

-- the answer is `Failed`
abbrev pub stream_failed : Result ⊤ StreamFault → Bool
stream_failed (Ok _) = false
stream_failed (Err Absent) = false
stream_failed (Err Failed) = true
stream_failed (Err Short) = false
stream_failed (Err Long) = false
stream_failed (Err (TimeLimit _)) = false
stream_failed (Err (NotAligned _)) = false
stream_failed (Err Memory) = false

-- the answer is `Absent`
abbrev pub stream_absent : Result ⊤ StreamFault → Bool
stream_absent (Ok _) = false
stream_absent (Err Absent) = true
stream_absent (Err Failed) = false
stream_absent (Err Short) = false
stream_absent (Err Long) = false
stream_absent (Err (TimeLimit _)) = false
stream_absent (Err (NotAligned _)) = false
stream_absent (Err Memory) = false

-- the answer by what stands under the name, for a time grid of n nodes: a body without fault, of which `Good` says what was made, or its
-- first fault; `Absent` where there is none; `NotAligned` only where the body is without fault
abbrev pub StreamsBody : ByteOrder → ℕ → (List ℕ → Type 0) → Option (List ℕ) → Result ⊤ StreamFault → Type 0
StreamsBody order n Good file (Ok _) = IsSomeAnd file (λ bytes. (body_fault order bytes n ≡ None) × Good bytes)
StreamsBody order n Good file (Err Absent) = file ≡ None
StreamsBody order n Good file (Err Failed) = Unit {0}
StreamsBody order n Good file (Err Short) = IsSomeAnd file (λ bytes. body_fault order bytes n ≡ Some body_short)
StreamsBody order n Good file (Err Long) = IsSomeAnd file (λ bytes. body_fault order bytes n ≡ Some body_long)
StreamsBody order n Good file (Err (TimeLimit node)) = IsSomeAnd file (λ bytes. body_fault order bytes n ≡ Some (body_limit node))
StreamsBody order n Good file (Err (NotAligned _)) = IsSomeAnd file (λ bytes. body_fault order bytes n ≡ None)
StreamsBody order n Good file (Err Memory) = Unit {0}
