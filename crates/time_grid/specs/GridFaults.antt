-- Words on the answer of a body.
use Rattle.std.specs.Prelude.{◌≡◌, ℕ, Bool, true, false, List, Option, Some, None, IsSomeAnd, Result, Ok, Err}
use Rattle.time_grid.specs.declared.faults.GridFault.{GridFault}
use Rattle.time_grid.specs.declared.faults.GridFault.TheVariants.{Absent, Failed, Short, Long, TimeLimit, Memory}
use Rattle.time_grid.specs.declared.numbers.ByteOrder.{ByteOrder}
use Rattle.time_grid.specs.Bodies.{body_fault}

-- the answer is `Failed`
abbrev pub grid_failed : {T : Type 0} → Result T GridFault → Bool
grid_failed (Ok _) = false
grid_failed (Err Absent) = false
grid_failed (Err Failed) = true
grid_failed (Err Short) = false
grid_failed (Err Long) = false
grid_failed (Err (TimeLimit _)) = false
grid_failed (Err Memory) = false

-- the answer is `Absent`
abbrev pub grid_absent : {T : Type 0} → Result T GridFault → Bool
grid_absent (Ok _) = false
grid_absent (Err Absent) = true
grid_absent (Err Failed) = false
grid_absent (Err Short) = false
grid_absent (Err Long) = false
grid_absent (Err (TimeLimit _)) = false
grid_absent (Err Memory) = false

-- the answer by what stands under the name, for a grid of n nodes: a body without fault, of which `Good` says what was made, or its
-- first fault; `Absent` where there is none
abbrev pub ReadsBody : {T : Type 0} → ByteOrder → ℕ → (List ℕ → T → Type 0) → Option (List ℕ) → Result T GridFault → Type 0
ReadsBody order n Good file (Ok made) = IsSomeAnd file (λ bytes. (body_fault order bytes n ≡ None) × Good bytes made)
ReadsBody order n Good file (Err Absent) = file ≡ None
ReadsBody order n Good file (Err Failed) = Unit {0}
ReadsBody order n Good file (Err Short) = IsSomeAnd file (λ bytes. body_fault order bytes n ≡ Some Short)
ReadsBody order n Good file (Err Long) = IsSomeAnd file (λ bytes. body_fault order bytes n ≡ Some Long)
ReadsBody order n Good file (Err (TimeLimit node)) = IsSomeAnd file (λ bytes. body_fault order bytes n ≡ Some (TimeLimit node))
ReadsBody order n Good file (Err Memory) = Unit {0}
