-- Words on the answer of `read_all`.
use Rattle.std.specs.Prelude.{◌≡◌, List, ℕ, ◌<◌, ◌≤◌, length, Bool, true, false, Option, Some, None, IsSomeAnd, Result, Ok, Err}
use Rattle.std.specs.Global.{Vec}
use Rattle.edt_outside.specs.declared.faults.ReadFault.{ReadFault}
use Rattle.edt_outside.specs.declared.faults.ReadFault.TheVariants.{Absent, Failed, TooLong, Memory}

-- the answer is `Failed`
abbrev pub read_failed : {T : Type 0} → Result T ReadFault → Bool
read_failed (Ok _) = false
read_failed (Err Absent) = false
read_failed (Err Failed) = true
read_failed (Err TooLong) = false
read_failed (Err Memory) = false

-- the answer is `Absent`
abbrev pub read_absent : {T : Type 0} → Result T ReadFault → Bool
read_absent (Ok _) = false
read_absent (Err Absent) = true
read_absent (Err Failed) = false
read_absent (Err TooLong) = false
read_absent (Err Memory) = false

-- the answer by what stands under the name: the whole file where it has at most `limit` bytes,
-- `TooLong` where it has more, `Absent` where there is none
abbrev pub ReadsWhole : Option (List ℕ) → ℕ → Result (Vec ℕ) ReadFault → Type 0
ReadsWhole file limit (Ok all) = (file ≡ Some all.items) × (length all.items ≤ limit)
ReadsWhole file limit (Err Absent) = file ≡ None
ReadsWhole file limit (Err Failed) = Unit {0}
ReadsWhole file limit (Err TooLong) = IsSomeAnd file (λ bytes. limit < length bytes)
ReadsWhole file limit (Err Memory) = Unit {0}

-- the same for a file that was opened, by the bytes that are unread
abbrev pub ReadsRest : List ℕ → ℕ → Result (Vec ℕ) ReadFault → Type 0
ReadsRest bytes limit (Ok all) = (all.items ≡ bytes) × (length bytes ≤ limit)
ReadsRest bytes limit (Err Absent) = ⊥
ReadsRest bytes limit (Err Failed) = Unit {0}
ReadsRest bytes limit (Err TooLong) = limit < length bytes
ReadsRest bytes limit (Err Memory) = Unit {0}
