-- Words on the answer of `open_file`.
use Rattle.std.specs.Prelude.{◌≡◌, List, ℕ, Bool, true, false, Option, None, IsSome, Result, Ok, Err}
use Rattle.edt_outside.specs.declared.faults.OpenFault.{OpenFault}
use Rattle.edt_outside.specs.declared.faults.OpenFault.TheVariants.{Absent, Failed, Memory}

-- the answer is `Failed`
abbrev pub open_failed : {T : Type 0} → Result T OpenFault → Bool
open_failed (Ok _) = false
open_failed (Err Absent) = false
open_failed (Err Failed) = true
open_failed (Err Memory) = false

-- the answer is `Absent`
abbrev pub open_absent : {T : Type 0} → Result T OpenFault → Bool
open_absent (Ok _) = false
open_absent (Err Absent) = true
open_absent (Err Failed) = false
open_absent (Err Memory) = false

-- the answer by what stands under the name, and the bytes that are then unread: all of the file,
-- told, where it opens; `Absent` exactly where there is none
abbrev pub Opens : {T : Type 0} → Option (List ℕ) → Result T OpenFault → Option (List ℕ) → Type 0
Opens file (Ok _) left = IsSome file × (left ≡ file)
Opens file (Err Absent) left = file ≡ None
Opens file (Err Failed) left = Unit {0}
Opens file (Err Memory) left = Unit {0}
