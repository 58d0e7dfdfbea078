-- Words on the answer of `has`.
use Rattle.std.specs.Prelude.{◌≡◌, List, ℕ, Bool, true, false, not, Option, is_some, Result, Ok, Err}
use Rattle.edt_outside.specs.declared.faults.HasFault.{HasFault}
use Rattle.edt_outside.specs.declared.faults.HasFault.TheVariants.{Failed, Memory}

-- the answer is `Failed`
abbrev pub has_failed : Result Bool HasFault → Bool
has_failed (Ok _) = false
has_failed (Err Failed) = true
has_failed (Err Memory) = false

-- the answer is false
abbrev pub is_lacking : Result Bool HasFault → Bool
is_lacking (Ok found) = not found
is_lacking (Err _) = false

-- the answer by what stands under the name: true exactly where a file does
abbrev pub Tells : Option (List ℕ) → Result Bool HasFault → Type 0
Tells file (Ok found) = found ≡ is_some file
Tells file (Err _) = Unit {0}
