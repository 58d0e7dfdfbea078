-- How the writing of parts ends.
use Rattle.std.specs.Prelude.{ℕ, ◌<◌, Bool, true, false, List, length, take, Result, Ok, Err}
use Rattle.edt_top.specs.declared.refusals.RunRefusal.{RunRefusal}
use Rattle.edt_top.specs.declared.refusals.RunRefusal.TheVariants.{Input, Write}
use Rattle.edt_top.specs.declared.writing.WriteFault.{WriteFault}
use Rattle.edt_top.specs.declared.writing.WriteFault.TheVariants.{Failed, Memory}
use Rattle.edt_top.specs.Runs.{joined}
use Rattle.run_input.specs.Told.{IsCutShort}
use Rattle.run_input.specs.declared.refusals.Refusal.TheVariants.{Memory as memory_refusal}

-- all parts were written; a proper front of their text where a write failed; or some first ones, but not all, when out of memory
abbrev pub WritingEnds : List (List ℕ) → Result (Unit {0}) WriteFault → (List ℕ → Type 0) → Type 0
WritingEnds parts (Ok _) Wrote = Wrote (joined parts)
WritingEnds parts (Err Failed) Wrote = IsCutShort Wrote (joined parts)
WritingEnds parts (Err Memory) Wrote = (n : ℕ) × (n < length parts) × Wrote (joined (take n parts))

-- a write failed or took nothing
abbrev pub write_failed : Result (Unit {0}) WriteFault → Bool
write_failed (Ok _) = false
write_failed (Err Failed) = true
write_failed (Err Memory) = false

-- the fault as a refusal of the run
abbrev pub refusal_of_write : WriteFault → RunRefusal
refusal_of_write Failed = Write
refusal_of_write Memory = Input memory_refusal
