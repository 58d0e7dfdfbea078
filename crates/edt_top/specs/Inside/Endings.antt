-- What the parts of a run answer.
use Rattle.std.specs.Prelude.{◌≡◌, ℕ, ◌≤◌, false, IsTrue, List, length, Option, Some, Result, Ok, Err, ⊤}
use Rattle.std.specs.Global.{Vec}
use Rattle.run_input.specs.Refusals.{is_cause}
use Rattle.run_input.specs.declared.refusals.Refusal.TheVariants.{Memory}
use Rattle.edt_top.specs.declared.refusals.RunRefusal.{RunRefusal}
use Rattle.edt_top.specs.declared.refusals.RunRefusal.TheVariants.{Problem, ProblemTooLong, Input, Write}
use Rattle.edt_top.specs.Commands.{RunCommand, Solve, Locate, Demo}
use Rattle.edt_top.specs.RunEndings.{solve_ending}
use Rattle.edt_top.specs.RunRefusals.{IsOfFile, is_named_run, is_untold_run, run_line}

-- the refusals that a command can have, but for the form of the names, which their lines show
abbrev pub HasCause : RunCommand → RunRefusal → Type 0
HasCause (Solve name) (Problem fault) = 1 ≤ fault.word
HasCause (Solve name) ProblemTooLong = ⊤
HasCause (Solve name) (Input refusal) = IsOfFile name refusal
HasCause (Solve name) Write = ⊤
HasCause (Locate name) (Problem fault) = ⊥
HasCause (Locate name) ProblemTooLong = ⊥
HasCause (Locate name) (Input refusal) = IsTrue (is_cause refusal)
HasCause (Locate name) Write = ⊤
HasCause (Demo seed side) (Problem fault) = ⊥
HasCause (Demo seed side) ProblemTooLong = ⊥
HasCause (Demo seed side) (Input refusal) = refusal ≡ Memory
HasCause (Demo seed side) Write = ⊤

-- the bytes are those of a file within the limit of problem files, or the file ends the run so
abbrev pub IsProblemBytes : List ℕ → Option (List ℕ) → Result (Vec ℕ) RunRefusal → Type 0
IsProblemBytes name file (Ok bytes) = (file ≡ Some bytes.items) × (length bytes.items ≤ 16777216)
IsProblemBytes name file (Err refusal) = is_untold_run refusal ≡ false → solve_ending name file ≡ Err refusal

-- a refusal is told by its line, which shows that its name is one; and otherwise this holds
abbrev pub ToldAfter : (List ℕ → Type 0) → Type 0 → Result (Unit {0}) RunRefusal → Type 0
ToldAfter Tells Stays (Ok _) = Stays
ToldAfter Tells Stays (Err refusal) = IsTrue (is_named_run refusal) × Tells (run_line refusal)
