-- The refusals of a run: the status and the line of each.
use Rattle.std.specs.Prelude.{◌≡◌, ℕ, ◌≤◌, Bool, true, false, IsTrue, List, [], ◌∷◌, Result, Ok, Err, ⊤, ◌⊎◌, codes, decimal}
use Rattle.edt_top.specs.declared.refusals.RunRefusal.{RunRefusal}
use Rattle.edt_top.specs.declared.refusals.RunRefusal.TheVariants.{Problem, ProblemTooLong, Input, Write}
use Rattle.edt_top.specs.declared.solve.problem_cursor.ProblemFault.{ProblemFault}
use Rattle.edt_top.specs.declared.solve.problem_word.ProblemCause.{ProblemCause}
use Rattle.edt_top.specs.declared.solve.problem_word.ProblemCause.TheVariants.{Form, Limit}
use Rattle.edt_top.specs.Commands.{RunCommand, Solve, Locate, Demo}
use Rattle.run_input.specs.declared.refusals.Refusal.{Refusal}
use Rattle.run_input.specs.declared.refusals.Refusal.TheVariants.{Absent, Read, Memory}
use Rattle.run_input.specs.Lines.{told_line, write_line}
use Rattle.run_input.specs.RefusalLines.{is_named, refusal_line}
use Rattle.run_input.specs.Refusals.{is_cause, is_untold, status_of}

-- the word that the lines of this program begin with
abbrev pub program : List ℕ
program = codes "edtloc:"

-- the name of a cause of a problem file
abbrev pub cause_name : ProblemCause → List ℕ
cause_name Form = codes "Form"
cause_name Limit = codes "Limit"

-- the first faulty word of a problem file, counted from 1, and its cause
unfoldable pub problem_line : ProblemFault → List ℕ
problem_line fault = told_line program (codes "problem" ∷ cause_name fault.cause ∷ decimal fault.word ∷ [])

-- a problem file past its limit
abbrev pub problem_too_long_line : List ℕ
problem_too_long_line = told_line program (codes "problem" ∷ codes "TooLong" ∷ codes "0" ∷ [])

-- the status that names a refusal
abbrev pub run_status : RunRefusal → ℕ
run_status (Problem fault) = 4
run_status ProblemTooLong = 4
run_status (Input refusal) = status_of refusal
run_status Write = 8

-- the line that tells of it
abbrev pub run_line : RunRefusal → List ℕ
run_line (Problem fault) = problem_line fault
run_line ProblemTooLong = problem_too_long_line
run_line (Input refusal) = refusal_line program refusal
run_line Write = write_line program

-- the status of a run that ends so
abbrev pub status_after : {T : Type 0} → Result T RunRefusal → ℕ
status_after (Ok _) = 0
status_after (Err refusal) = run_status refusal

-- running out of memory, failed calls and failed writes aren't told by the files
abbrev pub is_untold_run : RunRefusal → Bool
is_untold_run (Problem fault) = false
is_untold_run ProblemTooLong = false
is_untold_run (Input refusal) = is_untold refusal
is_untold_run Write = true

-- a run that solves the file of a name is refused when out of memory, or with this name
abbrev pub IsOfFile : List ℕ → Refusal → Type 0
IsOfFile name refusal = (refusal ≡ Memory) ⊎ ((refusal ≡ Read name) ⊎ (refusal ≡ Absent name))

-- the refusals that a command can have: those of a problem file with its own name, or those of an input, whose causes files have and whose
-- names are names; and running out of memory or a failed write, where no file is read
abbrev pub CanRefuse : RunCommand → RunRefusal → Type 0
CanRefuse (Solve name) (Problem fault) = 1 ≤ fault.word
CanRefuse (Solve name) ProblemTooLong = ⊤
CanRefuse (Solve name) (Input refusal) = IsOfFile name refusal
CanRefuse (Solve name) Write = ⊤
CanRefuse (Locate name) (Problem fault) = ⊥
CanRefuse (Locate name) ProblemTooLong = ⊥
CanRefuse (Locate name) (Input refusal) = IsTrue (is_cause refusal) × IsTrue (is_named refusal)
CanRefuse (Locate name) Write = ⊤
CanRefuse (Demo seed side) (Problem fault) = ⊥
CanRefuse (Demo seed side) ProblemTooLong = ⊥
CanRefuse (Demo seed side) (Input refusal) = refusal ≡ Memory
CanRefuse (Demo seed side) Write = ⊤

-- the file that a refusal names has a name, where it names one
abbrev pub is_named_run : RunRefusal → Bool
is_named_run (Problem fault) = true
is_named_run ProblemTooLong = true
is_named_run (Input refusal) = is_named refusal
is_named_run Write = true
