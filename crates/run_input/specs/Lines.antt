-- The lines that a program writes to standard error, each after the program's own word, as `edtloc:`.
use Rattle.std.specs.Prelude.{ℕ, ◌++◌, List, [], ◌∷◌, codes, decimal}
use Rattle.control_reader.specs.declared.fault.ControlFault.{ControlFault}
use Rattle.phase_reader.specs.declared.fault.PhaseFault.{PhaseFault}
use Rattle.run_input.specs.CauseNames.{control_cause_name, phase_cause_name}

-- each word after a blank, and a line feed at the end
abbrev pub words_after : List (List ℕ) → List ℕ
words_after [] = 10 ∷ []
words_after (word ∷ words) = 32 ∷ word ++ words_after words

-- the line of a program
abbrev pub told_line : List ℕ → List (List ℕ) → List ℕ
told_line program words = program ++ words_after words

-- a faulty line of a control file: the number of its file, its number in it, and the cause
unfoldable pub control_line : List ℕ → ControlFault → List ℕ
control_line program fault =
    told_line program (
    codes "control" ∷ decimal fault.file ∷ decimal fault.line ∷ control_cause_name fault.cause ∷ [])

-- a control file past its limit
unfoldable pub control_too_long_line : List ℕ → ℕ → List ℕ
control_too_long_line program file =
    told_line program (codes "control" ∷ decimal file ∷ codes "0" ∷ codes "TooLong" ∷ [])

-- a faulty line of a phase file
unfoldable pub phases_line : List ℕ → PhaseFault → List ℕ
phases_line program fault =
    told_line program (codes "phases" ∷ decimal fault.line ∷ phase_cause_name fault.cause ∷ [])

-- a phase file past its limit
abbrev pub phases_too_long_line : List ℕ → List ℕ
phases_too_long_line program = told_line program (codes "phases" ∷ codes "0" ∷ codes "TooLong" ∷ [])

-- a header that is refused
unfoldable pub header_line : List ℕ → List ℕ → List ℕ → List ℕ
header_line program name cause = told_line program (codes "header" ∷ name ∷ cause ∷ [])

-- a body that is refused
unfoldable pub body_line : List ℕ → List ℕ → List ℕ → List ℕ
body_line program name cause = told_line program (codes "body" ∷ name ∷ cause ∷ [])

-- too many times
abbrev pub cells_line : List ℕ → List ℕ
cells_line program = told_line program (codes "grids" ∷ codes "Cells" ∷ [])

-- running out of memory
abbrev pub memory_line : List ℕ → List ℕ
memory_line program = told_line program (codes "memory" ∷ [])

-- a file that could not be read
abbrev pub read_line : List ℕ → List ℕ → List ℕ
read_line program name = told_line program (codes "read" ∷ name ∷ [])

-- a file that isn't there
abbrev pub absent_line : List ℕ → List ℕ → List ℕ
absent_line program name = told_line program (codes "absent" ∷ name ∷ [])

-- words without a shape
abbrev pub words_line : List ℕ → List ℕ
words_line program = told_line program (codes "words" ∷ [])

-- an output that failed or took nothing
abbrev pub write_line : List ℕ → List ℕ
write_line program = told_line program (codes "write" ∷ [])
