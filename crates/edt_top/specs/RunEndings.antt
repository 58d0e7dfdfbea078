-- How a run ends, as one function of the files of its shelf and its command: with a text in parts, or with its first refusal.
use Rattle.std.specs.Prelude.{ℕ, ◌+◌, nat_lt, if◌then◌else◌, List, [], ◌∷◌, length, Option, Some, None, Result, Ok, Err}
use Rattle.text_terms.specs.Words.{file_words}
use Rattle.edt_outside.specs.Shelves.{Files}
use Rattle.run_input.specs.declared.refusals.Refusal.{Refusal}
use Rattle.run_input.specs.declared.refusals.Refusal.TheVariants.{Absent}
use Rattle.run_input.specs.FirstRefusals.{first_faulty}
use Rattle.run_input.specs.Inputs.{InputValues, input_of}
use Rattle.edt_top.specs.declared.refusals.RunRefusal.{RunRefusal}
use Rattle.edt_top.specs.declared.refusals.RunRefusal.TheVariants.{Problem, ProblemTooLong, Input}
use Rattle.edt_top.specs.declared.solve.problem_word.ProblemCause.{ProblemCause}
use Rattle.edt_top.specs.Commands.{RunCommand, Solve, Locate, Demo}
use Rattle.edt_top.specs.Demo.Text.{demo_text}
use Rattle.edt_top.specs.Locate.Text.{locate_parts}
use Rattle.edt_top.specs.Solve.ProblemFile.{Words, fault_at}
use Rattle.edt_top.specs.Solve.Text.{solve_text}

-- a text in the parts in which it is written, or the first refusal
abbrev pub RunEnding : Type 0
RunEnding = Result (List (List ℕ)) RunRefusal

-- the first faulty word, or the text
abbrev pub fault_or_text : Words → Option (ℕ × ProblemCause) → RunEnding
fault_or_text words (Some (place, cause)) = Err (Problem (record { word = place + 1; cause = cause }))
fault_or_text words None = Ok (solve_text words ∷ [])

-- the ending of a problem file of these words
unfoldable pub words_ending : Words → RunEnding
words_ending words = fault_or_text words (first_faulty (fault_at words) (length words))

-- the ending of what stands under the name of a problem file: it isn't there, or passes its limit, or else is that of its words
unfoldable pub solve_ending : List ℕ → Option (List ℕ) → RunEnding
solve_ending name None = Err (Input (Absent name))
solve_ending name (Some bytes) =
    if nat_lt 16777216 (length bytes) then Err ProblemTooLong else words_ending (file_words bytes)

-- the ending of an input: its text, or its refusal
abbrev pub locate_ending : Result InputValues Refusal → RunEnding
locate_ending (Ok input) = Ok (locate_parts input)
locate_ending (Err refusal) = Err (Input refusal)

-- the ending of a seed and a side: its text, in one part
abbrev pub demo_ending : ℕ → ℕ → RunEnding
demo_ending seed side = Ok (demo_text seed side ∷ [])

-- the ending of a command
abbrev pub run_ending : Files → RunCommand → RunEnding
run_ending files (Solve name) = solve_ending name (files name)
run_ending files (Locate name) = locate_ending (input_of files name)
run_ending files (Demo seed side) = demo_ending seed side
