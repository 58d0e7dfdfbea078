-- What the status of a run says of its text and its line, and which statuses a run can have.
use Rattle.std.specs.Prelude.{◌≡◌, ℕ, Bool, false, ◌<◌, List, [], ◌∷◌, length, take, flat_map, IsTrue, IfOk, Option, Some, Ok, Err, ⊤, ◌⊎◌}
use Rattle.edt_outside.specs.Shelves.{Files}
use Rattle.run_input.specs.FilesUnder.{lacks_a_header_under}
use Rattle.run_input.specs.Inputs.{InputValues, input_of}
use Rattle.run_input.specs.Lines.{words_line}
use Rattle.run_input.specs.Statuses.{is_one_of}
use Rattle.run_input.specs.Told.{IsCutShort}
use Rattle.edt_score.specs.Demo.{demo_field}
use Rattle.octree_search.specs.Fewest.{HasShortestCover}
use Rattle.edt_top.specs.declared.refusals.RunRefusal.{RunRefusal}
use Rattle.edt_top.specs.Commands.{RunCommand, Solve, Locate, Demo}
use Rattle.edt_top.specs.Demo.Text.{demo_bound, demo_outcome}
use Rattle.edt_top.specs.Locate.Covers.{AreCoversShortest}
use Rattle.edt_top.specs.Locate.Text.{locate_parts}
use Rattle.edt_top.specs.RunEndings.{RunEnding, demo_ending}
use Rattle.edt_top.specs.RunRefusals.{CanRefuse, program, run_line, run_status}

-- all of some texts
abbrev pub joined : List (List ℕ) → List ℕ
joined texts = flat_map (λ (text : List ℕ). text) texts

-- what was written, of the parts that a text can have: all of them; nothing, or some first ones, but not all, when out of memory; or a
-- proper front of the text, where a write failed
pub record IsWritten (IsText : List (List ℕ) → Type 0) (status : ℕ) (Wrote : List ℕ → Type 0) : Type 0 where
  pub whole : status ≡ 0 → (parts : List (List ℕ)) × IsText parts × Wrote (joined parts)
  pub front : status ≡ 6 → Wrote [] ⊎ ((parts : List (List ℕ)) × IsText parts × (n : ℕ) × (n < length parts) × Wrote (joined (take n parts)))
  pub cut_short : status ≡ 8 → (parts : List (List ℕ)) × IsText parts × IsCutShort Wrote (joined parts)

-- the ending is a refusal of this status, and its line has this
abbrev pub Refuses : RunEnding → ℕ → (List ℕ → Type 0) → Type 0
Refuses ending status Tells =
    (refusal : RunRefusal) × (ending ≡ Err refusal) × (run_status refusal ≡ status) × Tells (run_line refusal)

-- what each status says, by the ending that the files tell, and the statuses that a run with an ending can have
pub record Answers (ending : RunEnding) (status : ℕ) (Wrote Tells : List ℕ → Type 0) : Type 0 where
  pub written : IsWritten (λ (parts : List (List ℕ)). ending ≡ Ok parts) status Wrote
  pub control_refused : status ≡ 3 → Refuses ending 3 Tells
  pub file_refused : status ≡ 4 → Refuses ending 4 Tells
  pub grids_refused : status ≡ 5 → Refuses ending 5 Tells
  pub absent : status ≡ 9 → Refuses ending 9 Tells
  pub writes : (parts : List (List ℕ)) → ending ≡ Ok parts → IsTrue (is_one_of status (0 ∷ 6 ∷ 7 ∷ 8 ∷ []))
  pub refuses : (refusal : RunRefusal) → ending ≡ Err refusal
      → IsTrue (is_one_of status (run_status refusal ∷ 6 ∷ 7 ∷ []))

-- the parts are those of the text of some input, whose covers are the shortest
abbrev pub IsLocateText : List (List ℕ) → Type 0
IsLocateText parts = (input : InputValues) × (parts ≡ locate_parts input) × AreCoversShortest input

-- the cover of the problem of a seed is the shortest, where it has one
abbrev pub HasShortestDemo : ℕ → ℕ → Type 0
HasShortestDemo seed side = HasShortestCover (demo_field seed side).roots (demo_bound seed side) 100 (demo_outcome seed side)

-- the covers of an input that the files tell are the shortest, where the command locates, and that of the problem of a seed is
abbrev pub HasShortestCovers : Files → RunCommand → Type 0
HasShortestCovers files (Solve name) = ⊤
HasShortestCovers files (Locate name) = IfOk (input_of files name) AreCoversShortest
HasShortestCovers files (Demo seed side) = HasShortestDemo seed side

-- on every shelf: a run that locates writes the parts of such a text, one of a seed writes its text, and running out of memory leaves nothing of a
-- run that solves
abbrev pub WritesParts : RunCommand → ℕ → (List ℕ → Type 0) → Type 0
WritesParts (Solve name) status Wrote = status ≡ 6 → Wrote []
WritesParts (Locate name) status Wrote = IsWritten IsLocateText status Wrote
WritesParts (Demo seed side) status Wrote = IsWritten (λ (parts : List (List ℕ)). demo_ending seed side ≡ Ok parts) status Wrote

-- on every shelf: the line is that of a refusal of this status which the command can have
abbrev pub TellsRefusal : RunCommand → ℕ → (List ℕ → Type 0) → Type 0
TellsRefusal command status Tells =
    (refusal : RunRefusal) × CanRefuse command refusal × (run_status refusal ≡ status) × Tells (run_line refusal)

-- the line of each status, on every shelf: none where the run is done, that of words without a shape, or that of a refusal
pub record TellsLine (command : Option RunCommand) (status : ℕ) (Tells : List ℕ → Type 0) (Stays : Type 0) : Type 0 where
  pub done : status ≡ 0 → Stays
  pub words : status ≡ 2 → Tells (words_line program)
  pub refused : IsTrue (is_one_of status (3 ∷ 4 ∷ 5 ∷ 6 ∷ 7 ∷ 8 ∷ 9 ∷ []))
      → (c : RunCommand) × (command ≡ Some c) × TellsRefusal c status Tells

-- some header that a run wants isn't among the files; a run that doesn't locate wants none
abbrev pub lacks_a_header_of : Files → RunCommand → Bool
lacks_a_header_of files (Solve name) = false
lacks_a_header_of files (Locate name) = lacks_a_header_under files name
lacks_a_header_of files (Demo seed side) = false

-- what the shelf has left of its open file after a run that is done: nothing, or as much as before, where the run reads no file
abbrev pub IsReadToEnd : RunCommand → Option (List ℕ) → Option (List ℕ) → Type 0
IsReadToEnd (Solve name) before after = after ≡ Some []
IsReadToEnd (Locate name) before after = after ≡ Some []
IsReadToEnd (Demo seed side) before after = after ≡ before
