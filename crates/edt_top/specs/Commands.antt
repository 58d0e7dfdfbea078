-- The words of a run: what they command.
use Rattle.std.specs.Prelude.{◌≡◌, ℕ, ◌+◌, ◌≤◌, ◌&&◌, ⊤, nat_le, Bool, true, false, IsTrue, if◌then◌else◌, List, [], ◌∷◌, Option, Some, None, codes}
use Rattle.std.specs.Str.{bytes_eq}
use Rattle.text_terms.specs.Names.{is_name}
use Rattle.edt_text.specs.Reading.{reading_of}
use Rattle.run_input.specs.FileWords.{is_file_word}
use Rattle.edt_top.specs.declared.commands.Command.{Command}
use Rattle.edt_top.specs.declared.commands.Command.TheVariants.{Solve as solve_command, Locate as locate_command, Demo as demo_command}

-- a run solves the problem file of a name, locates the events of the control file of a name, or makes the problem of a seed in a cube
-- with so many nodes on each axis
pub data RunCommand : Type 0 where
  Solve : List ℕ → RunCommand
  Locate : List ℕ → RunCommand
  Demo : ℕ → ℕ → RunCommand

-- the command that was read
abbrev pub command_value : Command → RunCommand
command_value (solve_command name) = Solve name.now
command_value (locate_command name) = Locate name.now
command_value (demo_command seed side) = Demo seed side

-- the command of a word, on the file of a name
abbrev pub command_on : List ℕ → List ℕ → Option RunCommand
command_on word name =
    if bytes_eq word (codes "solve") then Some (Solve name)
    else if bytes_eq word (codes "locate") then Some (Locate name)
    else None

-- the command of a seed, and of a side from 1 to 64
abbrev pub demo_of : Option ℕ → Option ℕ → Option RunCommand
demo_of None side = None
demo_of (Some seed) None = None
demo_of (Some seed) (Some side) = if nat_le 1 side && nat_le side 64 then Some (Demo seed side) else None

-- the command of a word, on a seed and a side, each the shortest decimal of a number below 2^64
unfoldable pub command_from : List ℕ → List ℕ → List ℕ → Option RunCommand
command_from word seed side = if bytes_eq word (codes "demo") then demo_of (reading_of seed) (reading_of side) else None

-- the command of the words `solve PROBLEM`, `locate CONTROL` and `demo SEED SIDE`; other words have no shape
abbrev pub command_of : List (List ℕ) → Option RunCommand
command_of [] = None
command_of (word ∷ []) = None
command_of (word ∷ name ∷ []) = if is_file_word name then command_on word name else None
command_of (word ∷ seed ∷ side ∷ []) = command_from word seed side
command_of (word ∷ second ∷ third ∷ fourth ∷ more) = None

-- whether a run asks for no header: all but those that locate
abbrev pub asks_no_header : RunCommand → Bool
asks_no_header (Solve name) = true
asks_no_header (Locate name) = false
asks_no_header (Demo seed side) = true

-- the most calls of a shelf that a run makes after some calls, where there is a limit
abbrev pub AreFewCalls : RunCommand → ℕ → ℕ → Type 0
AreFewCalls (Solve name) before after = after ≤ before + 16777219
AreFewCalls (Locate name) before after = ⊤
AreFewCalls (Demo seed side) before after = after ≡ before

-- the file of a command has a name, or its cube has 1 to 64 nodes on each axis
abbrev pub IsSoundCommand : RunCommand → Type 0
IsSoundCommand (Solve name) = IsTrue (is_name 512 name)
IsSoundCommand (Locate name) = IsTrue (is_name 512 name)
IsSoundCommand (Demo seed side) = (1 ≤ side) × (side ≤ 64)
