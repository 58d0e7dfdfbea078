-- What the parts of a problem file's reading answer.
use Rattle.std.specs.Prelude.{◌≡◌, ◌*◌, ◌<◌, ◌≤◌, ⊤}
use Rattle.node_boxes.specs.Grid.{grid_size}
use Rattle.edt_top.specs.Solve.ProblemFile.{Words, number_at, nodes_in, picks_in, IsProblemFile}
use Rattle.edt_score.specs.Problem.{IsValidProblem}
use Rattle.edt_top.specs.Inside.ProblemCursor.{Names}
use Rattle.edt_top.specs.Solve.ProblemValues.{field_in, picks_of}
use Rattle.edt_top.specs.declared.solve.problem_file.ProblemFile.{ProblemFile}
use Rattle.edt_top.specs.declared.solve.problem_file.Head.{Head}
use Rattle.edt_top.specs.declared.solve.problem_file.ReadRefusal.{ReadRefusal}
use Rattle.edt_top.specs.declared.solve.problem_file.ReadRefusal.TheVariants.{Faulty, Memory}

-- the numbers before the picks, within their limits
pub record IsHead (words : Words) (head : Head) : Type 0 where
  pub grid : head.grid ≡ grid_size (number_at words 2) (number_at words 3) (number_at words 4)
  pub picks : head.picks ≡ picks_in words
  pub some : 2 ≤ picks_in words
  pub few : picks_in words ≤ 256
  pub some_node : 0 < nodes_in words
  pub nodes : nodes_in words ≤ 65536
  pub times : picks_in words * nodes_in words ≤ 1000000

-- a refusal for a fault names the first faulty word; running out of memory is free
abbrev pub NamesFault : Words → ReadRefusal → Type 0
NamesFault words (Faulty fault) = Names words fault
NamesFault words Memory = ⊤

-- the words are those of a problem file, and this is what they make: a valid problem
pub record IsReadFrom (words : Words) (file : ProblemFile) : Type 0 where
  pub whole : IsProblemFile words
  pub some : 0 < nodes_in words
  pub few : nodes_in words ≤ 65536
  pub field : file.field ≡ field_in words
  pub picks : file.problem.picks.items ≡ picks_of words
  pub valid : IsValidProblem file.field file.problem
