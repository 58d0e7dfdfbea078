-- What is said with one more line.
use Rattle.std.specs.Prelude.{ℕ, ◌+◌, List, [], ◌∷◌, ◌++◌, Some}
use Rattle.control_reader.specs.declared.statement.Statement.{Statement}
use Rattle.control_reader.specs.declared.statement.Statement.TheVariants.{Locfiles, Locgrid, Locmeth, Locgau, Locsearch, Locphaseid, Locexclude, Locdelay, Localias, Control, Include, Edtnear, Edtbudget, Edtkernel, Edtlanes, Locgau2}
use Rattle.control_reader.specs.declared.statement.LineKind.{LineKind}
use Rattle.control_reader.specs.declared.statement.LineKind.TheVariants.{Blank, Comment, Passed, Of}
use Rattle.control_reader.specs.ControlLines.{ControlLine, kind_of, arguments_of}
use Rattle.control_reader.specs.Values.{files_of, frame_of, method_of, sigma_of, cells_of, phase_ids_of, exclude_of, delay_of, alias_of, seed_of, count_of, shape_of}
use Rattle.control_reader.specs.Inside.Said.{Said}

-- what is said with one more statement, given the words after its keyword
abbrev pub with_statement : Statement → List (List ℕ) → Said → Said
with_statement Locfiles words said = record said { files = Some (files_of words) }
with_statement Locgrid words said = record said { frame = Some (frame_of words) }
with_statement Locmeth words said = record said { method = Some (method_of words) }
with_statement Locgau words said = record said { sigma = Some (sigma_of words) }
with_statement Locsearch words said = record said { cells = Some (cells_of words) }
with_statement Locphaseid words said = record said { phase_ids = said.phase_ids ++ phase_ids_of words }
with_statement Locexclude words said = record said { excludes = said.excludes ++ exclude_of words ∷ [] }
with_statement Locdelay words said = record said { delays = said.delays ++ delay_of words ∷ [] }
with_statement Localias words said = record said { aliases = said.aliases ++ alias_of words ∷ [] }
with_statement Control words said = record said { seed = Some (seed_of words) }
with_statement Include words said = record said { includes = said.includes + 1 }
with_statement Edtnear words said = record said { margin = Some (count_of words) }
with_statement Edtbudget words said = record said { budget = Some (count_of words) }
with_statement Edtkernel words said = record said { shape = Some (shape_of words) }
with_statement Edtlanes words said = record said { lanes = Some (count_of words) }
with_statement Locgau2 words said = said

-- what is said with one more line of a kind
abbrev pub with_kind : LineKind → List (List ℕ) → Said → Said
with_kind Blank words said = said
with_kind Comment words said = said
with_kind Passed words said = record said { passed = said.passed + 1 }
with_kind (Of statement) words said = with_statement statement words said

-- what is said with one more line
abbrev pub with_line : ControlLine → Said → Said
with_line line said = with_kind (kind_of line) (arguments_of line) said
