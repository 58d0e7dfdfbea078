-- The kinds of the lines of a phase file.
use Rattle.std.specs.Prelude.{ℕ, Bool, true, false, ◌==◌, if◌then◌else◌, List, [], ◌∷◌, slice_index, codes}
use Rattle.std.specs.Str.{bytes_eq}
use Rattle.text_terms.specs.Lines.{NumberedLine}
use Rattle.text_terms.specs.Words.{words_of}
use Rattle.phase_reader.specs.declared.kind.LineKind.{LineKind}
use Rattle.phase_reader.specs.declared.kind.LineKind.TheVariants.{Blank, Comment, PublicId, PickLine}

-- a line whose first word begins with # is a comment, and one whose first word is PUBLIC_ID is passed over
abbrev pub kind_of_first : List ℕ → LineKind
kind_of_first word =
    if slice_index word 0 == 35 then Comment
    else if bytes_eq word (codes "PUBLIC_ID") then PublicId
    else PickLine

-- a line without words is blank, and the first word decides the kind of each other one
abbrev pub kind_of_words : List (List ℕ) → LineKind
kind_of_words [] = Blank
kind_of_words (word ∷ words) = kind_of_first word

-- the kind of a line
unfoldable pub kind_of : NumberedLine → LineKind
kind_of line = kind_of_words (words_of line.1)

-- a kind that parts events
abbrev pub parts : LineKind → Bool
parts Blank = true
parts Comment = false
parts PublicId = false
parts PickLine = false

-- the kind that is passed over and counted
abbrev pub counts : LineKind → Bool
counts Blank = false
counts Comment = false
counts PublicId = true
counts PickLine = false

-- the kind of picks
abbrev pub picks : LineKind → Bool
picks Blank = false
picks Comment = false
picks PublicId = false
picks PickLine = true

-- the line parts events
abbrev pub is_parting : NumberedLine → Bool
is_parting line = parts (kind_of line)

-- the line is passed over and counted
abbrev pub is_passed : NumberedLine → Bool
is_passed line = counts (kind_of line)

-- the line is a pick
abbrev pub is_pick : NumberedLine → Bool
is_pick line = picks (kind_of line)
