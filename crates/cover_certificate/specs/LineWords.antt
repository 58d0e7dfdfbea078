-- The words of a line that single blanks part.
use Rattle.std.specs.Prelude.{ℕ, Bool, ◌==◌, ◌&&◌, not, List, length}
use Rattle.std.specs.List.{list_all, slice_split}
use Rattle.text_terms.specs.Words.{is_blank}

-- the blank that parts the words of a certificate
abbrev pub is_space : ℕ → Bool
is_space b = b == 32

-- the parts of a line, cut at each blank
abbrev pub parts : List ℕ → List (List ℕ)
parts bytes = slice_split is_space bytes

-- a part is a word where it has a byte, and none that parts words elsewhere
abbrev pub is_plain : List ℕ → Bool
is_plain word = not (length word == 0) && list_all (λ b. not (is_blank b)) word
