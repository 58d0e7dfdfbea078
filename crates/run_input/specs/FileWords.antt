-- The words that may name a file.
use Rattle.std.specs.Prelude.{ℕ, Bool, List}
use Rattle.text_terms.specs.Names.{is_name}

-- a file word has 1 to 255 bytes of a name
abbrev pub is_file_word : List ℕ → Bool
is_file_word word = is_name 255 word
