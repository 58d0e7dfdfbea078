-- The words of a line by their places.
use Rattle.std.specs.Prelude.{ℕ, List}
use Rattle.edt_text.specs.WordCursor.{words_left}
use Rattle.edt_text.specs.declared.placing.PlacedWords.{PlacedWords}

-- all words that were there to be taken
abbrev pub placed_words : PlacedWords → List (List ℕ)
placed_words words = words_left words.line
