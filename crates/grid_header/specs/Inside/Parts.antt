-- What the words that were taken from a header's lines are.
use Rattle.std.specs.Prelude.{◌≡◌, ℕ, true, List}
use Rattle.edt_text.specs.PlacedWords.{placed_words}
use Rattle.grid_header.specs.declared.words.HeaderWords.{HeaderWords}
use Rattle.grid_header.specs.Layout.{grid_words, source_words, has_shape}

-- the words of a header that has its shape
pub record AreHeaderWords (bytes : List ℕ) (h : HeaderWords) : Type 0 where
  pub shape : has_shape bytes ≡ true
  pub grid : placed_words h.grid ≡ grid_words bytes
  pub source : placed_words h.source ≡ source_words bytes
