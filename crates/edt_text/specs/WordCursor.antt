-- What a cursor over words still has to give.
use Rattle.std.specs.Prelude.{ℕ, List}
use Rattle.text_terms.specs.Words.{words_of, file_words}
use Rattle.edt_text.specs.declared.splitting.Words.{Words}
use Rattle.edt_text.specs.declared.splitting.FileWords.{FileWords}

-- the words of the line that weren't given yet
unfoldable pub words_left : Words → List (List ℕ)
words_left words = words_of words.rest.now

-- the words of all lines that weren't given yet
unfoldable pub file_words_left : FileWords → List (List ℕ)
file_words_left words = file_words words.rest.now
