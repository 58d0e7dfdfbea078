use Rattle.std.proofs.Common.{length}
use Rattle.edt_text.specs.WordCursor.{file_words_left}
use Rattle.edt_text.proofs.tests.count_file_words.Given as goal

abbrev pub decreases-loop-word : goal.decreases-loop-word
decreases-loop-word l = length (file_words_left l.words)
