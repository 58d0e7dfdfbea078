use Rattle.std.proofs.Common.{length}
use Rattle.edt_text.specs.WordCursor.{words_left}
use Rattle.edt_text.proofs.tests.count_words.Given as goal

abbrev pub decreases-loop-word : goal.decreases-loop-word
decreases-loop-word l = length (words_left l.words)
