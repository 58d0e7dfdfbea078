use Rattle.std.proofs.Common.{refl, ◌∙◌}
use Rattle.text_terms.proofs.WordLaws.{file_words-runs}
use Rattle.edt_text.specs.WordCursor.{file_words_left}
use Rattle.edt_text.proofs.splitting.FileWords.next.Goals as goal

pub returns-in_default-clause-end : goal.returns-in_default-clause-end
unfolding file_words_left
returns-in_default-clause-end c = (file_words-runs c.args.self.now.rest.now ∙ c.in_default.ensures.none, refl)

pub returns-clause-word : goal.returns-clause-word
unfolding file_words_left
returns-clause-word c =
    rw (file_words-runs c.args.self.now.rest.now, file_words-runs c.in-Some.rest.now) c.in-Some.ensures.some
