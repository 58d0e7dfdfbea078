-- The reading goes through the words and their numbers.
use Rattle.std.proofs.Common.{◌≡◌, ◌∙◌}
use Rattle.edt_text.specs.PlacedWords.{placed_words}
use Rattle.grid_header.specs.declared.header.Header.{Header}
use Rattle.grid_header.specs.Inside.Parts.{AreHeaderWords}
use Rattle.grid_header.specs.Inside.Fields.{AreNumbersOf}
use Rattle.grid_header.specs.Reading.{header_of}
use Rattle.grid_header.proofs.ReadingLaws.{ok_or-then, ok_or-value, if_some-then, fields_are}
use Rattle.grid_header.proofs.header.read_fields.Goals as goal

pub returns-clause-fields : goal.returns-clause-fields
returns-clause-fields c =
    let bytes = c.args.bytes.now in
    let words = ok_or-value c.header_words.result _ c.in_ok-words.words (AreHeaderWords bytes) c.in_ok-words.ensures.value c.header_words.ensures.some in
    let numbers = ok_or-value c.read.result _ c.in_ok-numbers.numbers (AreNumbersOf (placed_words c.in_ok-words.words.grid) (placed_words c.in_ok-words.words.source)) c.in_ok-numbers.ensures.value c.read.ensures.some in
    let is = fields_are bytes c.in_ok-numbers.numbers (rw (words.grid, words.source) at numbers) in
    rw c.ok_or-3.ensures.value (ok_or-then c.header.result _ (λ (h : Header). h ≡ header_of bytes)
    (if_some-then c.header.result _ _ (λ h fields. fields.0 ∙ is) c.header.ensures.some))
