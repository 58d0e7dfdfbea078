use Rattle.std.proofs.Common.{◌≤◌, length, refl, arith}
use Rattle.std.proofs.lemmas.Option.{slice_get_past}
use Rattle.std.proofs.lemmas.Grind.{common_steps}
use Rattle.edt_text.specs.PlacedWords.{placed_words}
use Rattle.phase_reader.specs.PickFields.{weight_of}
use Rattle.phase_reader.proofs.values.read_weight.Goals as goal

pub returns-then-not-has-clause-value : goal.returns-then-not-has-clause-value
unfolding weight_of
returns-then-not-has-clause-value c =
    let few : length (placed_words c.args.words.now) ≤ 14 = grind (arith, common_steps) in
    rw (slice_get_past (placed_words c.args.words.now) 14 few) refl

pub returns-then-not-has-clause-good : goal.returns-then-not-has-clause-good
returns-then-not-has-clause-good c =
    let few : length (placed_words c.args.words.now) ≤ 14 = grind (arith, common_steps) in
    rw (slice_get_past (placed_words c.args.words.now) 14 few) refl
