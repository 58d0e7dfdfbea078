use Rattle.std.proofs.Common.{◌≡◌, ◌++◌, map, length, drop, All}
use Rattle.edt_text.specs.WordCursor.{words_left}
use Rattle.edt_text.specs.PlacedWords.{placed_words}
use Rattle.control_reader.specs.Limits.{IsPhaseId}
use Rattle.text_terms.specs.Words.{word_at}
use Rattle.control_reader.proofs.PhaseIdSteps.{id_of, are_names}
use Rattle.control_reader.proofs.words.phases.read_phase_ids.Given as goal

abbrev pub invariant-loop-code : goal.invariant-loop-code
invariant-loop-code l = let words = placed_words l.fn.arguments in record {
  value : l.into.items ++ map (id_of (word_at 0 words)) (words_left l.codes) ≡ l.fn.into.items ++ map (id_of (word_at 0 words)) (drop 1 words);
  good : are_names (words_left l.codes) ≡ are_names (drop 1 words);
  limits : All IsPhaseId l.fn.into.items → All IsPhaseId l.into.items;
}

abbrev pub decreases-loop-code : goal.decreases-loop-code
decreases-loop-code l = length (words_left l.codes)
