use Rattle.std.proofs.Common.{◌≡◌, ◌≤◌, ◌<◌, ◌-◌, ℕ, map, length, drop, take}
use Rattle.edt_text.specs.WordCursor.{words_left}
use Rattle.text_terms.specs.Words.{word_at}
use Rattle.edt_text.proofs.placing.PlacedWords.new.Given as goal

abbrev pub invariant-loop-count : goal.invariant-loop-count
invariant-loop-count l = record {
  left : words_left l.rest ≡ drop l.count (words_left l.line);
  within : l.count ≤ length (words_left l.line);
  few : l.count ≤ 15;
  size : length l.first ≡ 15;
  taken : (k : ℕ) → k < 15 → word_at k (map (λ word. word.now) l.first) ≡ word_at k (take l.count (words_left l.line));
}

abbrev pub decreases-loop-count : goal.decreases-loop-count
decreases-loop-count l = 15 - l.count
