use Rattle.std.proofs.Common.{◌≤◌, ◌⊎◌, inl, inr, length, sym, ◌∙◌, arith, rules}
use Rattle.edt_text.specs.WordCursor.{words_left}
use Rattle.edt_text.proofs.TakenWords.{next_word, hold_more, hold_all, none_left, counted}
use Rattle.edt_text.proofs.placing.PlacedWords.new.Goals.{else-loop-count-test, then-loop-count-test+in_default}
use Rattle.edt_text.proofs.placing.PlacedWords.new.Goals as goal

pub loop-count-preserved : goal.loop-count-preserved
loop-count-preserved c =
    let next = next_word (words_left c.args.line) c.loop-count.count c.in-Some.word.now (words_left c.next.new.self) (sym c.loop-count.invariant.left ∙ c.in-Some.ensures.word) in
    record {
      left = next.after;
      within = omega (arith, next.within);
      few = search rules;
      size = search rules;
      taken = hold_more c.loop-count.first (words_left c.args.line) c.loop-count.count c.in-Some.word (words_left c.next.new.self) c.loop-count.invariant.size (omega arith) next c.loop-count.invariant.taken;
    }

pub invariant_of-result : goal.invariant_of-result
invariant_of-result c =
    let end : (15 ≤ c.loop-count.count) ⊎ (length (words_left c.args.line) ≤ c.loop-count.count) = elim c.loop-count-test.branch [
      | else-loop-count-test w ↦ inl (search rules)
      | then-loop-count-test+in_default w ↦ inr (none_left (words_left c.args.line) c.loop-count.count (sym c.loop-count.invariant.left ∙ w.in_default.ensures.end.0))
    ] in
    record {
      counted = counted (words_left c.args.line) c.loop-count.count c.loop-count.invariant.within c.loop-count.invariant.few end;
      taken = hold_all c.loop-count.first (words_left c.args.line) c.loop-count.count end c.loop-count.invariant.taken;
    }
