use Rattle.std.proofs.Common.{◌≡◌, ◌+◌, ◌∙◌, ℕ, List, sym, ap, drop, [], ◌∷◌, Option, Some, None, IfNone, IfSome, Bor}
use Rattle.std.specs.List.{slice_get}
use Rattle.std.specs.Option.{option_copied}
use Rattle.text_terms.specs.Words.{file_words}
use Rattle.edt_text.specs.WordCursor.{file_words_left}
use Rattle.edt_top.proofs.SolveLaws.ProblemSteps.{first_left, none_left}
use Rattle.edt_top.proofs.solve.problem_cursor.Cursor.next_word.Goals as goal

-- the next word of those that a cursor has left, and what it has left then
stepped : {W : Type 0} (left : W → List (List ℕ)) (before after : W) (words : List (List ℕ)) (k : ℕ) (word : Option (Bor (List ℕ)))
    → left before ≡ drop k words → IfNone word ((left before ≡ []) × (after ≡ before)) → IfSome word (λ w. left before ≡ w.now ∷ left after)
    → (option_copied word ≡ slice_get words k) × (left after ≡ drop (k + 1) words)
stepped left before after words k None is none some =
    let end = none_left words k (sym is ∙ none.0) in
    (sym end.0, ap left none.1 ∙ (none.0 ∙ sym end.1))
stepped left before after words k (Some word) is none some =
    let next = first_left words k word.now (left after) (sym is ∙ some) in
    (sym next.0, sym next.1)

pub invariant_of-self : goal.invariant_of-self
invariant_of-self c = (stepped file_words_left _ _ (file_words c.self.inside.bytes.now) c.self.inside.place c.next.result c.self.invariant c.next.ensures.end c.next.ensures.word).1

pub returns-clause-word : goal.returns-clause-word
returns-clause-word c = rw (← c.self.view_is) (stepped file_words_left _ _ (file_words c.self.inside.bytes.now) c.self.inside.place c.next.result c.self.invariant c.next.ensures.end c.next.ensures.word).0
