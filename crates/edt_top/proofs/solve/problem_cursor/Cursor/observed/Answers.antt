use Rattle.std.proofs.Common.{◌≡◌, ◌==◌, ◌∙◌, inl, inr, refl, ap, List, [], ℕ, Option, Some, None, ℤ, if◌then◌else◌, unwrap_or, eqb-true}
use Rattle.std.specs.List.{slice_get}
use Rattle.std.specs.Option.{option_copied}
use Rattle.text_terms.proofs.Cases.{by_bool}
use Rattle.edt_top.specs.Solve.ProblemFile.{Words, Observed, signed_of, signed_at, fault_in}
use Rattle.edt_top.proofs.SolveLaws.ProblemSteps.{sound_step, named}
use Rattle.edt_top.proofs.solve.problem_cursor.Cursor.observed.Goals as goal

-- the time of the first pick, where the word is that time itself or stands after it
first_time_is : (words : Words) (k : ℕ) (first : Option ℤ) (word : Option (List ℕ)) → first ≡ (if k == 6 then None else Some (signed_at words 6))
    → word ≡ slice_get words k → unwrap_or first (signed_of (unwrap_or word [])) ≡ signed_at words 6
first_time_is words k first word is at =
    elim (by_bool (k == 6)) as (λ _. unwrap_or first (signed_of (unwrap_or word [])) ≡ signed_at words 6) [
      | inl here ↦
          let none : first ≡ None = is ∙ ap (λ b. if b then None else Some (signed_at words 6)) here in
          let same : word ≡ slice_get words 6 = at ∙ ap (slice_get words) (eqb-true k 6 here) in
          ap (λ f. unwrap_or f (signed_of (unwrap_or word []))) none ∙ ap (λ w. signed_of (unwrap_or w [])) same
      | inr behind ↦
          let some : first ≡ Some (signed_at words 6) = is ∙ ap (λ b. if b then None else Some (signed_at words 6)) behind in
          ap (λ f. unwrap_or f (signed_of (unwrap_or word []))) some
    ]

pub returns-in-Ok-clause-sound : goal.returns-in-Ok-clause-sound
returns-in-Ok-clause-sound c =
    let time = first_time_is c.args.self.now.words c.args.self.now.place c.args.first _ c.requires.first c.next_word-word.ensures.word in
    sound_step c.args.self.now c.next_word-word.new.self (Observed (signed_at c.args.self.now.words 6)) _ refl c.requires.sound c.requires.form
    c.next_word-word.ensures.word c.next_word-word.ensures.moved
    (c.in-Ok.ensures.fault ∙ ap (λ o. fault_in (Observed o) (option_copied c.next_word-word.result)) time)

pub returns-in-Err-clause-fault : goal.returns-in-Err-clause-fault
returns-in-Err-clause-fault c =
    let time = first_time_is c.args.self.now.words c.args.self.now.place c.args.first _ c.requires.first c.next_word-word.ensures.word in
    named c.args.self.now c.next_word-word.new.self (Observed (signed_at c.args.self.now.words 6)) _ c.in-Err.cause _ c.requires.sound c.requires.form
    c.next_word-word.ensures.word c.next_word-word.ensures.moved c.fault.ensures
    (c.in-Err.ensures.fault ∙ ap (λ o. fault_in (Observed o) (option_copied c.next_word-word.result)) time)
