-- What the status of a run says, by how the run ended.
use Rattle.std.proofs.Common.{◌≡◌, ℕ, ◌==◌, ◌||◌, Bool, true, false, List, [], ◌∷◌, Option, Some, None, IfSome, IfErr, Result, Ok, Err, inl, inr, refl, sym, ◌∙◌, subst, arith}
use Rattle.std.specs.Prelude.{IsTrue, OnOk}
use Rattle.std.proofs.lemmas.Bool.Decides.{nat_tests}
use Rattle.text_terms.proofs.Cases.{by_bool}
use Rattle.edt_outside.specs.Shelves.{Files}
use Rattle.run_input.specs.Refusals.{status_of}
use Rattle.run_input.specs.Statuses.{is_one_of}
use Rattle.edt_top.specs.declared.refusals.RunRefusal.{RunRefusal}
use Rattle.edt_top.specs.declared.refusals.RunRefusal.TheVariants.{Problem, ProblemTooLong, Input, Write}
use Rattle.edt_top.specs.Commands.{RunCommand, Solve, Locate, Demo}
use Rattle.edt_top.specs.RunEndings.{RunEnding, run_ending}
use Rattle.edt_top.specs.RunRefusals.{CanRefuse, is_named_run, is_untold_run, run_status, status_after}
use Rattle.edt_top.specs.Runs.{Answers, HasShortestCovers, IsWritten, TellsLine}
use Rattle.edt_top.specs.Inside.Endings.{HasCause, ToldAfter}
use Rattle.edt_top.proofs.StatusLaws.{no_input_status}

-- a refusal of a status that files tell is told by them
told_status : (refusal : RunRefusal) (status : ℕ) → is_one_of status (6 ∷ 7 ∷ []) ≡ false → (8 == status) ≡ false → run_status refusal ≡ status
    → is_untold_run refusal ≡ false
told_status (Problem fault) status input write at = refl
told_status ProblemTooLong status input write at = refl
told_status (Input refusal) status input write at = subst (λ s. is_one_of s (6 ∷ 7 ∷ []) ≡ false) (sym at) input
told_status Write status input write at = let no : (8 == 8) ≡ false = subst (λ s. (8 == s) ≡ false) (sym at) write in absurd (cc no)

-- no refusal has another status than those of refusals
no_run_status : (refusal : RunRefusal) (status : ℕ) → is_one_of status (3 ∷ 4 ∷ 5 ∷ 6 ∷ 7 ∷ 9 ∷ []) ≡ false → (8 == status) ≡ false → run_status refusal ≡ status → ⊥
no_run_status (Problem fault) status input write at =
    let no : is_one_of 4 (3 ∷ 4 ∷ 5 ∷ 6 ∷ 7 ∷ 9 ∷ []) ≡ false = subst (λ s. is_one_of s (3 ∷ 4 ∷ 5 ∷ 6 ∷ 7 ∷ 9 ∷ []) ≡ false) (sym at) input in cc no
no_run_status ProblemTooLong status input write at =
    let no : is_one_of 4 (3 ∷ 4 ∷ 5 ∷ 6 ∷ 7 ∷ 9 ∷ []) ≡ false = subst (λ s. is_one_of s (3 ∷ 4 ∷ 5 ∷ 6 ∷ 7 ∷ 9 ∷ []) ≡ false) (sym at) input in cc no
no_run_status (Input refusal) status input write at = no_input_status refusal status input at
no_run_status Write status input write at = let no : (8 == 8) ≡ false = subst (λ s. (8 == s) ≡ false) (sym at) write in cc no

either : (b : Bool) → IsTrue (b || true)
either true = refl
either false = refl

-- a refusal that the files don't tell stands beside a text
untold_writes : (refusal : RunRefusal) → is_untold_run refusal ≡ true → IsTrue (is_one_of (run_status refusal) (0 ∷ 6 ∷ 7 ∷ 8 ∷ []))
untold_writes (Problem fault) untold = absurd (cc untold)
untold_writes ProblemTooLong untold = absurd (cc untold)
untold_writes (Input refusal) untold = grind (arith, nat_tests)
untold_writes Write untold = refl

-- and, but for a failed write, beside a refusal
untold_refuses : (ending : RunEnding) (refusal other : RunRefusal) (Wrote : List ℕ → Type 0) → is_untold_run refusal ≡ true → ending ≡ Err other
    → IsWritten (λ (parts : List (List ℕ)). ending ≡ Ok parts) (run_status refusal) Wrote
    → IsTrue (is_one_of (run_status refusal) (run_status other ∷ 6 ∷ 7 ∷ []))
untold_refuses ending (Problem fault) other Wrote untold is written = absurd (cc untold)
untold_refuses ending ProblemTooLong other Wrote untold is written = absurd (cc untold)
untold_refuses ending (Input refusal) other Wrote untold is written =
    let seen : is_one_of (status_of refusal) (6 ∷ 7 ∷ []) ≡ true = untold in
    subst (λ b. IsTrue ((run_status other == status_of refusal) || b)) (sym seen) (either (run_status other == status_of refusal))
untold_refuses ending Write other Wrote untold is written =
    let cut = written.cut_short refl in
    let no : Err other ≡ Ok cut.0 = sym is ∙ cut.1 in
    absurd (cc no)

same_status : (status : ℕ) → IsTrue (is_one_of status (status ∷ 6 ∷ 7 ∷ []))
same_status status = grind (arith, nat_tests)

answers_of : (ending : RunEnding) (ended : Result (Unit {0}) RunRefusal) (Wrote Tells : List ℕ → Type 0) (Stays : Type 0)
    → IsWritten (λ (parts : List (List ℕ)). ending ≡ Ok parts) (status_after ended) Wrote
    → IfErr ended (λ refusal. is_untold_run refusal ≡ false → ending ≡ Err refusal)
    → ToldAfter Tells Stays ended → Answers ending (status_after ended) Wrote Tells
answers_of ending (Ok _) Wrote Tells Stays written refused told = record {
  written = written;
  control_refused = λ at. absurd (omega arith);
  file_refused = λ at. absurd (omega arith);
  grids_refused = λ at. absurd (omega arith);
  absent = λ at. absurd (omega arith);
  writes = λ parts is. refl;
  refuses = λ refusal is. let whole = written.whole refl in let no : Err refusal ≡ Ok whole.0 = sym is ∙ whole.1 in absurd (cc no);
}
answers_of ending (Err refusal) Wrote Tells Stays written refused told = record {
  written = written;
  control_refused = λ at. (refusal, refused (told_status refusal 3 refl refl at), at, told.1);
  file_refused = λ at. (refusal, refused (told_status refusal 4 refl refl at), at, told.1);
  grids_refused = λ at. (refusal, refused (told_status refusal 5 refl refl at), at, told.1);
  absent = λ at. (refusal, refused (told_status refusal 9 refl refl at), at, told.1);
  writes = λ parts is. elim (by_bool (is_untold_run refusal)) [
    | inl untold ↦ untold_writes refusal untold
    | inr free ↦ let no : Ok parts ≡ Err refusal = sym is ∙ refused free in absurd (cc no)
  ];
  refuses = λ other is. elim (by_bool (is_untold_run refusal)) [
    | inl untold ↦ untold_refuses ending refusal other Wrote untold is written
    | inr free ↦
        let both : Err refusal ≡ Err other = sym (refused free) ∙ is in
        let same : refusal ≡ other = cc both in
        subst (λ r. IsTrue (is_one_of (run_status refusal) (run_status r ∷ 6 ∷ 7 ∷ []))) same (same_status (run_status refusal))
  ];
}

pub run_answers : (F : Option Files) (words : Option RunCommand) (command : RunCommand) (ended : Result (Unit {0}) RunRefusal) (status : ℕ)
    (Wrote Tells : List ℕ → Type 0) (Stays : Type 0) → words ≡ Some command → status ≡ status_after ended
    → IfSome F (λ files. IsWritten (λ (parts : List (List ℕ)). run_ending files command ≡ Ok parts) (status_after ended) Wrote)
    → IfSome F (λ files. IfErr ended (λ refusal. is_untold_run refusal ≡ false → run_ending files command ≡ Err refusal))
    → ToldAfter Tells Stays ended
    → IfSome F (λ files. IfSome words (λ c. Answers (run_ending files c) status Wrote Tells))
run_answers None words command ended status Wrote Tells Stays named is written refused told = tt
run_answers (Some files) words command ended status Wrote Tells Stays named is written refused told =
    subst (λ o. IfSome o (λ c. Answers (run_ending files c) status Wrote Tells)) (sym named)
    (subst (λ s. Answers (run_ending files command) s Wrote Tells) (sym is) (answers_of (run_ending files command) ended Wrote Tells Stays written refused told))

-- the refusals of a command, whose names are names
can_refuse : (command : RunCommand) (refusal : RunRefusal) → HasCause command refusal → IsTrue (is_named_run refusal) → CanRefuse command refusal
can_refuse (Solve name) (Problem fault) cause named = cause
can_refuse (Solve name) ProblemTooLong cause named = cause
can_refuse (Solve name) (Input refusal) cause named = cause
can_refuse (Solve name) Write cause named = cause
can_refuse (Locate name) (Problem fault) cause named = cause
can_refuse (Locate name) ProblemTooLong cause named = cause
can_refuse (Locate name) (Input refusal) cause named = (cause, named)
can_refuse (Locate name) Write cause named = cause
can_refuse (Demo seed side) (Problem fault) cause named = cause
can_refuse (Demo seed side) ProblemTooLong cause named = cause
can_refuse (Demo seed side) (Input refusal) cause named = cause
can_refuse (Demo seed side) Write cause named = cause

line_of_ended : (words : Option RunCommand) (command : RunCommand) (ended : Result (Unit {0}) RunRefusal) (Tells : List ℕ → Type 0) (Stays : Type 0)
    → words ≡ Some command → IfErr ended (HasCause command) → ToldAfter Tells Stays ended → TellsLine words (status_after ended) Tells Stays
line_of_ended words command (Ok _) Tells Stays named cause told = record {
  done = λ at. told;
  words = λ at. absurd (omega arith);
  refused = λ one. absurd (cc one);
}
line_of_ended words command (Err refusal) Tells Stays named cause told = record {
  done = λ at. absurd (no_run_status refusal 0 refl refl at);
  words = λ at. absurd (no_run_status refusal 2 refl refl at);
  refused = λ one. (command, named, (refusal, can_refuse command refusal cause told.0, refl, told.1));
}

pub run_line_is : (words : Option RunCommand) (command : RunCommand) (ended : Result (Unit {0}) RunRefusal) (status : ℕ) (Tells : List ℕ → Type 0) (Stays : Type 0)
    → words ≡ Some command → status ≡ status_after ended → IfErr ended (HasCause command) → ToldAfter Tells Stays ended → TellsLine words status Tells Stays
run_line_is words command ended status Tells Stays named is cause told =
    subst (λ s. TellsLine words s Tells Stays) (sym is) (line_of_ended words command ended Tells Stays named cause told)

-- a run that is done has the shortest covers
covers_of_ended : (files : Files) (command : RunCommand) (ended : Result (Unit {0}) RunRefusal) → OnOk ended (HasShortestCovers files command)
    → status_after ended ≡ 0 → HasShortestCovers files command
covers_of_ended files command (Ok _) covers at = covers
covers_of_ended files command (Err refusal) covers at = absurd (no_run_status refusal 0 refl refl at)

pub run_covers : (F : Option Files) (words : Option RunCommand) (command : RunCommand) (ended : Result (Unit {0}) RunRefusal) (status : ℕ)
    → words ≡ Some command → status ≡ status_after ended → IfSome F (λ files. OnOk ended (HasShortestCovers files command))
    → IfSome F (λ files. IfSome words (λ c. status ≡ 0 → HasShortestCovers files c))
run_covers None words command ended status named is covers = tt
run_covers (Some files) words command ended status named is covers =
    subst (λ o. IfSome o (λ c. status ≡ 0 → HasShortestCovers files c)) (sym named)
    (λ at. covers_of_ended files command ended covers (sym is ∙ at))
