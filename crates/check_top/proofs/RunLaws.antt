-- What the status of a run says, by how the run ended.
use Rattle.std.proofs.Common.{◌≡◌, ℕ, ◌==◌, ◌||◌, Bool, true, false, List, [], ◌∷◌, Option, Some, None, IfSome, IfErr, Result, Ok, Err, inl, inr, refl, sym, ◌∙◌, subst, arith, ap}
use Rattle.std.specs.Prelude.{IsTrue}
use Rattle.std.proofs.lemmas.Bool.Decides.{nat_tests}
use Rattle.text_terms.proofs.Cases.{by_bool}
use Rattle.edt_outside.specs.Shelves.{Files}
use Rattle.run_input.specs.declared.refusals.Refusal.TheVariants.{Control, ControlTooLong, Phases, PhasesTooLong, Header, HeaderLong, Body, Align, Cells, Absent, Read, Memory}
use Rattle.run_input.specs.Refusals.{status_of}
use Rattle.run_input.specs.Statuses.{is_one_of}
use Rattle.check_top.specs.declared.refusals.CheckRefusal.{CheckRefusal}
use Rattle.check_top.specs.declared.refusals.CheckRefusal.TheVariants.{Input, Report, ReportTooLong, Write}
use Rattle.check_top.specs.Commands.{CheckCommand}
use Rattle.check_top.specs.CheckEndings.{CheckEnding, CheckValues, check_ending, some_refused}
use Rattle.check_top.specs.CheckRefusals.{done_status, is_check_cause, is_untold_check, refusal_status, status_after}
use Rattle.check_top.specs.CheckRuns.{Answers, IsWritten, TellsLine}
use Rattle.check_top.specs.Inside.Endings.{ToldAfter}

-- the statuses that a refusal can have
refused_status : (refusal : CheckRefusal) → IsTrue (is_one_of (refusal_status refusal) (3 ∷ 4 ∷ 5 ∷ 6 ∷ 7 ∷ 8 ∷ 9 ∷ 10 ∷ []))
refused_status (Input (Control fault)) = refl
refused_status (Input (ControlTooLong file)) = refl
refused_status (Input (Phases fault)) = refl
refused_status (Input PhasesTooLong) = refl
refused_status (Input (Header name cause)) = refl
refused_status (Input (HeaderLong name)) = refl
refused_status (Input (Body name cause)) = refl
refused_status (Input (Align name axis)) = refl
refused_status (Input Cells) = refl
refused_status (Input Memory) = refl
refused_status (Input (Read name)) = refl
refused_status (Input (Absent name)) = refl
refused_status (Report fault) = refl
refused_status ReportTooLong = refl
refused_status Write = refl

-- a refusal is none of a run that is done, and none of words without a shape
pub no_done : (refusal : CheckRefusal) → IsTrue (is_one_of (refusal_status refusal) (0 ∷ 1 ∷ [])) → ⊥
no_done (Input (Control fault)) one = cc one
no_done (Input (ControlTooLong file)) one = cc one
no_done (Input (Phases fault)) one = cc one
no_done (Input PhasesTooLong) one = cc one
no_done (Input (Header name cause)) one = cc one
no_done (Input (HeaderLong name)) one = cc one
no_done (Input (Body name cause)) one = cc one
no_done (Input (Align name axis)) one = cc one
no_done (Input Cells) one = cc one
no_done (Input Memory) one = cc one
no_done (Input (Read name)) one = cc one
no_done (Input (Absent name)) one = cc one
no_done (Report fault) one = cc one
no_done ReportTooLong one = cc one
no_done Write one = cc one

no_words : (refusal : CheckRefusal) → refusal_status refusal ≡ 2 → ⊥
no_words refusal is = let one = subst (λ s. IsTrue (is_one_of s (3 ∷ 4 ∷ 5 ∷ 6 ∷ 7 ∷ 8 ∷ 9 ∷ 10 ∷ []))) is (refused_status refusal) in cc one

-- a refusal of a status that files tell is told by them
told_status : (refusal : CheckRefusal) (status : ℕ) → is_one_of status (6 ∷ 7 ∷ []) ≡ false → (8 == status) ≡ false → refusal_status refusal ≡ status
    → is_untold_check refusal ≡ false
told_status (Input refusal) status input write at = subst (λ s. is_one_of s (6 ∷ 7 ∷ []) ≡ false) (sym at) input
told_status (Report fault) status input write at = refl
told_status ReportTooLong status input write at = refl
told_status Write status input write at = let no : (8 == 8) ≡ false = subst (λ s. (8 == s) ≡ false) (sym at) write in absurd (cc no)

-- the statuses of a run that is done
pub done_one : (b : Bool) → IsTrue (is_one_of (done_status b) (0 ∷ 1 ∷ []))
done_one false = refl
done_one true = refl

either : (b : Bool) → IsTrue (b || true)
either true = refl
either false = refl

-- a refusal that the files don't tell stands beside lines
untold_writes : (refusal : CheckRefusal) (done : ℕ) → is_untold_check refusal ≡ true → IsTrue (is_one_of (refusal_status refusal) (done ∷ 6 ∷ 7 ∷ 8 ∷ []))
untold_writes (Input refusal) done untold = grind (arith, nat_tests)
untold_writes (Report fault) done untold = absurd (cc untold)
untold_writes ReportTooLong done untold = absurd (cc untold)
untold_writes Write done untold = either (done == 8)

-- and, but for a failed write, beside a refusal
untold_refuses : (ending : CheckEnding) (refusal other : CheckRefusal) (Wrote : List ℕ → Type 0) → is_untold_check refusal ≡ true → ending ≡ Err other
    → IsWritten (λ (values : CheckValues). ending ≡ Ok values) (refusal_status refusal) Wrote
    → IsTrue (is_one_of (refusal_status refusal) (refusal_status other ∷ 6 ∷ 7 ∷ []))
untold_refuses ending (Input refusal) other Wrote untold is written =
    let seen : is_one_of (status_of refusal) (6 ∷ 7 ∷ []) ≡ true = untold in
    subst (λ b. IsTrue ((refusal_status other == status_of refusal) || b)) (sym seen) (either (refusal_status other == status_of refusal))
untold_refuses ending (Report fault) other Wrote untold is written = absurd (cc untold)
untold_refuses ending ReportTooLong other Wrote untold is written = absurd (cc untold)
untold_refuses ending Write other Wrote untold is written =
    let cut = written.cut_short refl in
    let no : Err other ≡ Ok cut.0 = sym is ∙ cut.1 in
    absurd (cc no)

same_status : (status : ℕ) → IsTrue (is_one_of status (status ∷ 6 ∷ 7 ∷ []))
same_status status = grind (arith, nat_tests)

done_writes : (b : Bool) (status : ℕ) → status ≡ done_status b → IsTrue (is_one_of (done_status b) (status ∷ 6 ∷ 7 ∷ 8 ∷ []))
done_writes b status is = grind (arith, nat_tests)

answers_of : (ending : CheckEnding) (ended : Result Bool CheckRefusal) (Wrote Tells : List ℕ → Type 0) (Stays : Type 0)
    → IsWritten (λ (values : CheckValues). ending ≡ Ok values) (status_after ended) Wrote
    → IfErr ended (λ refusal. is_untold_check refusal ≡ false → ending ≡ Err refusal)
    → ToldAfter Tells Stays ended → Answers ending (status_after ended) Wrote Tells
answers_of ending (Ok refused) Wrote Tells Stays written none told =
    let whole = written.whole (done_one refused) in
    let few : (s : ℕ) → done_status refused ≡ s → IsTrue (is_one_of s (0 ∷ 1 ∷ [])) = λ s at. subst (λ n. IsTrue (is_one_of n (0 ∷ 1 ∷ []))) at (done_one refused) in
    record {
      written = written;
      control_refused = λ at. absurd (let no = few 3 at in cc no);
      phases_refused = λ at. absurd (let no = few 4 at in cc no);
      grids_refused = λ at. absurd (let no = few 5 at in cc no);
      absent = λ at. absurd (let no = few 9 at in cc no);
      report_refused = λ at. absurd (let no = few 10 at in cc no);
      writes = λ values is.
          let both : Ok whole.0 ≡ Ok values = sym whole.1 ∙ is in
          let same : whole.0 ≡ values = cc both in
          done_writes refused (done_status (some_refused values)) (ap (λ (v : CheckValues). done_status (some_refused v)) (sym same) ∙ whole.2);
      refuses = λ refusal is. let no : Err refusal ≡ Ok whole.0 = sym is ∙ whole.1 in absurd (cc no);
    }
answers_of ending (Err refusal) Wrote Tells Stays written refused told = record {
  written = written;
  control_refused = λ at. (refusal, refused (told_status refusal 3 refl refl at), at, told.1);
  phases_refused = λ at. (refusal, refused (told_status refusal 4 refl refl at), at, told.1);
  grids_refused = λ at. (refusal, refused (told_status refusal 5 refl refl at), at, told.1);
  absent = λ at. (refusal, refused (told_status refusal 9 refl refl at), at, told.1);
  report_refused = λ at. (refusal, refused (told_status refusal 10 refl refl at), at, told.1);
  writes = λ values is. elim (by_bool (is_untold_check refusal)) [
    | inl untold ↦ untold_writes refusal (done_status (some_refused values)) untold
    | inr free ↦ let no : Ok values ≡ Err refusal = sym is ∙ refused free in absurd (cc no)
  ];
  refuses = λ other is. elim (by_bool (is_untold_check refusal)) [
    | inl untold ↦ untold_refuses ending refusal other Wrote untold is written
    | inr free ↦
        let both : Err refusal ≡ Err other = sym (refused free) ∙ is in
        let same : refusal ≡ other = cc both in
        subst (λ r. IsTrue (is_one_of (refusal_status refusal) (refusal_status r ∷ 6 ∷ 7 ∷ []))) same (same_status (refusal_status refusal))
  ];
}

pub run_answers : (F : Option Files) (words : Option CheckCommand) (command : CheckCommand) (ended : Result Bool CheckRefusal) (status : ℕ)
    (Wrote Tells : List ℕ → Type 0) (Stays : Type 0) → words ≡ Some command → status ≡ status_after ended
    → IfSome F (λ files. IsWritten (λ (values : CheckValues). check_ending files command ≡ Ok values) (status_after ended) Wrote)
    → IfSome F (λ files. IfErr ended (λ refusal. is_untold_check refusal ≡ false → check_ending files command ≡ Err refusal))
    → ToldAfter Tells Stays ended
    → IfSome F (λ files. IfSome words (λ c. Answers (check_ending files c) status Wrote Tells))
run_answers None words command ended status Wrote Tells Stays named is written refused told = tt
run_answers (Some files) words command ended status Wrote Tells Stays named is written refused told =
    subst (λ o. IfSome o (λ c. Answers (check_ending files c) status Wrote Tells)) (sym named)
    (subst (λ s. Answers (check_ending files command) s Wrote Tells) (sym is) (answers_of (check_ending files command) ended Wrote Tells Stays written refused told))

line_of_ended : (ended : Result Bool CheckRefusal) (Tells : List ℕ → Type 0) (Stays : Type 0)
    → IfErr ended (λ refusal. IsTrue (is_check_cause refusal)) → ToldAfter Tells Stays ended → TellsLine (status_after ended) Tells Stays
line_of_ended (Ok false) Tells Stays cause told = record {
  done = λ one. told;
  words = λ at. absurd (omega arith);
  refused = λ one. absurd (cc one);
}
line_of_ended (Ok true) Tells Stays cause told = record {
  done = λ one. told;
  words = λ at. absurd (omega arith);
  refused = λ one. absurd (cc one);
}
line_of_ended (Err refusal) Tells Stays cause told = record {
  done = λ one. absurd (no_done refusal one);
  words = λ at. absurd (no_words refusal at);
  refused = λ one. (refusal, cause, told.0, refl, told.1);
}

pub run_line_is : (ended : Result Bool CheckRefusal) (status : ℕ) (Tells : List ℕ → Type 0) (Stays : Type 0) → status ≡ status_after ended
    → IfErr ended (λ refusal. IsTrue (is_check_cause refusal)) → ToldAfter Tells Stays ended → TellsLine status Tells Stays
run_line_is ended status Tells Stays is cause told = subst (λ s. TellsLine s Tells Stays) (sym is) (line_of_ended ended Tells Stays cause told)
