-- What the status of a run says of its text and its line, and which statuses a run can have.
use Rattle.std.specs.Prelude.{◌≡◌, ℕ, List, [], ◌∷◌, IsTrue, Ok, Err}
use Rattle.cover_certificate.specs.Blocks.{BlockValue}
use Rattle.run_input.specs.Inputs.{InputValues}
use Rattle.run_input.specs.Lines.{words_line}
use Rattle.run_input.specs.Statuses.{is_one_of}
use Rattle.run_input.specs.Told.{IsCutShort}
use Rattle.check_top.specs.declared.refusals.CheckRefusal.{CheckRefusal}
use Rattle.check_top.specs.CheckEndings.{AreTrue, CheckEnding, CheckValues, check_text, some_refused, values_of}
use Rattle.check_top.specs.CheckRefusals.{check_refusal_line, done_status, is_check_cause, is_named_check, program, refusal_status}

-- what was written of the lines of answers: all of them, with the status that says whether a certificate is refused, or a proper front
-- of them where a write failed
pub record IsWritten (AreAnswers : CheckValues → Type 0) (status : ℕ) (Wrote : List ℕ → Type 0) : Type 0 where
  pub whole : IsTrue (is_one_of status (0 ∷ 1 ∷ []))
      → (values : CheckValues) × AreAnswers values × (done_status (some_refused values) ≡ status) × Wrote (check_text values)
  pub cut_short : status ≡ 8 → (values : CheckValues) × AreAnswers values × IsCutShort Wrote (check_text values)

-- the ending is a refusal of this status, and its line has this
abbrev pub Refuses : CheckEnding → ℕ → (List ℕ → Type 0) → Type 0
Refuses ending status Tells =
    (refusal : CheckRefusal) × (ending ≡ Err refusal) × (refusal_status refusal ≡ status) × Tells (check_refusal_line refusal)

-- what each status says, by the ending that the files tell, and the statuses that a run with an ending can have
pub record Answers (ending : CheckEnding) (status : ℕ) (Wrote Tells : List ℕ → Type 0) : Type 0 where
  pub written : IsWritten (λ values. ending ≡ Ok values) status Wrote
  pub control_refused : status ≡ 3 → Refuses ending 3 Tells
  pub phases_refused : status ≡ 4 → Refuses ending 4 Tells
  pub grids_refused : status ≡ 5 → Refuses ending 5 Tells
  pub absent : status ≡ 9 → Refuses ending 9 Tells
  pub report_refused : status ≡ 10 → Refuses ending 10 Tells
  pub writes : (values : CheckValues) → ending ≡ Ok values
      → IsTrue (is_one_of status (done_status (some_refused values) ∷ 6 ∷ 7 ∷ 8 ∷ []))
  pub refuses : (refusal : CheckRefusal) → ending ≡ Err refusal
      → IsTrue (is_one_of status (refusal_status refusal ∷ 6 ∷ 7 ∷ []))

-- on every shelf: the answers are those of some input and some blocks, and what they say of its events is true
abbrev pub AreSound : CheckValues → Type 0
AreSound values = (input : InputValues) × (blocks : List BlockValue) × (values ≡ values_of input blocks) × AreTrue input values

-- on every shelf: the line is that of a refusal of this status which a run can have
abbrev pub TellsRefusal : ℕ → (List ℕ → Type 0) → Type 0
TellsRefusal status Tells =
    (refusal : CheckRefusal)
    × IsTrue (is_check_cause refusal)
    × IsTrue (is_named_check refusal)
    × (refusal_status refusal ≡ status)
    × Tells (check_refusal_line refusal)

-- the line of each status, on every shelf: none where the run is done, that of words without a shape, or that of a refusal
pub record TellsLine (status : ℕ) (Tells : List ℕ → Type 0) (Stays : Type 0) : Type 0 where
  pub done : IsTrue (is_one_of status (0 ∷ 1 ∷ [])) → Stays
  pub words : status ≡ 2 → Tells (words_line program)
  pub refused : IsTrue (is_one_of status (3 ∷ 4 ∷ 5 ∷ 6 ∷ 7 ∷ 8 ∷ 9 ∷ 10 ∷ [])) → TellsRefusal status Tells
