-- What the parts of a run answer.
use Rattle.std.specs.Prelude.{◌≡◌, ℕ, ◌≤◌, Bool, false, IsTrue, List, length, map, Option, Some, Result, Ok, Err}
use Rattle.std.specs.Global.{Vec}
use Rattle.cover_certificate.specs.declared.block.Block.{Block}
use Rattle.cover_certificate.specs.Blocks.{block_value}
use Rattle.run_input.specs.Inputs.{InputValues}
use Rattle.run_input.specs.Told.{IsCutShort}
use Rattle.check_top.specs.declared.refusals.CheckRefusal.{CheckRefusal}
use Rattle.check_top.specs.CheckEndings.{report_ending, values_of}
use Rattle.check_top.specs.CheckRefusals.{check_refusal_line, is_named_check, is_untold_check, refusal_status}

-- the bytes are those of a report within its limit, or the file ends the run so, whatever the input is
abbrev pub IsReportBytes : List ℕ → Option (List ℕ) → Result (Vec ℕ) CheckRefusal → Type 0
IsReportBytes name file (Ok bytes) = (file ≡ Some bytes.items) × (length bytes.items ≤ 268435456)
IsReportBytes name file (Err refusal) =
    is_untold_check refusal ≡ false → (input : InputValues) → report_ending input name file ≡ Err refusal

-- the blocks are those of the report, or the report ends the run so
abbrev pub AreReportBlocks : InputValues → List ℕ → Option (List ℕ) → Result (Vec Block) CheckRefusal → Type 0
AreReportBlocks input name file (Ok blocks) = report_ending input name file ≡ Ok (values_of input (map block_value blocks.items))
AreReportBlocks input name file (Err refusal) = is_untold_check refusal ≡ false → report_ending input name file ≡ Err refusal

-- the status of a stage of reading
abbrev pub status_after_read : {T : Type 0} → Result T CheckRefusal → ℕ
status_after_read (Ok _) = 0
status_after_read (Err refusal) = refusal_status refusal

-- a text was written, or a proper front of it
abbrev pub WritingEnds : List ℕ → Result (Unit {0}) CheckRefusal → (List ℕ → Type 0) → Type 0
WritingEnds text (Ok _) Wrote = Wrote text
WritingEnds text (Err _) Wrote = IsCutShort Wrote text

-- a refusal is told by its line, which shows that its name is one; and otherwise this holds
abbrev pub ToldAfter : (List ℕ → Type 0) → Type 0 → Result Bool CheckRefusal → Type 0
ToldAfter Tells Stays (Ok _) = Stays
ToldAfter Tells Stays (Err refusal) = IsTrue (is_named_check refusal) × Tells (check_refusal_line refusal)
