-- A draft that follows the lines before.
use Rattle.std.specs.Prelude.{◌≡◌, List, length}
use Rattle.text_terms.specs.Faults.{NoFaultBelow}
use Rattle.control_reader.specs.declared.draft.ControlDraft.{ControlDraft}
use Rattle.control_reader.specs.ControlLines.{ControlLine}
use Rattle.control_reader.specs.ControlFile.{fault_at}
use Rattle.control_reader.specs.Inside.Said.{said_of, said_in}

-- the draft holds what the lines before say, and none of them has a fault
pub record Follows (before : List ControlLine) (draft : ControlDraft) : Type 0 where
  pub said : said_of draft ≡ said_in before
  pub clean : NoFaultBelow (fault_at before) (length before)
