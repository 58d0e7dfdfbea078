-- The reading of a problem file, word after word.
use Rattle.std.specs.Prelude.{ℕ, ◌-◌, ◌≤◌, length}
use Rattle.text_terms.specs.Faults.{NoFaultBelow}
use Rattle.edt_top.specs.Solve.ProblemFile.{Words, fault_at, IsFirstFaultyWord}
use Rattle.edt_top.specs.declared.solve.problem_cursor.ProblemFault.{ProblemFault}

-- the words of a file, and the place of the next one to read
pub record Reading : Type 0 where
  pub words : Words
  pub place : ℕ

-- the words before the place are there, and none of them is faulty
pub record IsSound (r : Reading) : Type 0 where
  pub within : r.place ≤ length r.words
  pub sound : NoFaultBelow (fault_at r.words) r.place

-- the fault names the first faulty word, counted from 1
pub record Names (words : Words) (fault : ProblemFault) : Type 0 where
  pub counted : 1 ≤ fault.word
  pub first : IsFirstFaultyWord words (fault.word - 1) fault.cause
