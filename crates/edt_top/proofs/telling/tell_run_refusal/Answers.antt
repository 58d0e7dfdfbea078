use Rattle.edt_top.proofs.telling.tell_run_refusal.Goals as goal

pub returns-in-ProblemTooLong-clause-told : goal.returns-in-ProblemTooLong-clause-told
returns-in-ProblemTooLong-clause-told g c = rw c.in-ProblemTooLong.is c.put_pieces.ensures.told

pub returns-in-Write-clause-told : goal.returns-in-Write-clause-told
returns-in-Write-clause-told g c = rw c.in-Write.is c.put_pieces-in-Write.ensures.told
