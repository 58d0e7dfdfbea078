use Rattle.check_top.proofs.telling.tell_check_refusal.Goals as goal

pub returns-in-ReportTooLong-clause-told : goal.returns-in-ReportTooLong-clause-told
returns-in-ReportTooLong-clause-told g c = rw c.in-ReportTooLong.is c.put_pieces.ensures.told

pub returns-in-Write-clause-told : goal.returns-in-Write-clause-told
returns-in-Write-clause-told g c = rw c.in-Write.is c.put_pieces-in-Write.ensures.told
