use Rattle.cover_certificate.proofs.KeepingLaws.{keeps_more}
use Rattle.cover_certificate.proofs.writing.push_entries.Goals as goal

pub returns-in_err-push_numbers-clause-kept : goal.returns-in_err-push_numbers-clause-kept
returns-in_err-push_numbers-clause-kept c =
    keeps_more c.args.out.now.items _ c.loop-entry.out.items c.push_numbers.new.out.items c.loop-entry.invariant.appended c.push_numbers.ensures.kept
