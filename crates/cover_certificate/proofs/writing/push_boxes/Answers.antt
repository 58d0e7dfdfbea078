use Rattle.cover_certificate.proofs.KeepingLaws.{keeps_more}
use Rattle.cover_certificate.proofs.writing.push_boxes.Goals as goal

pub returns-in_err-push_box-clause-kept : goal.returns-in_err-push_box-clause-kept
returns-in_err-push_box-clause-kept c =
    keeps_more c.args.out.now.items _ c.loop-item.out.items c.push_box.new.out.items c.loop-item.invariant.appended c.push_box.ensures.kept
