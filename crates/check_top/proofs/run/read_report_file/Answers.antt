use Rattle.std.proofs.Common.{◌∙◌}
use Rattle.check_top.proofs.EndingSteps.{report_absent, report_long}
use Rattle.check_top.proofs.run.read_report_file.Goals as goal

pub returns-in-Err-Absent-clause-told : goal.returns-in-Err-Absent-clause-told
returns-in-Err-Absent-clause-told g c =
    report_absent (g.S.Shelf.files c.args.shelf.now) c.args.name.now c.as_str.result.now c.in_ok-name.name c.in_ok-name.ensures (c.as_str.ensures.text ∙ c.in_ok-name.ensures)
    (rw c.in-Err-Absent.field-0-is at c.in-Err-Absent.ensures.told)

pub returns-in-Err-TooLong-clause-told : goal.returns-in-Err-TooLong-clause-told
returns-in-Err-TooLong-clause-told g c =
    report_long (g.S.Shelf.files c.args.shelf.now) c.args.name.now c.as_str.result.now (c.as_str.ensures.text ∙ c.in_ok-name.ensures) (rw c.in-Err-TooLong.field-0-is at c.in-Err-TooLong.ensures.told)
