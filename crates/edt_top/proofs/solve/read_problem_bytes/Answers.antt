use Rattle.std.proofs.Common.{◌≡◌, Err, false}
use Rattle.run_input.specs.declared.refusals.Refusal.TheVariants.{Absent}
use Rattle.edt_top.specs.declared.refusals.RunRefusal.TheVariants.{ProblemTooLong, Input}
use Rattle.edt_top.specs.RunEndings.{solve_ending}
use Rattle.edt_top.specs.RunRefusals.{is_untold_run}
use Rattle.edt_top.proofs.SolveLaws.EndingSteps.{absent_ending, long_ending}
use Rattle.edt_top.proofs.StatusLaws.{told_more}
use Rattle.edt_top.proofs.solve.read_problem_bytes.Goals as goal

pub returns-in-Err-Absent-clause-told : goal.returns-in-Err-Absent-clause-told
returns-in-Err-Absent-clause-told g c =
    let name = c.args.name.now in
    let refusal = Input (Absent c.in-Ok.file) in
    let told = rw c.in-Err-Absent.field-0-is at c.in-Err-Absent.ensures.told in
    told_more (λ files. solve_ending name (files name) ≡ Err refusal) (λ files. is_untold_run refusal ≡ false → solve_ending name (files name) ≡ Err refusal) (g.S.Shelf.files c.args.shelf.now)
    (λ files is free. is) (absent_ending (g.S.Shelf.files c.args.shelf.now) name c.in-Ok.file c.in-Ok.ensures told)

pub returns-in-Err-TooLong-clause-told : goal.returns-in-Err-TooLong-clause-told
returns-in-Err-TooLong-clause-told g c =
    let name = c.args.name.now in
    let told = rw c.in-Err-TooLong.field-0-is at c.in-Err-TooLong.ensures.told in
    told_more (λ files. solve_ending name (files name) ≡ Err ProblemTooLong) (λ files. is_untold_run ProblemTooLong ≡ false → solve_ending name (files name) ≡ Err ProblemTooLong) (g.S.Shelf.files c.args.shelf.now)
    (λ files is free. is) (long_ending (g.S.Shelf.files c.args.shelf.now) name told)
