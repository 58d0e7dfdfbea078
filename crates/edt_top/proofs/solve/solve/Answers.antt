use Rattle.std.proofs.Common.{◌≡◌, Err, false, ◌∙◌, ap, subst}
use Rattle.text_terms.specs.Words.{file_words}
use Rattle.edt_outside.specs.Sinks.{Appends}
use Rattle.edt_top.specs.declared.refusals.RunRefusal.TheVariants.{Problem}
use Rattle.edt_top.specs.RunEndings.{solve_ending}
use Rattle.edt_top.specs.RunRefusals.{is_untold_run}
use Rattle.edt_top.specs.Inside.ProblemCursor.{Names}
use Rattle.edt_top.specs.Solve.ProblemFile.{IsProblemFile}
use Rattle.edt_top.specs.Solve.Text.{solve_text}
use Rattle.edt_top.proofs.SolveLaws.EndingSteps.{faulty_ending, text_written, text_cut}
use Rattle.edt_top.proofs.StatusLaws.{told_more}
use Rattle.edt_top.proofs.solve.solve.Goals as goal

pub returns-in-Err-Faulty-clause-refused : goal.returns-in-Err-Faulty-clause-refused
returns-in-Err-Faulty-clause-refused g c =
    let name = c.args.name.now in
    let refusal = Problem c.in-Err-Faulty.fault in
    let names = rw c.in-Err-Faulty.field-0-is at c.in-Err-Faulty.ensures.fault in
    told_more (λ files. solve_ending name (files name) ≡ Err refusal) (λ files. is_untold_run refusal ≡ false → solve_ending name (files name) ≡ Err refusal) (g.S.Shelf.files c.args.shelf.now)
    (λ files is free. is)
    (faulty_ending (g.S.Shelf.files c.args.shelf.now) name c.in_ok-bytes.bytes.items c.in-Err-Faulty.fault c.in_ok-bytes.ensures.told (subst (λ b. Names (file_words b) c.in-Err-Faulty.fault) c.deref.ensures.value names))

pub returns-in-Ok-put_part-clause-written : goal.returns-in-Ok-put_part-clause-written
returns-in-Ok-put_part-clause-written g c =
    let same = c.deref.ensures.value in
    text_written (g.S.Shelf.files c.args.shelf.now) c.args.name.now c.in_ok-bytes.bytes.items c.as_bytes.result.now (Appends (g.O.Sink.taken c.args.out.now) (g.O.Sink.taken c.put_part.new.out)) c.in_ok-bytes.ensures.told
    (subst (λ b. IsProblemFile (file_words b)) same c.in-Ok.ensures.whole)
    (c.as_bytes.ensures.value ∙ (c.in-Ok.ensures.text ∙ ap (λ b. solve_text (file_words b)) same)) c.in-Ok-put_part.ensures.told

pub returns-clause-written : goal.returns-clause-written
returns-clause-written g c =
    let same = c.deref.ensures.value in
    let kind = c.in-Err.ensures.kinds in
    text_cut (g.S.Shelf.files c.args.shelf.now) c.args.name.now c.in_ok-bytes.bytes.items c.as_bytes.result.now (Appends (g.O.Sink.taken c.args.out.now) (g.O.Sink.taken c.put_part.new.out)) c.in_ok-bytes.ensures.told
    (subst (λ b. IsProblemFile (file_words b)) same c.in-Ok.ensures.whole)
    (c.as_bytes.ensures.value ∙ (c.in-Ok.ensures.text ∙ ap (λ b. solve_text (file_words b)) same)) (rw kind at c.in-Err.ensures.told)
