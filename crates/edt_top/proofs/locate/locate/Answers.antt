use Rattle.std.proofs.Common.{◌≡◌, ℕ, List, Ok, false, true, refl, sym, ◌∙◌}
use Rattle.std.proofs.lemmas.Result.{err_from_is_err_and}
use Rattle.edt_outside.specs.Sinks.{Appends}
use Rattle.run_input.specs.Inputs.{input_of, input_value}
use Rattle.edt_top.specs.Locate.Text.{locate_parts}
use Rattle.edt_top.specs.RunEndings.{locate_ending}
use Rattle.edt_top.specs.Runs.{IsLocateText}
use Rattle.edt_top.proofs.LocateLaws.InputSteps.{input_covers, input_refused, input_written, input_cut}
use Rattle.edt_top.proofs.StatusLaws.{told_all, refused_written, all_written, fault_written, write_untold}
use Rattle.edt_top.proofs.locate.locate.Goals as goal

pub returns-in_err-input-clause-written : goal.returns-in_err-input-clause-written
returns-in_err-input-clause-written g c =
    let out = err_from_is_err_and c.from_residual.result c.from_residual.ensures.1 in
    rw (out.1, out.2) (
    told_all _ (g.S.Shelf.files c.args.shelf.now)
    (λ files. refused_written (λ (parts : List (List ℕ)). locate_ending (input_of files c.args.name.now) ≡ Ok parts) c.in_err-input.field-0.0 (g.O.Sink.taken c.args.out.now) (g.O.Sink.taken c.args.out.now) refl))

pub returns-in_err-input-clause-refused : goal.returns-in_err-input-clause-refused
returns-in_err-input-clause-refused g c =
    let out = err_from_is_err_and c.from_residual.result c.from_residual.ensures.1 in
    rw (out.1, out.2) (input_refused (g.S.Shelf.files c.args.shelf.now) c.args.name.now c.in_err-input.field-0.0 c.in_err-input.ensures.told)

pub returns-in_err-input-clause-parts : goal.returns-in_err-input-clause-parts
returns-in_err-input-clause-parts g c =
    let out = err_from_is_err_and c.from_residual.result c.from_residual.ensures.1 in
    rw (out.1, out.2) (refused_written IsLocateText c.in_err-input.field-0.0 (g.O.Sink.taken c.args.out.now) (g.O.Sink.taken c.args.out.now) refl)

pub returns-in_err-write_text-clause-written : goal.returns-in_err-write_text-clause-written
returns-in_err-write_text-clause-written g c =
    let out = err_from_is_err_and c.from_residual-in_err-write_text.result c.from_residual-in_err-write_text.ensures.1 in
    rw (out.1, out.2) (
    input_cut (g.S.Shelf.files c.args.shelf.now) c.args.name.now c.in_ok-input.input c.in_err-write_text.field-0.0 (Appends (g.O.Sink.taken c.args.out.now) (g.O.Sink.taken c.write_text.new.out))
    c.in_ok-input.ensures.told c.in_err-write_text.ensures.told)

pub returns-in_err-write_text-clause-refused : goal.returns-in_err-write_text-clause-refused
returns-in_err-write_text-clause-refused g c =
    let out = err_from_is_err_and c.from_residual-in_err-write_text.result c.from_residual-in_err-write_text.ensures.1 in
    rw (out.1, out.2) (
    told_all _ (g.S.Shelf.files c.args.shelf.now) (λ files free. let no : true ≡ false = sym (write_untold c.in_err-write_text.field-0.0) ∙ free in absurd (cc no)))

pub returns-in_err-write_text-clause-parts : goal.returns-in_err-write_text-clause-parts
returns-in_err-write_text-clause-parts g c =
    let out = err_from_is_err_and c.from_residual-in_err-write_text.result c.from_residual-in_err-write_text.ensures.1 in
    rw (out.1, out.2) (
    fault_written IsLocateText (locate_parts (input_value c.in_ok-input.input)) c.in_err-write_text.field-0.0 (Appends (g.O.Sink.taken c.args.out.now) (g.O.Sink.taken c.write_text.new.out))
    (input_value c.in_ok-input.input, refl, c.in_err-write_text.ensures.covers) c.in_err-write_text.ensures.told)

pub returns-clause-written : goal.returns-clause-written
returns-clause-written g c =
    input_written (g.S.Shelf.files c.args.shelf.now) c.args.name.now c.in_ok-input.input (Appends (g.O.Sink.taken c.args.out.now) (g.O.Sink.taken c.write_text.new.out))
    c.in_ok-input.ensures.told c.in_ok-write_text.ensures.told

pub returns-clause-parts : goal.returns-clause-parts
returns-clause-parts g c =
    all_written IsLocateText (locate_parts (input_value c.in_ok-input.input)) (Appends (g.O.Sink.taken c.args.out.now) (g.O.Sink.taken c.write_text.new.out))
    (input_value c.in_ok-input.input, refl, c.in_ok-write_text.ensures.covers) c.in_ok-write_text.ensures.told

pub returns-clause-covers : goal.returns-clause-covers
returns-clause-covers g c =
    input_covers (g.S.Shelf.files c.args.shelf.now) c.args.name.now c.in_ok-input.input c.in_ok-input.ensures.told c.in_ok-write_text.ensures.covers
