use Rattle.std.proofs.Common.{◌≡◌, ◌<◌, ◌^◌, List, map, Ok, Err, refl, ◌∙◌, subst, rules}
use Rattle.std.proofs.lemmas.Result.{err_from_is_err_and}
use Rattle.edt_outside.specs.Sinks.{Appends}
use Rattle.cover_certificate.specs.declared.block.Block.{Block}
use Rattle.cover_certificate.specs.Blocks.{block_value}
use Rattle.run_input.specs.Inputs.{input_value}
use Rattle.check_top.specs.CheckEndings.{check_ending, check_text, values_of}
use Rattle.check_top.specs.CheckRefusals.{refusal_status}
use Rattle.check_top.specs.CheckRuns.{AreSound}
use Rattle.check_top.specs.Commands.{command_value}
use Rattle.check_top.specs.Inside.Checks.{IsCheckOf}
use Rattle.check_top.proofs.EndingSteps.{input_refused, report_refused, ends_so, ends_true, are_true, refused_told, not_8, not_3_4, all_written, cut_written, all_told, cut_told, told_lacks_more}
use Rattle.check_top.proofs.OwnRuns.{own_always, own_ended, own_refused, none_told}
use Rattle.check_top.proofs.run.run.Goals as goal

pub returns-in_err-input-clause-refused : goal.returns-in_err-input-clause-refused
returns-in_err-input-clause-refused g c =
    let out = err_from_is_err_and c.from_residual.result c.from_residual.ensures.1 in
    rw (out.1, out.2) (input_refused (g.S.Shelf.files c.args.shelf.now) (command_value c.args.command.now) c.in_err-input.field-0.0 c.in_err-input.ensures.told)

pub returns-in_err-certificates-clause-written : goal.returns-in_err-certificates-clause-written
returns-in_err-certificates-clause-written g c =
    let out = err_from_is_err_and c.from_residual-in_err-certificates.result c.from_residual-in_err-certificates.ensures.1 in
    rw (out.1, out.2) (
    refused_told (g.S.Shelf.files c.args.shelf.now) (λ files values. check_ending files (command_value c.args.command.now) ≡ Ok values) c.in_err-certificates.field-0.0
    (Appends (g.O.Sink.taken c.args.out.now) (g.O.Sink.taken c.args.out.now)) (not_8 (refusal_status c.in_err-certificates.field-0.0) c.in_err-certificates.ensures.kinds))

pub returns-in_err-certificates-clause-refused : goal.returns-in_err-certificates-clause-refused
returns-in_err-certificates-clause-refused g c =
    let out = err_from_is_err_and c.from_residual-in_err-certificates.result c.from_residual-in_err-certificates.ensures.1 in
    rw (out.1, out.2) (
    report_refused (g.S.Shelf.files c.args.shelf.now) (g.S.Shelf.files c.read_run.new.shelf) (command_value c.args.command.now) c.in_ok-input.input c.in_err-certificates.field-0.0
    c.in_ok-input.ensures.same_files c.in_ok-input.ensures.told c.in_err-certificates.ensures.told)

pub returns-in_err-certificates-clause-no_lacks : goal.returns-in_err-certificates-clause-no_lacks
returns-in_err-certificates-clause-no_lacks g c =
    let out = err_from_is_err_and c.from_residual-in_err-certificates.result c.from_residual-in_err-certificates.ensures.1 in
    rw (out.1, out.2) (λ one. absurd (not_3_4 (refusal_status c.in_err-certificates.field-0.0) c.in_err-certificates.ensures.kinds one))

pub returns-in_err-put_text-clause-written : goal.returns-in_err-put_text-clause-written
returns-in_err-put_text-clause-written g c =
    let out = err_from_is_err_and c.from_residual-in_err-put_text.result c.from_residual-in_err-put_text.ensures.1 in
    let kind = c.in_err-put_text.ensures.kinds in
    let input = input_value c.in_ok-input.input in
    let blocks = map block_value c.in_ok-certificates.certificates.items in
    let checked = subst (λ (bs : List Block). IsCheckOf c.in_ok-input.input.control.shape input (map block_value bs) c.in_ok-checked.checked) c.deref.ensures.value c.in_ok-checked.ensures in
    let text : c.deref-2.result.now ≡ check_text (values_of input blocks) = c.deref-2.ensures.value ∙ checked.text in
    let ends =
    ends_so (g.S.Shelf.files c.args.shelf.now) (g.S.Shelf.files c.read_run.new.shelf) (command_value c.args.command.now) c.in_ok-input.input c.in_ok-certificates.certificates
    c.in_ok-input.ensures.same_files c.in_ok-input.ensures.told c.in_ok-certificates.ensures.told in
    rw (out.1, out.2, kind) (
    cut_told (g.S.Shelf.files c.args.shelf.now) (command_value c.args.command.now) (values_of input blocks) c.deref-2.result.now (Appends (g.O.Sink.taken c.args.out.now) (g.O.Sink.taken c.put_text.new.out)) ends text
    c.in_err-put_text.ensures.told)

pub returns-in_err-put_text-clause-sound : goal.returns-in_err-put_text-clause-sound
returns-in_err-put_text-clause-sound g c =
    let out = err_from_is_err_and c.from_residual-in_err-put_text.result c.from_residual-in_err-put_text.ensures.1 in
    let kind = c.in_err-put_text.ensures.kinds in
    let input = input_value c.in_ok-input.input in
    let blocks = map block_value c.in_ok-certificates.certificates.items in
    let checked = subst (λ (bs : List Block). IsCheckOf c.in_ok-input.input.control.shape input (map block_value bs) c.in_ok-checked.checked) c.deref.ensures.value c.in_ok-checked.ensures in
    let text : c.deref-2.result.now ≡ check_text (values_of input blocks) = c.deref-2.ensures.value ∙ checked.text in
    rw (out.1, out.2, kind) (
    cut_written AreSound (values_of input blocks) c.deref-2.result.now (Appends (g.O.Sink.taken c.args.out.now) (g.O.Sink.taken c.put_text.new.out)) (input, blocks, refl, are_true input blocks checked.truth) text
    c.in_err-put_text.ensures.told)

pub returns-in_err-put_text-clause-told_lacks : goal.returns-in_err-put_text-clause-told_lacks
returns-in_err-put_text-clause-told_lacks g c =
    told_lacks_more (g.S.Shelf.files c.args.shelf.now) c.args.command.now.control.now (g.S.Shelf.lacks c.args.shelf.now) (g.S.Shelf.lacks c.read_run.new.shelf)
    (g.S.Shelf.lacks c.read_blocks.new.shelf) c.in_ok-input.ensures.told_lacks c.in_ok-certificates.ensures.lacks

pub returns-clause-written : goal.returns-clause-written
returns-clause-written g c =
    let input = input_value c.in_ok-input.input in
    let blocks = map block_value c.in_ok-certificates.certificates.items in
    let checked = subst (λ (bs : List Block). IsCheckOf c.in_ok-input.input.control.shape input (map block_value bs) c.in_ok-checked.checked) c.deref.ensures.value c.in_ok-checked.ensures in
    let text : c.deref-2.result.now ≡ check_text (values_of input blocks) = c.deref-2.ensures.value ∙ checked.text in
    let ends =
    ends_so (g.S.Shelf.files c.args.shelf.now) (g.S.Shelf.files c.read_run.new.shelf) (command_value c.args.command.now) c.in_ok-input.input c.in_ok-certificates.certificates
    c.in_ok-input.ensures.same_files c.in_ok-input.ensures.told c.in_ok-certificates.ensures.told in
    all_told (g.S.Shelf.files c.args.shelf.now) (command_value c.args.command.now) (values_of input blocks) c.in_ok-checked.checked.refused c.deref-2.result.now (Appends (g.O.Sink.taken c.args.out.now) (g.O.Sink.taken c.put_text.new.out)) ends text
    checked.refused c.in_ok-put_text.ensures.told

pub returns-clause-proves : goal.returns-clause-proves
returns-clause-proves g c =
    let input = input_value c.in_ok-input.input in
    let blocks = map block_value c.in_ok-certificates.certificates.items in
    let checked = subst (λ (bs : List Block). IsCheckOf c.in_ok-input.input.control.shape input (map block_value bs) c.in_ok-checked.checked) c.deref.ensures.value c.in_ok-checked.ensures in
    let ends =
    ends_so (g.S.Shelf.files c.args.shelf.now) (g.S.Shelf.files c.read_run.new.shelf) (command_value c.args.command.now) c.in_ok-input.input c.in_ok-certificates.certificates
    c.in_ok-input.ensures.same_files c.in_ok-input.ensures.told c.in_ok-certificates.ensures.told in
    ends_true (g.S.Shelf.files c.args.shelf.now) (command_value c.args.command.now) c.in_ok-input.input (values_of input blocks) c.in_ok-input.ensures.told ends
    (are_true input blocks checked.truth)

pub returns-clause-sound : goal.returns-clause-sound
returns-clause-sound g c =
    let input = input_value c.in_ok-input.input in
    let blocks = map block_value c.in_ok-certificates.certificates.items in
    let checked = subst (λ (bs : List Block). IsCheckOf c.in_ok-input.input.control.shape input (map block_value bs) c.in_ok-checked.checked) c.deref.ensures.value c.in_ok-checked.ensures in
    let text : c.deref-2.result.now ≡ check_text (values_of input blocks) = c.deref-2.ensures.value ∙ checked.text in
    all_written AreSound (values_of input blocks) c.in_ok-checked.checked.refused c.deref-2.result.now (Appends (g.O.Sink.taken c.args.out.now) (g.O.Sink.taken c.put_text.new.out)) (input, blocks, refl, are_true input blocks checked.truth) text
    checked.refused c.in_ok-put_text.ensures.told

pub returns-clause-told_lacks : goal.returns-clause-told_lacks
returns-clause-told_lacks g c =
    told_lacks_more (g.S.Shelf.files c.args.shelf.now) c.args.command.now.control.now (g.S.Shelf.lacks c.args.shelf.now) (g.S.Shelf.lacks c.read_run.new.shelf)
    (g.S.Shelf.lacks c.read_blocks.new.shelf) c.in_ok-input.ensures.told_lacks c.in_ok-certificates.ensures.lacks

pub returns-in_err-input-clause-own : goal.returns-in_err-input-clause-own
returns-in_err-input-clause-own g c =
    let out = err_from_is_err_and c.from_residual.result c.from_residual.ensures.1 in
    rw (out.1, out.2) (own_refused (g.S.Shelf.files c.args.shelf.now) (command_value c.args.command.now) c.in_err-input.field-0.0 c.in_err-input.ensures.told)

pub returns-in_err-certificates-clause-own : goal.returns-in_err-certificates-clause-own
returns-in_err-certificates-clause-own g c =
    let out = err_from_is_err_and c.from_residual-in_err-certificates.result c.from_residual-in_err-certificates.ensures.1 in
    let control_passed : c.in_ok-input.input.control.passed < 2 ^ 32 = search rules in
    let phases_passed : c.in_ok-input.input.phases.passed < 2 ^ 32 = search rules in
    rw (out.1, out.2) (
    own_ended (g.S.Shelf.files c.args.shelf.now) (command_value c.args.command.now) c.in_ok-input.input (Err c.in_err-certificates.field-0.0)
    (Appends (g.O.Sink.taken c.args.out.now) (g.O.Sink.taken c.args.out.now)) c.in_ok-input.ensures.limits control_passed phases_passed c.in_ok-input.ensures.told
    (report_refused (g.S.Shelf.files c.args.shelf.now) (g.S.Shelf.files c.read_run.new.shelf) (command_value c.args.command.now) c.in_ok-input.input c.in_err-certificates.field-0.0
    c.in_ok-input.ensures.same_files c.in_ok-input.ensures.told c.in_err-certificates.ensures.told)
    (refused_told (g.S.Shelf.files c.args.shelf.now) (λ files values. check_ending files (command_value c.args.command.now) ≡ Ok values) c.in_err-certificates.field-0.0
    (Appends (g.O.Sink.taken c.args.out.now) (g.O.Sink.taken c.args.out.now)) (not_8 (refusal_status c.in_err-certificates.field-0.0) c.in_err-certificates.ensures.kinds)))

pub returns-in_err-put_text-clause-own : goal.returns-in_err-put_text-clause-own
returns-in_err-put_text-clause-own g c =
    let out = err_from_is_err_and c.from_residual-in_err-put_text.result c.from_residual-in_err-put_text.ensures.1 in
    let kind = c.in_err-put_text.ensures.kinds in
    rw (out.1, out.2, kind) (own_always (g.S.Shelf.files c.args.shelf.now) (command_value c.args.command.now) 8 refl)

pub returns-clause-own : goal.returns-clause-own
returns-clause-own g c =
    let control_passed : c.in_ok-input.input.control.passed < 2 ^ 32 = search rules in
    let phases_passed : c.in_ok-input.input.phases.passed < 2 ^ 32 = search rules in
    own_ended (g.S.Shelf.files c.args.shelf.now) (command_value c.args.command.now) c.in_ok-input.input (Ok c.in_ok-checked.checked.refused)
    (Appends (g.O.Sink.taken c.args.out.now) (g.O.Sink.taken c.put_text.new.out)) c.in_ok-input.ensures.limits control_passed phases_passed c.in_ok-input.ensures.told
    (none_told (g.S.Shelf.files c.args.shelf.now) (command_value c.args.command.now) c.in_ok-checked.checked.refused)
    (returns-clause-written g c)
