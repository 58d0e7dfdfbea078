use Rattle.std.proofs.Common.{◌≡◌, ◌≢◌, List, ℕ, length, map, Ok, Err, sym, ◌∙◌, subst, rules}
use Rattle.std.proofs.lemmas.List.{length-map}
use Rattle.text_terms.specs.Lines.{lines_of}
use Rattle.event_assembly.specs.AssemblyValues.{event_value}
use Rattle.cover_certificate.specs.Blocks.{block_value}
use Rattle.run_input.specs.Inputs.{input_value}
use Rattle.check_top.specs.declared.report.fault.ReportCause.TheVariants.{Memory}
use Rattle.check_top.specs.Reports.{report_of}
use Rattle.check_top.proofs.EndingSteps.{report_blocks, report_faulty}
use Rattle.check_top.proofs.run.read_blocks.Goals as goal

pub returns-in-Ok-clause-told : goal.returns-in-Ok-clause-told
returns-in-Ok-clause-told g c =
    let events = c.args.input.now.assembly.events.items in
    let items : c.len.result ≡ length events = search rules in
    report_blocks (g.S.Shelf.files c.args.shelf.now) c.args.name.now c.in_ok-bytes.bytes c.in-Ok.blocks (input_value c.args.input.now) c.len.result
    (items ∙ sym (length-map events event_value)) c.in_ok-bytes.ensures.told
    (subst (λ (bytes : List ℕ). report_of c.len.result (lines_of bytes) ≡ Ok (map block_value c.in-Ok.blocks.items)) c.deref.ensures.value c.in-Ok.ensures.value)

pub returns-clause-told : goal.returns-clause-told
returns-clause-told g c =
    let events = c.args.input.now.assembly.events.items in
    let items : c.len.result ≡ length events = search rules in
    report_faulty (g.S.Shelf.files c.args.shelf.now) c.args.name.now c.in_ok-bytes.bytes c.in-Err.fault c.refusal_of_report.result (input_value c.args.input.now) c.len.result
    (items ∙ sym (length-map events event_value)) c.in_ok-bytes.ensures.told
    (subst (λ (bytes : List ℕ). c.in-Err.fault.cause ≢ Memory → report_of c.len.result (lines_of bytes) ≡ Err c.in-Err.fault) c.deref.ensures.value c.in-Err.ensures.fault)
    c.refusal_of_report.ensures.told c.refusal_of_report.ensures.memory
