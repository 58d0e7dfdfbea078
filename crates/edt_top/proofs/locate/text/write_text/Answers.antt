use Rattle.std.proofs.Common.{◌≡◌, ◌∷◌, [], length, map, Err, sym, ◌∙◌, subst, rules}
use Rattle.std.proofs.lemmas.List.{length-map}
use Rattle.std.proofs.lemmas.Result.{err_from_is_err_and}
use Rattle.edt_outside.specs.Sinks.{Appends}
use Rattle.event_assembly.specs.AssemblyValues.{assembly_value, event_value}
use Rattle.edt_top.specs.Inside.Writing.{WritingEnds}
use Rattle.control_reader.specs.ControlValues.{values_of}
use Rattle.location_report.specs.Texts.{blocks_of, head_line}
use Rattle.edt_top.specs.Runs.{joined}
use Rattle.run_input.specs.Inputs.{input_value}
use Rattle.edt_top.proofs.LocateLaws.CoverLaws.{covers_shortest}
use Rattle.edt_top.proofs.LocateLaws.WritingSteps.{writing_first, writing_rest}
use Rattle.edt_top.proofs.locate.text.write_text.Goals as goal

pub returns-in_err-write_head-clause-told : goal.returns-in_err-write_head-clause-told
returns-in_err-write_head-clause-told g c =
    let out = err_from_is_err_and c.from_residual.result c.from_residual.ensures.1 in
    let input = c.args.input.now in
    let events = input.assembly.events.items in
    let items : c.len.result ≡ length events = search rules in
    let count : c.len.result ≡ length (map event_value events) = items ∙ sym (length-map events event_value) in
    let head = subst (λ n. WritingEnds (head_line n input.control.passed input.phases.passed ∷ []) (Err c.in_err-write_head.field-0.0) (Appends (g.O.Sink.taken c.args.out.now) (g.O.Sink.taken c.write_head.new.out))) count
    c.in_err-write_head.ensures.told in
    rw (out.1, out.2) (
    writing_first (g.O.Sink.taken c.args.out.now) (g.O.Sink.taken c.write_head.new.out) (head_line (length (map event_value events)) input.control.passed input.phases.passed)
    (blocks_of (values_of input.control) (assembly_value input.assembly)) c.in_err-write_head.field-0.0 head)

pub returns-clause-told : goal.returns-clause-told
returns-clause-told g c =
    let input = c.args.input.now in
    let events = input.assembly.events.items in
    let items : c.len.result ≡ length events = search rules in
    let count : c.len.result ≡ length (map event_value events) = items ∙ sym (length-map events event_value) in
    let head = subst (λ n. Appends (g.O.Sink.taken c.args.out.now) (g.O.Sink.taken c.write_head.new.out) (joined (head_line n input.control.passed input.phases.passed ∷ []))) count
    c.in_ok-write_head.ensures.told in
    writing_rest (g.O.Sink.taken c.args.out.now) (g.O.Sink.taken c.write_head.new.out) (g.O.Sink.taken c.write_shaped.new.out) (head_line (length (map event_value events)) input.control.passed input.phases.passed)
    (blocks_of (values_of input.control) (assembly_value input.assembly)) c.write_shaped.result head c.write_shaped.ensures.told

pub returns-clause-covers : goal.returns-clause-covers
returns-clause-covers g c = covers_shortest (input_value c.args.input.now) c.roots-roots.ensures.field.are_roots

pub returns-in_err-write_head-clause-covers : goal.returns-in_err-write_head-clause-covers
returns-in_err-write_head-clause-covers g c = covers_shortest (input_value c.args.input.now) c.roots-roots.ensures.field.are_roots
