use Rattle.std.proofs.Common.{ℕ, ◌<◌, length, map, ◌∙◌, arith, rules}
use Rattle.std.proofs.lemmas.List.{length-map}
use Rattle.std.proofs.lemmas.Result.{err_from_is_err_and}
use Rattle.control_reader.specs.ControlValues.{values_of}
use Rattle.event_assembly.specs.AssemblyValues.{assembly_value, event_value}
use Rattle.location_report.specs.Reports.{no_event}
use Rattle.location_report.specs.Texts.{event_block}
use Rattle.edt_top.proofs.LocateLaws.FoundLaws.{block_at}
use Rattle.edt_top.proofs.LocateLaws.WritingSteps.{writes_stop, writes_short, writes_next}
use Rattle.edt_top.proofs.locate.text.write_blocks.Goals as goal

pub returns-in_err-block-clause-told : goal.returns-in_err-block-clause-told
returns-in_err-block-clause-told g c =
    let out = err_from_is_err_and c.from_residual.result c.from_residual.ensures.1 in
    let input = c.args.input.now in
    let events = input.assembly.events.items in
    let i : ℕ = c.loop-place.place in
    let within : i < length (map event_value events) = omega (arith, length-map events event_value) in
    rw (out.1, out.2) (
    writes_stop (event_block (values_of input.control) (assembly_value input.assembly)) (map event_value events) i no_event _ _ within c.loop-place.invariant.written)

pub returns-in_err-put_part-clause-told : goal.returns-in_err-put_part-clause-told
returns-in_err-put_part-clause-told g c =
    let out = err_from_is_err_and c.from_residual-in_err-put_part.result c.from_residual-in_err-put_part.ensures.1 in
    let kind = c.in_err-put_part.ensures.kinds in
    let input = c.args.input.now in
    let events = input.assembly.events.items in
    let i : ℕ = c.loop-place.place in
    let within : i < length (map event_value events) = omega (arith, length-map events event_value) in
    let made = block_at (values_of input.control) input.assembly i c.in_ok-block.block.items c.in_ok-block.ensures in
    rw (out.1, out.2, kind) (
    writes_short (event_block (values_of input.control) (assembly_value input.assembly)) (map event_value events) i no_event c.deref.result.now _ _ _ within (c.deref.ensures.value ∙ made) c.loop-place.invariant.written
    (rw kind at c.in_err-put_part.ensures.told))

pub loop-place-preserved : goal.loop-place-preserved
loop-place-preserved g c =
    let input = c.args.input.now in
    let events = input.assembly.events.items in
    let i : ℕ = c.loop-place.place in
    let within : i < length (map event_value events) = omega (arith, length-map events event_value) in
    let made = block_at (values_of input.control) input.assembly i c.in_ok-block.block.items c.in_ok-block.ensures in
    record {
      written = writes_next (event_block (values_of input.control) (assembly_value input.assembly)) (map event_value events) i no_event c.deref.result.now _ _ _ within (c.deref.ensures.value ∙ made) c.loop-place.invariant.written
          c.in_ok-put_part.ensures.told;
      faults = search rules;
    }
