use Rattle.std.proofs.Common.{◌∙◌}
use Rattle.control_reader.specs.ControlValues.{values_of}
use Rattle.event_assembly.specs.Rows.{times_for}
use Rattle.event_assembly.proofs.RowLaws.{times_refused, times_read, times_over, all_within, length-times_for}
use Rattle.event_assembly.proofs.bodies.read_times.Goals as goal

pub returns-in-Err-clause-told : goal.returns-in-Err-clause-told
returns-in-Err-clause-told g c =
    times_refused (g.S.Shelf.files c.args.shelf.now) c.byte_order-order.result (values_of c.args.control.now) c.args.key.now c.args.header.now c.args.name
    c.as_str-text.result.now c.stream_times.new.into c.stream_times.new.into c.in-Err.fault c.body_refusal.result c.byte_order-order.ensures c.requires.name c.as_str-text.ensures.text
    c.in-Err.ensures.told c.in-Err.ensures.axis c.body_refusal.ensures.value

pub returns-in-None-clause-told : goal.returns-in-None-clause-told
returns-in-None-clause-told g c =
    times_read (g.S.Shelf.files c.args.shelf.now) c.byte_order-order.result (values_of c.args.control.now) c.args.key.now c.args.header.now c.args.name
    c.as_str-text.result.now c.stream_times.new.into c.convert_for.new.times c.byte_order-order.ensures c.requires.name c.as_str-text.ensures.text
    c.in-Ok.ensures.told c.in-Ok.ensures.aligned c.in-None.ensures.0 c.in-None.ensures.1

pub returns-in-None-clause-row : goal.returns-in-None-clause-row
returns-in-None-clause-row g c =
    let made = c.in-None.ensures.0 in
    record {
      one_a_node = rw made (length-times_for (values_of c.args.control.now) c.args.key.now c.stream_times.new.into ∙ c.in-Ok.ensures.one_a_node);
      limit = rw made (all_within (times_for (values_of c.args.control.now) c.args.key.now c.stream_times.new.into) c.in-None.ensures.1);
    }

pub returns-in-Some-clause-told : goal.returns-in-Some-clause-told
returns-in-Some-clause-told g c =
    times_over (g.S.Shelf.files c.args.shelf.now) c.byte_order-order.result (values_of c.args.control.now) c.args.key.now c.args.header.now c.args.name
    c.as_str-text.result.now c.stream_times.new.into c.convert_for.new.times c.in-Some.node c.byte_order-order.ensures c.requires.name c.as_str-text.ensures.text
    c.in-Ok.ensures.told c.in-Ok.ensures.aligned c.in-Some.ensures
