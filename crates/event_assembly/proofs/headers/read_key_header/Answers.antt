use Rattle.control_reader.specs.ControlValues.{values_of}
use Rattle.event_assembly.proofs.HeaderLaws.{key_read, key_lacking}
use Rattle.event_assembly.proofs.headers.read_key_header.Goals as goal

pub returns-in_ok-read_present-in-Ok-true-clause-told : goal.returns-in_ok-read_present-in-Ok-true-clause-told
returns-in_ok-read_present-in-Ok-true-clause-told g c =
    key_read (g.S.Shelf.files c.args.shelf.now) (g.S.Shelf.files c.has.new.self) (values_of c.args.control.now) c.args.key.now c.in_ok-name.name c.as_str.result.now
    c.in-Ok-true.field-0 c.in_ok-read_present-in-Ok-true.field-0 c.has.ensures.same_files c.in_ok-name.ensures c.as_str.ensures.text c.in-Ok-true.ensures.told
    c.in-Ok-true.field-0-test c.in_ok-read_present-in-Ok-true.ensures.told

pub returns-in-Ok-false-clause-told : goal.returns-in-Ok-false-clause-told
returns-in-Ok-false-clause-told g c =
    key_lacking (g.S.Shelf.files c.args.shelf.now) (values_of c.args.control.now) c.args.key.now c.in_ok-name.name c.as_str.result.now
    c.in-Ok-false.field-0 c.in_ok-name.ensures c.as_str.ensures.text c.in-Ok-false.ensures.told c.in-Ok-false.field-0-test
