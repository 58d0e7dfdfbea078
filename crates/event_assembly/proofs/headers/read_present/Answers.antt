use Rattle.event_assembly.proofs.HeaderLaws.{present_read}
use Rattle.event_assembly.proofs.headers.read_present.Goals as goal

pub returns-in-Ok-read_header-clause-told : goal.returns-in-Ok-read_header-clause-told
returns-in-Ok-read_header-clause-told g c =
    let bytes = c.deref.ensures.value in
    present_read (g.S.Shelf.files c.args.shelf.now) c.args.name c.as_str.result.now c.in-Ok.bytes c.in-Ok-read_header.header c.as_str.ensures.text
    c.in-Ok.ensures.told (rw bytes at c.in-Ok-read_header.ensures.value) (rw bytes at c.in-Ok-read_header.ensures.value.good)
