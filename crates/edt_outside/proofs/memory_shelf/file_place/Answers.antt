use Rattle.edt_outside.proofs.EntryLemmas.{place_is}
use Rattle.edt_outside.proofs.memory_shelf.file_place.Goals as goal

pub returns : goal.returns
returns c = place_is c.args.files.now c.args.name.now c.first_named.result c.first_named.ensures
