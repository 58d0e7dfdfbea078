use Rattle.std.proofs.Common.{◌<◌, length, sym, arith}
use Rattle.std.proofs.lemmas.Grind.{common_steps}
use Rattle.edt_text.proofs.NameLaws.{is_name-from_search}
use Rattle.edt_text.proofs.naming.Name.new.Goals as goal

pub of_valid-requires : goal.of_valid-requires
of_valid-requires c =
    let some : 0 < length c.args.bytes.now = grind (arith, common_steps) in
    record { form = is_name-from_search c.args.bytes.now some c.if-bytes-gt512.false (sym c.in_default.ensures) }

pub returns-clause-memory : goal.returns-clause-memory
returns-clause-memory c =
    let some : 0 < length c.args.bytes.now = grind (arith, common_steps) in
    λ _. is_name-from_search c.args.bytes.now some c.if-bytes-gt512.false (sym c.in_default.ensures)
