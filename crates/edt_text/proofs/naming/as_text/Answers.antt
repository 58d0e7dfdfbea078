use Rattle.edt_text.proofs.NameLaws.{text-of_name}
use Rattle.edt_text.proofs.naming.as_text.Goals as goal

pub unreachable-requires : goal.unreachable-requires
unreachable-requires c = c.in-Err.ensures.cases.0 (text-of_name c.args.bytes.now c.requires)
