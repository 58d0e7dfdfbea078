use Rattle.std.proofs.Common.{◌∙◌, ap, get_or}
use Rattle.kernel_table.proofs.GaussTable.{table-entry}
use Rattle.kernel_table.proofs.table.read.Goals as goal

pub returns : goal.returns
returns c = ap (λ table. get_or table c.args.place 0) c.requires.gauss ∙ table-entry c.args.place c.requires.within
