use Rattle.std.proofs.Common.{arith, ◌∙◌, ◌*◌, ◌/◌, ◌^◌}
use Rattle.kernel_table.proofs.KernelLaws.{gauss_entry-le}
use Rattle.kernel_table.proofs.ProductPlaces.{entry-by}
use Rattle.kernel_table.proofs.reciprocals.gauss_by.Goals as goal

pub entry-requires : goal.entry-requires
entry-requires c = (entry-by c.args.misfit c.min-near.result (c.args.end / 4) c.args.reciprocal c.args.end c.requires c.min-near.ensures).0

pub returns-clause-value : goal.returns-clause-value
returns-clause-value c =
    c.entry.ensures ∙ (entry-by c.args.misfit c.min-near.result (c.args.end / 4) c.args.reciprocal c.args.end c.requires c.min-near.ensures).1

pub returns-clause-at_most : goal.returns-clause-at_most
returns-clause-at_most c = omega (arith, c.entry.ensures, gauss_entry-le (c.min-near.result * c.args.reciprocal / 2 ^ 64))
