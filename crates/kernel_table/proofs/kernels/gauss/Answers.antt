use Rattle.std.proofs.Common.{arith, sym}
use Rattle.kernel_table.proofs.KernelLaws.{gauss_entry-le, gauss_value-far}
use Rattle.kernel_table.proofs.kernels.gauss.Goals as goal

pub returns-then-misfit-scale-clause-value : goal.returns-then-misfit-scale-clause-value
returns-then-misfit-scale-clause-value c = sym (gauss_value-far c.args.misfit c.args.scale c.requires c.if-misfit-scale.true)

pub returns-clause-at_most : goal.returns-clause-at_most
returns-clause-at_most c = omega (arith, c.entry.ensures, gauss_entry-le c.entry_place.result)
