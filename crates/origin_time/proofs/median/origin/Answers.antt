use Rattle.std.proofs.Common.{rules, SFits, w64}
use Rattle.std.proofs.lemmas.Int.{to_z-of_z}
use Rattle.origin_time.proofs.Medians.{permuted}
use Rattle.origin_time.proofs.median.origin.Goals as goal

pub returns-in-Ok-clause-value : goal.returns-in-Ok-clause-value
returns-in-Ok-clause-value c =
    let fits : SFits w64 c.middle_time.result = search rules in
    simp to_z-of_z (permuted c.args.items.now c.in-Ok.sorted.items c.middle_time.result c.in-Ok.ensures.permutation
    (rw c.as_slice.ensures.value at c.middle_time.ensures))
