use Rattle.std.proofs.Common.{◌≡◌, w64, FitsSigned, to_z, of_z, ◌∙◌, arith}
use Rattle.std.specs.Prelude.{◌-ℤ◌}
use Rattle.std.proofs.lemmas.Int.{ints, to_z-of_z}
use Rattle.station_table.proofs.distances.twice_from_middle.Goals as goal

pub returns-clause-value : goal.returns-clause-value
returns-clause-value c =
    let offset = c.twice_offset.result in
    let breadth = c.breadth.result in
    let origin : FitsSigned w64 c.args.origin = c.ranges.origin in
    let spacing : FitsSigned w64 c.args.spacing = c.ranges.spacing in
    let at : FitsSigned w64 c.args.at = c.ranges.at in
    let offset_is = simp to_z-of_z at c.twice_offset.ensures.value in
    let breadth_is = simp to_z-of_z at c.breadth.ensures.value in
    let fits : to_z w64 (of_z w64 (to_z w64 (of_z w64 offset) -ℤ to_z w64 (of_z w64 breadth))) ≡ offset -ℤ breadth =
    omega (arith, ints, c.twice_offset.ensures.limit, c.breadth.ensures.limit) in
    fits ∙ (λ j. offset_is j -ℤ breadth_is j)
