use Rattle.std.proofs.Common.{FitsSigned, w64, rules, ◌∙◌}
use Rattle.std.proofs.lemmas.Int.{to_z-of_z}
use Rattle.phase_reader.proofs.DateLaws.{weight_some}
use Rattle.phase_reader.proofs.values.thousandths.Goals as goal

pub returns-clause-value : goal.returns-clause-value
returns-clause-value c =
    let read : FitsSigned w64 c.in_ok-millionths.millionths = search rules in
    let cut : FitsSigned w64 c.div_euclid.result = search rules in
    let is = simp to_z-of_z at c.div_euclid.ensures in
    simp to_z-of_z (is ∙ weight_some c.args.word.now c.in_ok-millionths.millionths c.in_ok-millionths.ensures.value)
