use Rattle.std.proofs.Common.{◌≡◌, false, true, FitsSigned, w64, rules}
use Rattle.std.proofs.lemmas.Int.{to_z-of_z}
use Rattle.control_reader.proofs.GridLimits.{axis_is, too_many_nodes}
use Rattle.edt_text.specs.PlacedWords.{placed_words}
use Rattle.control_reader.proofs.words.frame.read_grid.Goals as goal

pub returns-in-None-clause-fault : goal.returns-in-None-clause-fault
returns-in-None-clause-fault c =
    let x = axis_is c.in_ok-x.x c.in_ok-x.ensures.range in
    let y = axis_is c.in_ok-y.y c.in_ok-y.ensures.range in
    let z = axis_is c.in_ok-z.z c.in_ok-z.ensures.range in
    let f1 : FitsSigned w64 c.in_ok-x.x = search rules in
    let f2 : FitsSigned w64 c.in_ok-y.y = search rules in
    let f3 : FitsSigned w64 c.in_ok-z.z = search rules in
    let told = simp to_z-of_z at c.in-None.ensures.some.1 in
    too_many_nodes (placed_words c.args.arguments.now) c.in_ok-x.ensures.good c.in_ok-y.ensures.good c.in_ok-z.ensures.good
    (rw c.in_ok-x.ensures.value at x) (rw c.in_ok-y.ensures.value at y) (rw c.in_ok-z.ensures.value at z)
    (λ grid. let no : false ≡ true = told (rw (c.in_ok-x.ensures.value, c.in_ok-y.ensures.value, c.in_ok-z.ensures.value) grid) in absurd cc)
