use Rattle.std.proofs.Common.{subst, ℕ, ◌+◌, List, ◌∷◌, drop, get_or, arith}
use Rattle.std.proofs.lemmas.List.{drop_more, drop_all}
use Rattle.minmax_pyramid.specs.Families.{IsWay}
use Rattle.minmax_pyramid.specs.Inside.Cells.{IsReached}
use Rattle.minmax_pyramid.proofs.pyramid_rows.go_down.Goals as goal

pub loop-place-preserved : goal.loop-place-preserved
loop-place-preserved c = λ g time a b way top.
    let places = c.args.places.now in
    let i = c.loop-place.place-index in
    let before = c.loop-place.invariant g time a b way top in
    let here = before.0 in
    let P : List ℕ → Type 0 = λ ns. IsWay here ns b in
    let step : IsWay here (get_or places i 0 ∷ drop (i + 1) places) b =
    subst P (drop_more places i 0 (omega arith)) before.1 in
    (step.0, step.3, c.kid_of-cell.ensures g time here step.0 step.1.nonempty step.2 before.2)

pub returns : goal.returns
returns c = λ g time a b way top.
    let places = c.args.places.now in
    let i = c.loop-place.place-index in
    let before = c.loop-place.invariant g time a b way top in
    let here = before.0 in
    let P : List ℕ → Type 0 = λ ns. IsWay here ns b in
    let end = subst P (drop_all i places (omega arith)) before.1 in
    subst (λ n. IsReached g time n c.loop-place.cell.now) end before.2
