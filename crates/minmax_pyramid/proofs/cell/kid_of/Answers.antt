use Rattle.std.proofs.Common.{arith, get_or}
use Rattle.minmax_pyramid.proofs.CellSteps.{cell_reached, one_kid, split_kid, split_within}
use Rattle.minmax_pyramid.proofs.cell.kid_of.Goals as goal

pub returns-in_default : goal.returns-in_default
returns-in_default c = λ g time a d some at here.
    one_kid g time a d c.args.place c.args.cell.now c.in_default.field-0 c.in_default.field-1 c.in_default.is some at here

pub returns-then-place-len : goal.returns-then-place-len
returns-then-place-len c = λ g time a d some at here.
    let split = c.in-Split in
    let kid = split_kid g time a d c.args.place c.args.cell.now split.least split.greatest split.kids c.index.result.now split.is at here in
    rw c.index.ensures (cell_reached g time d (get_or split.kids.items c.args.place c.index.result.now) kid.1)

pub returns-else-place-len : goal.returns-else-place-len
returns-else-place-len c = λ g time a d some at here.
    let split = c.in-Split in
    let ok = split.kids.ok in
    let within = split_within g time a d c.args.place c.args.cell.now split.least split.greatest split.kids split.is at here in
    absurd (omega arith)
