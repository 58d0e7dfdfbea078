use Rattle.std.proofs.Common.{◌∙◌, sym, arith}
use Rattle.minmax_pyramid.specs.Spans.{time_in}
use Rattle.minmax_pyramid.proofs.Enclosing.{span-single}
use Rattle.minmax_pyramid.proofs.SpanLaws.{reach-span}
use Rattle.minmax_pyramid.proofs.cell.low_span.Goals as goal

pub returns-then-is_single : goal.returns-then-is_single
returns-then-is_single c =
    let g = c.args.grid.now in
    let time = time_in c.args.times.now in
    let area = c.args.area.now in
    let single = sym c.is_single.ensures ∙ c.if-is_single.true in
    let is = reach-span g time area c.requires.inside (λ node. let fits = c.type_inv.times node in omega arith)
    ∙ span-single g time area c.requires.inside single in
    rw c.node_number-node.ensures.value (sym is)
