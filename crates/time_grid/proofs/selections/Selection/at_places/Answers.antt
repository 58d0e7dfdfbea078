use Rattle.std.proofs.Common.{arith}
use Rattle.std.proofs.lemmas.Nat.{mul-le}
use Rattle.time_grid.specs.declared.faults.Axis.TheVariants.{X, Y, Z}
use Rattle.time_grid.specs.Alignment.{axis_of}
use Rattle.time_grid.proofs.SelectionLaws.{place_small, product_small, selection_is, selection_node}
use Rattle.time_grid.proofs.selections.Selection.at_places.Goals as goal

pub overflow_mul-result : goal.overflow_mul-result
overflow_mul-result c =
    let few = c.requires.header in
    let x = place_small (axis_of c.args.header.now c.args.frame.now X) c.args.x c.x.ensures.grid.x_from few.x.1 c.requires.x in
    let plane = product_small c.args.x.first c.args.header.now.y c.args.header.now.z x.0 few.y.1 few.z.1 in
    omega arith

pub overflow_mul-result-2 : goal.overflow_mul-result-2
overflow_mul-result-2 c =
    let few = c.requires.header in
    let y = place_small (axis_of c.args.header.now c.args.frame.now Y) c.args.y c.x.ensures.grid.y_from few.y.1 c.requires.y in
    let row = mul-le c.args.y.first c.args.header.now.z 4096 4096 y.0 few.z.1 in
    omega arith

pub overflow_add-result : goal.overflow_add-result
overflow_add-result c =
    let few = c.requires.header in
    let x = place_small (axis_of c.args.header.now c.args.frame.now X) c.args.x c.x.ensures.grid.x_from few.x.1 c.requires.x in
    let y = place_small (axis_of c.args.header.now c.args.frame.now Y) c.args.y c.x.ensures.grid.y_from few.y.1 c.requires.y in
    let plane = product_small c.args.x.first c.args.header.now.y c.args.header.now.z x.0 few.y.1 few.z.1 in
    let row = mul-le c.args.y.first c.args.header.now.z 4096 4096 y.0 few.z.1 in
    omega arith

pub overflow_add-result-2 : goal.overflow_add-result-2
overflow_add-result-2 c =
    let few = c.requires.header in
    let x = place_small (axis_of c.args.header.now c.args.frame.now X) c.args.x c.x.ensures.grid.x_from few.x.1 c.requires.x in
    let y = place_small (axis_of c.args.header.now c.args.frame.now Y) c.args.y c.x.ensures.grid.y_from few.y.1 c.requires.y in
    let z = place_small (axis_of c.args.header.now c.args.frame.now Z) c.args.z c.x.ensures.grid.z_from few.z.1 c.requires.z in
    let plane = product_small c.args.x.first c.args.header.now.y c.args.header.now.z x.0 few.y.1 few.z.1 in
    let row = mul-le c.args.y.first c.args.header.now.z 4096 4096 y.0 few.z.1 in
    omega arith

pub overflow_mul-result-3 : goal.overflow_mul-result-3
overflow_mul-result-3 c =
    let few = c.requires.header in
    let x = place_small (axis_of c.args.header.now c.args.frame.now X) c.args.x c.x.ensures.grid.x_from few.x.1 c.requires.x in
    let plane = product_small c.args.x.stride c.args.header.now.y c.args.header.now.z x.1 few.y.1 few.z.1 in
    omega arith

pub overflow_mul-result-4 : goal.overflow_mul-result-4
overflow_mul-result-4 c =
    let few = c.requires.header in
    let y = place_small (axis_of c.args.header.now c.args.frame.now Y) c.args.y c.x.ensures.grid.y_from few.y.1 c.requires.y in
    let row = mul-le c.args.y.stride c.args.header.now.z 4096 4096 y.1 few.z.1 in
    omega arith

pub returns-clause-selection : goal.returns-clause-selection
returns-clause-selection c =
    rw (c.x.ensures.value, c.y.ensures.value, c.z.ensures.value)
    (selection_is c.args.header.now c.args.frame.now c.args.x c.args.y c.args.z c.requires.header c.x.ensures.grid c.requires.x c.requires.y c.requires.z)

pub returns-clause-nodes : goal.returns-clause-nodes
returns-clause-nodes c =
    rw (c.x.ensures.value, c.y.ensures.value, c.z.ensures.value)
    (selection_node c.args.header.now c.args.frame.now c.args.x c.args.y c.args.z c.requires.x c.requires.y c.requires.z)
