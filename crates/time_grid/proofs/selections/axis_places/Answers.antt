use Rattle.time_grid.specs.Alignment.{axis_of}
use Rattle.time_grid.proofs.AxisLaws.{aligned}
use Rattle.time_grid.proofs.selections.axis_places.Goals as goal

pub returns-in-Some-clause-aligned : goal.returns-in-Some-clause-aligned
returns-in-Some-clause-aligned c = aligned (axis_of c.args.header.now c.args.frame.now c.args.axis) c.in-Some.places (rw c.new.ensures.value at c.in-Some.ensures)
