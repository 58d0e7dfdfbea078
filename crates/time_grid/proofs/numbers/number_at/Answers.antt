use Rattle.time_grid.proofs.NumberLaws.{number_of_part}
use Rattle.time_grid.proofs.numbers.number_at.Goals as goal

pub returns : goal.returns
returns c = number_of_part c.args.order c.args.bytes.now c.args.k c.number_of_four.result c.number_of_four.ensures
