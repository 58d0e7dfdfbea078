use Rattle.time_grid.proofs.CoordinateLaws.{same_coordinates_is}
use Rattle.time_grid.proofs.laws.same_coordinates.Goals as goal

pub returns : goal.returns
returns c = same_coordinates_is
