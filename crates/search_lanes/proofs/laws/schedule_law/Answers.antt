use Rattle.search_lanes.proofs.Schedules.{schedule_finished, schedule_length}
use Rattle.search_lanes.proofs.laws.schedule_law.Goals as goal

pub returns-clause-finished : goal.returns-clause-finished
returns-clause-finished c g roots bound margin budget lanes seed are falls some =
    schedule_finished g roots bound margin budget are falls lanes seed some

pub returns-clause-length : goal.returns-clause-length
returns-clause-length c roots bound margin budget lanes seed = schedule_length bound margin budget lanes seed roots
