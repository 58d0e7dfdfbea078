use Rattle.station_table.proofs.UsingLaws.{each_once, used_push, skipped_push}
use Rattle.station_table.proofs.laws.each_pick_is_in_one_list.Goals as goal

pub returns-clause-count : goal.returns-clause-count
returns-clause-count c = each_once

pub returns-clause-used : goal.returns-clause-used
returns-clause-used c = used_push

pub returns-clause-skipped : goal.returns-clause-skipped
returns-clause-skipped c = skipped_push
