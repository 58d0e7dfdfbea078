use Rattle.search_lanes.proofs.RunLaws.{finished_ends, holds_opened, covers_best, meets_few, boxes_divide}
use Rattle.search_lanes.proofs.laws.any_order_law.Goals as goal

pub returns-clause-end : goal.returns-clause-end
returns-clause-end c = finished_ends

pub returns-clause-held : goal.returns-clause-held
returns-clause-held c = holds_opened

pub returns-clause-upper : goal.returns-clause-upper
returns-clause-upper c = covers_best

pub returns-clause-met : goal.returns-clause-met
returns-clause-met c = meets_few

pub returns-clause-cut : goal.returns-clause-cut
returns-clause-cut c = boxes_divide
