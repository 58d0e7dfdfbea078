use Rattle.edt_score.proofs.DemoRoots.{least_root_is}
use Rattle.edt_score.proofs.laws.demo_law.Goals as goal

pub returns : goal.returns
returns c = record { root = λ n. least_root_is n }
