use Rattle.edt_outside.proofs.CountLemmas.{RisesExactly-rose}
use Rattle.edt_outside.proofs.laws.rises_exactly.Goals as goal

pub returns : goal.returns
returns c = RisesExactly-rose
