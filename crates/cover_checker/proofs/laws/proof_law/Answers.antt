use Rattle.cover_checker.proofs.ProofLaws.{true_of}
use Rattle.cover_checker.proofs.laws.proof_law.Goals as goal

pub returns : goal.returns
returns c = true_of
