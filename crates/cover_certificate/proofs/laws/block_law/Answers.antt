use Rattle.cover_certificate.specs.BlockLines.{block_lines}
use Rattle.cover_certificate.proofs.BlockLaws.{block_fine}
use Rattle.cover_certificate.proofs.Decoding.{block_back, one_block}
use Rattle.cover_certificate.proofs.FaultPlaces.{block_faultless}
use Rattle.cover_certificate.proofs.TextLaws.{block_text-lines, one_text}
use Rattle.cover_certificate.proofs.laws.block_law.Goals as goal

pub returns-clause-lines : goal.returns-clause-lines
returns-clause-lines c = block_text-lines

pub returns-clause-again : goal.returns-clause-again
returns-clause-again c = λ block rest valid typed. block_faultless (block_lines block) rest (block_fine block rest valid typed)

pub returns-clause-tell : goal.returns-clause-tell
returns-clause-tell c = block_back

pub returns-clause-once : goal.returns-clause-once
returns-clause-once c = one_block

pub returns-clause-text : goal.returns-clause-text
returns-clause-text c = one_text
