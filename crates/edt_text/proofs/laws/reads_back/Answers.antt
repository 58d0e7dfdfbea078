use Rattle.edt_text.proofs.ReadingLaws.{reading_of-decimal}
use Rattle.edt_text.proofs.laws.reads_back.Goals as goal

pub returns : goal.returns
returns c = reading_of-decimal
