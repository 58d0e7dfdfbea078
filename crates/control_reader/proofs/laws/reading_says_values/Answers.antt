use Rattle.control_reader.proofs.ValueSteps.{says_values}
use Rattle.control_reader.proofs.laws.reading_says_values.Goals as goal

pub returns : goal.returns
returns c = says_values
