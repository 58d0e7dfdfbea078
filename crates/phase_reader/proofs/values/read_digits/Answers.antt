use Rattle.std.proofs.Common.{sym, ◌∙◌}
use Rattle.phase_reader.proofs.DigitLaws.{read_within, read_small}
use Rattle.phase_reader.proofs.values.read_digits.Goals as goal

pub returns-in_err-value-clause-value : goal.returns-in_err-value-clause-value
returns-in_err-value-clause-value c =
    c.from_residual.ensures ∙ c.in_err-value.ensures ∙ read_within c.args.word.now c.args.count c.if-word-count.false c.requires

pub returns-clause-bound : goal.returns-clause-bound
returns-clause-bound c = read_small c.args.word.now c.in_ok-value.value c.args.count c.if-word-count.false (sym c.in_ok-value.ensures)
