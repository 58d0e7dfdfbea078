use Rattle.std.proofs.Common.{sym, ◌∙◌, ap}
use Rattle.std.specs.Option.{option_map}
use Rattle.phase_reader.specs.PickFields.{clock_microseconds}
use Rattle.phase_reader.proofs.DateLaws.{clock_none, clock_number}
use Rattle.phase_reader.proofs.values.read_clock.Goals as goal

pub returns-in_err-number-clause-value : goal.returns-in_err-number-clause-value
returns-in_err-number-clause-value c =
    c.from_residual.ensures ∙ sym (ap (option_map clock_microseconds) (clock_none c.args.word.now (sym c.in_err-number.ensures.value)))

pub returns-clause-value : goal.returns-clause-value
returns-clause-value c =
    clock_number c.args.word.now c.in_ok-number.number c.clock_of_number.result (sym c.in_ok-number.ensures.value) c.clock_of_number.ensures.value
