use Rattle.std.proofs.Common.{sym, ◌∙◌, ap}
use Rattle.std.specs.Option.{option_map}
use Rattle.phase_reader.specs.Inside.PickDays.{civil_day}
use Rattle.phase_reader.proofs.DateLaws.{date_none, date_number}
use Rattle.phase_reader.proofs.values.read_date.Goals as goal

pub returns-in_err-number-clause-day : goal.returns-in_err-number-clause-day
returns-in_err-number-clause-day c =
    c.from_residual.ensures ∙ sym (ap (option_map civil_day) (date_none c.args.word.now (sym c.in_err-number.ensures.value)))

pub returns-clause-day : goal.returns-clause-day
returns-clause-day c =
    date_number c.args.word.now c.in_ok-number.number c.day_of_number.result (sym c.in_ok-number.ensures.value) c.day_of_number.ensures.day
