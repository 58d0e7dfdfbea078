use Rattle.std.proofs.Common.{FitsSigned, w64, rules, refl, sym, ◌∙◌, ap}
use Rattle.std.proofs.lemmas.Int.{to_z-of_z}
use Rattle.std.proofs.lemmas.Result.{err_from_is_err_and}
use Rattle.phase_reader.specs.declared.values.CivilDay.{CivilDay}
use Rattle.phase_reader.specs.PickFields.{date_of, clock_of, civil_of, clock_microseconds, time_of}
use Rattle.phase_reader.specs.PickFaults.{time_fault}
use Rattle.phase_reader.specs.Inside.PickDays.{civil_day}
use Rattle.phase_reader.proofs.PickSteps.{mapped_some, mapped_none}
use Rattle.phase_reader.proofs.values.read_time.Goals as goal

pub returns-in_default-clause-fault : goal.returns-in_default-clause-fault
unfolding time_fault
returns-in_default-clause-fault c =
    let none = mapped_none civil_day (date_of c.at.result.now) (sym c.in_default.is ∙ c.read_date.ensures.day) in
    rw (sym c.at.ensures, none) refl

pub returns-in_default-read_clock-clause-fault : goal.returns-in_default-read_clock-clause-fault
unfolding time_fault
returns-in_default-read_clock-clause-fault c =
    let date = mapped_some civil_day (date_of c.at.result.now) 0 c.in-Some.day c.in-Some.ensures.day in
    let none = mapped_none clock_microseconds (clock_of c.at-2.result.now) (sym c.in_default-read_clock.is ∙ c.read_clock.ensures.value) in
    rw (sym c.at.ensures, sym c.at-2.ensures, date.0, none) refl

pub returns-in_err-seconds-clause-fault : goal.returns-in_err-seconds-clause-fault
unfolding time_fault
returns-in_err-seconds-clause-fault c =
    let date = mapped_some civil_day (date_of c.at.result.now) 0 c.in-Some.day c.in-Some.ensures.day in
    let clock = mapped_some clock_microseconds (clock_of c.at-2.result.now) 0 c.in-Some-read_clock.clock c.in-Some-read_clock.ensures.value in
    let out = err_from_is_err_and c.from_residual.result c.from_residual.ensures.1 in
    rw (out.1, out.2) (rw (sym c.at.ensures, sym c.at-2.ensures, sym c.at-3.ensures, date.0, clock.0, c.in_err-seconds.ensures.fault) refl)

pub returns-clause-good : goal.returns-clause-good
unfolding time_fault
returns-clause-good c =
    let date = mapped_some civil_day (date_of c.at.result.now) 0 c.in-Some.day c.in-Some.ensures.day in
    let clock = mapped_some clock_microseconds (clock_of c.at-2.result.now) 0 c.in-Some-read_clock.clock c.in-Some-read_clock.ensures.value in
    rw (sym c.at.ensures, sym c.at-2.ensures, sym c.at-3.ensures, date.0, clock.0, c.in_ok-seconds.ensures.value, c.in_ok-seconds.ensures.good) refl

pub returns-clause-day : goal.returns-clause-day
unfolding civil_of
returns-clause-day c =
    let date = mapped_some civil_day (date_of c.at.result.now) 0 c.in-Some.day c.in-Some.ensures.day in
    rw (sym c.at.ensures, ap (λ (day : CivilDay). day.date) date.1) refl

pub returns-clause-time : goal.returns-clause-time
unfolding time_of
returns-clause-time c =
    let date = mapped_some civil_day (date_of c.at.result.now) 0 c.in-Some.day c.in-Some.ensures.day in
    let clock = mapped_some clock_microseconds (clock_of c.at-2.result.now) 0 c.in-Some-read_clock.clock c.in-Some-read_clock.ensures.value in
    let f1 : FitsSigned w64 c.time_at.result = search rules in
    let f2 : FitsSigned w64 c.in-Some.day.number = search rules in
    let f3 : FitsSigned w64 c.in_ok-seconds.seconds = search rules in
    let time = simp to_z-of_z at c.time_at.ensures.value in
    let number = ap (λ (day : CivilDay). day.number) date.1 in
    simp to_z-of_z (rw (sym c.at.ensures, sym c.at-2.ensures, sym c.at-3.ensures, time, number, clock.1, c.in_ok-seconds.ensures.value) refl)
