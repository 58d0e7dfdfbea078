use Rattle.std.proofs.Common.{◌≡◌, ℤ, FitsSigned, w32, w64, rules, refl, ◌∙◌, ap}
use Rattle.std.proofs.lemmas.Int.{to_z-of_z}
use Rattle.jiff_core.specs.Calendar.{days_from_civil}
use Rattle.jiff_core.specs.declared.civil.date.Date.{Date}
use Rattle.jiff_core.proofs.DateLemmas.{epoch_day_range}
use Rattle.phase_reader.proofs.DateLaws.{date_found, day_found}
use Rattle.phase_reader.proofs.values.day_of_number.Goals as goal

pub returns-in-Ok-clause-day : goal.returns-in-Ok-clause-day
returns-in-Ok-clause-day c =
    let f1 : FitsSigned w64 c.from.result = search rules in
    let f2 : FitsSigned w64 c.from-in-Ok.result = search rules in
    let f3 : FitsSigned w64 c.from-in-Ok-2.result = search rules in
    let f4 : FitsSigned w64 c.from-in-Ok-3.result = search rules in
    let f5 : FitsSigned w32 c.to_unix_epoch_day.result = search rules in
    let counted = simp to_z-of_z at c.from-in-Ok-3.ensures in
    let days : ℤ = c.to_unix_epoch_day.result in
    let number : c.from-in-Ok-3.result ≡ days_from_civil c.in-Ok.date.year c.in-Ok.date.month c.in-Ok.date.day =
    counted ∙ c.to_unix_epoch_day.ensures.value ∙ ap (λ (d : Date). days_from_civil d.year d.month d.day) c.to_plain.ensures in
    simp to_z-of_z (
    date_found c.args.number _ _ _ c.from.result c.from-in-Ok.result c.from-in-Ok-2.result c.from-in-Ok-3.result c.in-Ok.date refl refl refl
    (search rules) (c.in-Ok.ensures.succeeds.0 refl) c.in-Ok.ensures.value c.from.ensures c.from-in-Ok.ensures c.from-in-Ok-2.ensures number)

pub returns-in-Ok-clause-bound : goal.returns-in-Ok-clause-bound
returns-in-Ok-clause-bound c =
    let f4 : FitsSigned w64 c.from-in-Ok-3.result = search rules in
    let f5 : FitsSigned w32 c.to_unix_epoch_day.result = search rules in
    let counted = simp to_z-of_z at c.from-in-Ok-3.ensures in
    let number : c.from-in-Ok-3.result ≡ days_from_civil c.in-Ok.date.year c.in-Ok.date.month c.in-Ok.date.day =
    counted ∙ c.to_unix_epoch_day.ensures.value ∙ ap (λ (d : Date). days_from_civil d.year d.month d.day) c.to_plain.ensures in
    simp to_z-of_z (day_found c.args.number _ c.from-in-Ok-3.result c.in-Ok.date refl (search rules) c.in-Ok.ensures.value.0 number (rw number (epoch_day_range c.in-Ok.date)))
