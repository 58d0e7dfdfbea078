use Rattle.std.proofs.Common.{rules, ◌≡◌, FitsSigned, w64, pos, ◌*ℤ◌, ◌+ℤ◌, unsigned_abs, ap, ◌∙◌}
use Rattle.std.specs.Int.{int_div_euclid, int_rem_euclid}
use Rattle.std.proofs.lemmas.Int.{to_z-of_z}
use Rattle.location_report.specs.Dates.{era_date, years_later}
use Rattle.location_report.proofs.dates.date_of_day.Goals as goal

pub returns : goal.returns
returns c =
    let given : FitsSigned w64 c.args.day = search rules in
    let f1 : FitsSigned w64 c.div_euclid.result = search rules in
    let f2 : FitsSigned w64 (c.div_euclid.result *ℤ pos 400) = search rules in
    let f3 : FitsSigned w64 c.era_date-date.result.year = search rules in
    let f4 : FitsSigned w64 (c.era_date-date.result.year +ℤ c.div_euclid.result *ℤ pos 400) = search rules in
    let quotient : c.div_euclid.result ≡ int_div_euclid c.args.day (pos 146097) = simp to_z-of_z at c.div_euclid.ensures in
    let rest : c.rem_euclid.result ≡ int_rem_euclid c.args.day (pos 146097) = simp to_z-of_z at c.rem_euclid.ensures.value in
    let f0 : FitsSigned w64 c.rem_euclid.result = search rules in
    let date = simp to_z-of_z at c.era_date-date.ensures.date in
    simp to_z-of_z (
    ap (years_later c.div_euclid.result) date
    ∙ ap (λ q. years_later q (era_date (unsigned_abs c.rem_euclid.result))) quotient
    ∙ ap (λ r. years_later (int_div_euclid c.args.day (pos 146097)) (era_date (unsigned_abs r))) rest)
