use Rattle.std.proofs.Common.{rules, ◌≡◌, ◌<◌, FitsSigned, w16, w64, pos, unsigned_abs, arith, ap, ◌∙◌, sym}
use Rattle.std.proofs.lemmas.Int.{ints, to_z-of_z}
use Rattle.jiff_core.specs.Calendar.{days_from_civil}
use Rattle.location_report.proofs.DateLaws.{jiff_date, jiff_year, natural}
use Rattle.location_report.proofs.dates.era_date.Goals as goal

pub returns-clause-date : goal.returns-clause-date
returns-clause-date c =
    let fits : FitsSigned w64 c.from.result = search rules in
    let given : FitsSigned w64 c.args.day = search rules in
    let small : FitsSigned w16 c.in-Ok.date.year = omega (arith, ints, c.in-Ok.date.year_in.0, c.in-Ok.date.year_in.1) in
    let year : c.from.result ≡ c.in-Ok.date.year = simp to_z-of_z at c.from.ensures in
    let below : unsigned_abs c.args.day < 146097 = omega (arith, ints, c.requires.low.le, c.requires.high.lt) in
    let number : days_from_civil c.in-Ok.date.year c.in-Ok.date.month c.in-Ok.date.day ≡ pos (unsigned_abs c.args.day) =
    (simp to_z-of_z at c.in-Ok.ensures.value) ∙ natural c.args.day c.requires.low in
    simp to_z-of_z (
    ap (λ y. record { year = y; month = c.in-Ok.date.month; day = c.in-Ok.date.day }) year
    ∙ sym (jiff_date (unsigned_abs c.args.day) c.in-Ok.date number below))

pub returns-clause-year : goal.returns-clause-year
returns-clause-year c =
    let fits : FitsSigned w64 c.from.result = search rules in
    let given : FitsSigned w64 c.args.day = search rules in
    let small : FitsSigned w16 c.in-Ok.date.year = omega (arith, ints, c.in-Ok.date.year_in.0, c.in-Ok.date.year_in.1) in
    let year : c.from.result ≡ c.in-Ok.date.year = simp to_z-of_z at c.from.ensures in
    let below : unsigned_abs c.args.day < 146097 = omega (arith, ints, c.requires.low.le, c.requires.high.lt) in
    let number : days_from_civil c.in-Ok.date.year c.in-Ok.date.month c.in-Ok.date.day ≡ pos (unsigned_abs c.args.day) =
    (simp to_z-of_z at c.in-Ok.ensures.value) ∙ natural c.args.day c.requires.low in
    simp to_z-of_z (rw year (jiff_year (unsigned_abs c.args.day) c.in-Ok.date number below))
