-- The date that jiff finds for a day is the one of the definition.
use Rattle.std.proofs.Common.{◌≡◌, ℕ, ◌+◌, ◌-◌, ◌<◌, ◌≤◌, true, false, ℤ, pos, negsuc, ◌<ℤ◌, ◌≤ℤ◌, unsigned_abs, refl, sym, ◌∙◌, ap, arith}
use Rattle.std.specs.Prelude.{int_lt, nat_lt}
use Rattle.std.proofs.lemmas.Grind.{common_steps}
use Rattle.std.proofs.lemmas.Int.{ints, by_lt_z}
use Rattle.jiff_core.specs.Calendar.{IsCivilDate, day_count, day_of_year, days_from_civil, days_in_month, days_of_months}
use Rattle.jiff_core.specs.declared.civil.date.Date.{Date}
use Rattle.jiff_core.proofs.CalendarLemmas.{day_count-day_of_year, day_count-epoch, day_count-later_year, day_count-lt_year, day_count-next_year, day_of_year_bound, days_from_civil-day_count, days_of_months_mono, days_of_months_more}
use Rattle.jiff_core.proofs.MarchLemmas.{day_count-early}
use Rattle.origin_time.proofs.Functions.{find_first}
use Rattle.location_report.specs.Dates.{days_before, era_date, month_of, year_of}

-- a year of the first 400 from 1970 on
record IsEraDate (day n m d : ℕ) : Type 0 where
  civil : IsCivilDate (pos n) m d
  number : days_from_civil (pos n) m d ≡ pos day
  below : day < 146097

-- its days from the start of the calendar's count
counted : (day n m d : ℕ) → IsEraDate day n m d → day_count (pos n) m d ≡ day + 4371953
counted day n m d e = let number = e.number in omega (arith, ints, number, days_from_civil-day_count (pos n) m d)

first_counted : (n : ℕ) → day_count (pos n) 1 1 ≤ 10000000 → 4371953 ≤ day_count (pos n) 1 1
    → days_from_civil (pos n) 1 1 ≡ pos (day_count (pos n) 1 1 - 4371953)
first_counted n small large = omega (arith, ints, small, large, days_from_civil-day_count (pos n) 1 1)

-- it is one of the 400 years
last_year : day_count (pos 2369) 1 1 ≡ 4517685
last_year = day_count-early (pos 2369) 12368 1 1 refl (omega arith) (omega arith) (omega arith)

not_before : (day n m d : ℕ) → IsEraDate day n m d → 1970 ≤ n
not_before day n m d e = by_lt_z (pos n) (pos 1970)
    (λ early. absurd (let before = day_count-lt_year (pos n) m d (pos 1970) 1 1 e.civil (omega arith) early in omega (arith, before, counted day n m d e, day_count-epoch)))
    (λ late. omega (arith, ints, late))

not_after : (day n m d : ℕ) → IsEraDate day n m d → n < 2370
not_after day n m d e = by_lt_z (pos 2369) (pos n)
    (λ late. absurd (
    let later = day_count-later_year (pos 2369) (pos n) (omega (arith, ints)) late in
    let within = day_count-day_of_year (pos n) m d e.civil.2.0 in
    let below = e.below in
    omega (arith, later, within, below, counted day n m d e, last_year)))
    (λ early. omega (arith, ints, early))

-- a year begins not after a day of it, and ends after it
year_begins : (day n m d : ℕ) → IsEraDate day n m d → day_count (pos n) 1 1 ≤ day + 4371953
year_begins day n m d e =
    let within = day_count-day_of_year (pos n) m d e.civil.2.0 in
    let first = e.civil.2.0 in
    omega (arith, within, first, counted day n m d e)

year_ends : (day n m d : ℕ) → IsEraDate day n m d → day + 4371953 < day_count (pos (n + 1)) 1 1
year_ends day n m d e =
    let within = day_count-day_of_year (pos n) m d e.civil.2.0 in
    let bound = day_of_year_bound (pos n) m d e.civil in
    let next = day_count-next_year (pos n) (pos (n + 1)) (omega (arith, ints)) (omega (arith, ints)) in
    omega (arith, within, bound, next, counted day n m d e)

-- an earlier year has ended before it begins
earlier_ends : (k n : ℕ) → k < n → day_count (pos (k + 1)) 1 1 ≤ day_count (pos n) 1 1
earlier_ends k n less =
    let next = day_count-next_year (pos k) (pos (k + 1)) (omega (arith, ints)) (omega (arith, ints)) in
    let later = day_count-later_year (pos k) (pos n) (omega (arith, ints)) (omega (arith, ints, less)) in
    omega (arith, next, later)

-- a day number beside the first of a year
ends_after : (day y : ℕ) → day + 4371953 < day_count (pos y) 1 1 → int_lt (pos day) (days_from_civil (pos y) 1 1) ≡ true
ends_after day y less =
    let number : pos day <ℤ days_from_civil (pos y) 1 1 = omega (arith, ints, less, days_from_civil-day_count (pos y) 1 1) in
    grind (arith, ints, common_steps)

ends_before : (day y : ℕ) → day_count (pos y) 1 1 ≤ day + 4371953 → int_lt (pos day) (days_from_civil (pos y) 1 1) ≡ false
ends_before day y reached =
    let number : days_from_civil (pos y) 1 1 ≤ℤ pos day = omega (arith, ints, reached, days_from_civil-day_count (pos y) 1 1) in
    grind (arith, ints, common_steps)

-- the year that is found
year_is : (day n m d : ℕ) → IsEraDate day n m d → year_of day ≡ n
year_is day n m d e =
    let begins = year_begins day n m d e in
    let first = find_first (λ year. int_lt (pos day) (days_from_civil (pos (year + 1)) 1 1)) 400 1970 n (not_before day n m d e)
    (omega (arith, not_after day n m d e)) (ends_after day (n + 1) (year_ends day n m d e))
    (λ k above below. ends_before day (k + 1) (omega (arith, begins, earlier_ends k n below))) in
    rw first refl

-- the days of the year before it
days_are : (day n m d : ℕ) → IsEraDate day n m d → days_before n day + 1 ≡ day_of_year (pos n) m d
days_are day n m d e =
    let within = day_count-day_of_year (pos n) m d e.civil.2.0 in
    let begins = year_begins day n m d e in
    omega (arith, ints, within, begins, counted day n m d e, days_from_civil-day_count (pos n) 1 1)

-- the month that is found
month_is : (n m d days : ℕ) → IsCivilDate (pos n) m d → days + 1 ≡ day_of_year (pos n) m d → month_of n days ≡ m
month_is n m d days civil is =
    let low : 1 ≤ m = civil.1.0 in
    let high : m ≤ 12 = civil.1.1 in
    let first_day : 1 ≤ d = civil.2.0 in
    let last_day : d ≤ days_in_month (pos n) m = civil.2.1 in
    let ends : days < days_of_months (pos n) m = omega (arith, is, last_day, days_of_months_more (pos n) m low) in
    let passes : nat_lt days (days_of_months (pos n) m) ≡ true = grind (arith, common_steps) in
    let first = find_first (λ month. nat_lt days (days_of_months (pos n) month)) 12 1 m low (omega (arith, high)) passes
    (λ k above below.
    let reached : days_of_months (pos n) k ≤ days = omega (arith, is, first_day, days_of_months_mono (pos n) k (m - 1) (omega (arith, below))) in
    grind (arith, common_steps)) in
    rw first refl

-- the date that is found
pub date_is : (day n m d : ℕ) → IsCivilDate (pos n) m d → days_from_civil (pos n) m d ≡ pos day → day < 146097
    → era_date day ≡ record { year = pos n; month = m; day = d }
unfolding era_date
date_is day n m d civil number below =
    let e : IsEraDate day n m d = record { civil = civil; number = number; below = below } in
    let days = days_are day n m d e in
    let first_day : 1 ≤ d = civil.2.0 in
    let at : days_before n day - days_of_months (pos n) (m - 1) + 1 ≡ d = omega (arith, days, first_day) in
    rw (year_is day n m d e, month_is n m d (days_before n day) civil days, at) refl

-- the year of a date that jiff finds
pub natural : (z : ℤ) → pos 0 ≤ℤ z → z ≡ pos (unsigned_abs z)
natural (pos n) low = refl
natural (negsuc n) low = absurd (omega (arith, ints, low))

year_natural : (day : ℕ) (date : Date) → days_from_civil date.year date.month date.day ≡ pos day → pos 0 ≤ℤ date.year
year_natural day date number = by_lt_z date.year (pos 1970)
    (λ early. absurd (
    let before = day_count-lt_year date.year date.month date.day (pos 1970) 1 1 (date.year_in, date.month_in, date.day_in) (omega arith) early in
    omega (arith, ints, before, number, days_from_civil-day_count date.year date.month date.day, day_count-epoch)))
    (λ late. omega (arith, ints, late))

-- the date of jiff
pub jiff_date : (day : ℕ) (date : Date) → days_from_civil date.year date.month date.day ≡ pos day → day < 146097
    → era_date day ≡ record { year = date.year; month = date.month; day = date.day }
jiff_date day date number below =
    let is : date.year ≡ pos (unsigned_abs date.year) = natural date.year (year_natural day date number) in
    let civil : IsCivilDate date.year date.month date.day = (date.year_in, date.month_in, date.day_in) in
    date_is day (unsigned_abs date.year) date.month date.day (rw is at civil) (rw is at number) below
    ∙ ap (λ (y : ℤ). record { year = y; month = date.month; day = date.day }) (sym is)

-- its year
pub jiff_year : (day : ℕ) (date : Date) → days_from_civil date.year date.month date.day ≡ pos day → day < 146097
    → unsigned_abs date.year ≤ 2369
jiff_year day date number below =
    let is : date.year ≡ pos (unsigned_abs date.year) = natural date.year (year_natural day date number) in
    let civil : IsCivilDate date.year date.month date.day = (date.year_in, date.month_in, date.day_in) in
    let e : IsEraDate day (unsigned_abs date.year) date.month date.day = record { civil = rw is at civil; number = rw is at number; below = below } in
    omega (arith, not_after day (unsigned_abs date.year) date.month date.day e)
