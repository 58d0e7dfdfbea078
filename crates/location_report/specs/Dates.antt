-- Times as dates of the proleptic Gregorian calendar and times of day.
use Rattle.std.specs.Prelude.{ℕ, suc, ◌+◌, ◌-◌, ◌/◌, ◌%◌, nat_lt, int_lt, List, ◌∷◌, ◌++◌, length, replicate, decimal, ℤ, pos, negsuc, ◌+ℤ◌, ◌-ℤ◌, ◌*ℤ◌, unsigned_abs, find, unwrap_or}
use Rattle.std.specs.Int.{int_div_euclid, int_rem_euclid}
use Rattle.std.specs.List.{range_with_len}
use Rattle.jiff_core.specs.Calendar.{days_from_civil, days_of_months}

-- the shortest decimal of a number, after as many zeros as it needs to have so many digits
abbrev pub padded : ℕ → ℕ → List ℕ
padded width n = replicate (width - length (decimal n)) 48 ++ decimal n

-- a number by sign and digits, at least four of them
abbrev pub year_text : ℤ → List ℕ
year_text (pos year) = padded 4 year
year_text (negsuc year) = 45 ∷ padded 4 (suc year)

-- the days from 1970-01-01 to the day of a time, which is given in microseconds: whole days, rounded down
abbrev pub day_of_time : ℤ → ℤ
day_of_time time = int_div_euclid time (pos 86400000000)

-- the microseconds of that day
abbrev pub clock_of_time : ℤ → ℕ
clock_of_time time = unsigned_abs (int_rem_euclid time (pos 86400000000))

-- the year of a day from 1970 on: the first of 400 years that ends after it
abbrev pub year_of : ℕ → ℕ
year_of day = unwrap_or (find (λ year. int_lt (pos day) (days_from_civil (pos (year + 1)) 1 1)) (range_with_len 1970 400)) 1970

-- the days of a year before a day of it
abbrev pub days_before : ℕ → ℕ → ℕ
days_before year day = unsigned_abs (pos day -ℤ days_from_civil (pos year) 1 1)

-- the month of a day of a year: the first that ends after it
abbrev pub month_of : ℕ → ℕ → ℕ
month_of year days = unwrap_or (find (λ month. nat_lt days (days_of_months (pos year) month)) (range_with_len 1 12)) 1

-- year, month and day of the month
pub record CivilDate : Type 0 where
  pub year : ℤ
  pub month : ℕ
  pub day : ℕ

-- the date of a day of the first 400 years from 1970 on
unfoldable pub era_date : ℕ → CivilDate
era_date day =
    let year : ℕ = year_of day in
    let days : ℕ = days_before year day in
    let month : ℕ = month_of year days in
    record { year = pos year; month = month; day = days - days_of_months (pos year) (month - 1) + 1 }

-- the date that lies so many times 400 years later
abbrev pub years_later : ℤ → CivilDate → CivilDate
years_later eras date = record { year = date.year +ℤ eras *ℤ pos 400; month = date.month; day = date.day }

-- the date of a day, counted from 1970-01-01 on or back: the calendar repeats itself every 400 years, which have 146,097 days
abbrev pub date_of_day : ℤ → CivilDate
date_of_day day =
    years_later (int_div_euclid day (pos 146097)) (era_date (unsigned_abs (int_rem_euclid day (pos 146097))))

-- a date as year, month and day with four, two and two digits
unfoldable pub civil_text : CivilDate → List ℕ
civil_text date = year_text date.year ++ 45 ∷ padded 2 date.month ++ 45 ∷ padded 2 date.day

-- the date of a time
abbrev pub date_text : ℤ → List ℕ
date_text time = civil_text (date_of_day (day_of_time time))

-- microseconds of a day as hours, minutes and seconds with two digits each, and six digits of a second
unfoldable pub day_clock_text : ℕ → List ℕ
day_clock_text clock =
    padded 2 (clock / 3600000000)
    ++ 58 ∷ padded 2 (clock / 60000000 % 60)
    ++ 58 ∷ padded 2 (clock / 1000000 % 60)
    ++ 46 ∷ padded 6 (clock % 1000000)

-- the time of day of a time
abbrev pub clock_text : ℤ → List ℕ
clock_text time = day_clock_text (clock_of_time time)
