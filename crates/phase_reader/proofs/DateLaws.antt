-- What the words of a pick mean, where they mean something.
use Rattle.std.proofs.Common.{◌≡◌, ℕ, zero, suc, ◌+◌, ◌*◌, ◌-ℤ◌, ◌<◌, ◌≤◌, true, List, Option, Some, None, ℤ, pos, to_z, w8, w16, inl, inr, refl, ◌∙◌, arith}
use Rattle.std.specs.Prelude.{nat_le, ◌&&◌, if◌then◌else◌}
use Rattle.std.specs.Option.{option_map}
use Rattle.std.specs.Int.{int_div_euclid}
use Rattle.std.proofs.lemmas.Grind.{common_steps}
use Rattle.std.proofs.lemmas.Int.{ints}
use Rattle.jiff_core.specs.Calendar.{IsDate, IsEpochDay, is_leap_year, days_in_month, days_in_year, days_of_years, day_count, days_from_civil}
use Rattle.jiff_core.proofs.CalendarLemmas.{days_from_civil-day_count}
use Rattle.jiff_core.specs.Date.{IsYmd}
use Rattle.jiff_core.specs.declared.civil.date.Date.{Date}
use Rattle.text_terms.proofs.Cases.{by_bool}
use Rattle.fixed_decimal.specs.Value.{millionths_of}
use Rattle.phase_reader.specs.PickFields.{digits_of, year_of, month_of, day_of, is_date, is_clock, date_of, clock_of, clock_microseconds, weight_of, day_number}
use Rattle.phase_reader.specs.Inside.PickDays.{civil_day, IsPickDay}
use Rattle.phase_reader.specs.declared.values.CivilDay.{CivilDay}

-- a word that is no number is no date and no clock
pub date_none : (word : List ℕ) → digits_of 8 word ≡ None → date_of word ≡ None
unfolding date_of
date_none word e = rw e refl

pub clock_none : (word : List ℕ) → digits_of 4 word ≡ None → clock_of word ≡ None
unfolding clock_of
clock_none word e = rw e refl

-- a number decides
pub date_number : (word : List ℕ) (n : ℕ) (o : Option CivilDay) → digits_of 8 word ≡ Some n
    → o ≡ (if is_date n then Some (civil_day n) else None) → o ≡ option_map civil_day (date_of word)
unfolding date_of
date_number word n o e is = elim (by_bool (is_date n)) [
  | inl yes_n ↦ rw (e, yes_n) (is ∙ rw yes_n refl)
  | inr not_n ↦ rw (e, not_n) (is ∙ rw not_n refl)
]

pub clock_number : (word : List ℕ) (n : ℕ) (o : Option ℕ) → digits_of 4 word ≡ Some n
    → o ≡ (if is_clock n then Some (clock_microseconds n) else None) → o ≡ option_map clock_microseconds (clock_of word)
unfolding clock_of
clock_number word n o e is = elim (by_bool (is_clock n)) [
  | inl yes_n ↦ rw (e, yes_n) (is ∙ rw yes_n refl)
  | inr not_n ↦ rw (e, not_n) (is ∙ rw not_n refl)
]

-- tests that all pass
date_by_parts : (n : ℕ) → (nat_le 1000 (year_of n) && nat_le (year_of n) 9998) ≡ true → 1 ≤ month_of n → month_of n ≤ 12 → 1 ≤ day_of n
    → day_of n ≤ days_in_month (pos (year_of n)) (month_of n) → is_date n ≡ true
date_by_parts n years first last begins ends = grind (arith, common_steps)

-- small numbers as signed ones
small16 : (n : ℕ) → n < 32768 → to_z w16 n ≡ pos n
small16 n less = omega (arith, ints)

small8 : (n : ℕ) → n < 128 → to_z w8 n ≡ pos n
small8 n less = omega (arith, ints)

-- a day of the calendar in these years is a date
date_is : (n : ℕ) → (nat_le 1000 (year_of n) && nat_le (year_of n) 9998) ≡ true → IsDate (pos (year_of n)) (pos (month_of n)) (pos (day_of n)) → is_date n ≡ true
date_is n years date =
    let first : 1 ≤ month_of n = omega (arith, ints, date.1.0) in
    let last : month_of n ≤ 12 = omega (arith, ints, date.1.1) in
    let begins : 1 ≤ day_of n = omega (arith, ints, date.2.0) in
    let ends : day_of n ≤ days_in_month (pos (year_of n)) (month_of n) = omega (arith, ints, date.2.1) in
    date_by_parts n years first last begins ends

-- the day that the calendar finds for a number
pub date_found : (n year month day : ℕ) (y m d number : ℤ) (date : Date) → year ≡ year_of n → month ≡ month_of n → day ≡ day_of n
    → (nat_le 1000 (year_of n) && nat_le (year_of n) 9998) ≡ true
    → IsDate (to_z w16 year) (to_z w8 month) (to_z w8 day) → IsYmd (to_z w16 year) (to_z w8 month) (to_z w8 day) date
    → y ≡ pos year → m ≡ pos month → d ≡ pos day → number ≡ days_from_civil date.year date.month date.day
    → Some (record { date = (y, m, d); number = number }) ≡ (if is_date n then Some (civil_day n) else None)
unfolding day_number
date_found n year month day y m d number date ey em ed years is ymd ey' em' ed' count =
    let most : year_of n ≤ 9998 = grind (arith, common_steps) in
    let by_year : to_z w16 year ≡ pos (year_of n) = rw ey (small16 (year_of n) (omega arith)) in
    let by_month : to_z w8 month ≡ pos (month_of n) = rw em (small8 (month_of n) (omega arith)) in
    let by_day : to_z w8 day ≡ pos (day_of n) = rw ed (small8 (day_of n) (omega arith)) in
    let found : IsDate (pos (year_of n)) (pos (month_of n)) (pos (day_of n)) = rw (by_year, by_month, by_day) at is in
    let at_year : date.year ≡ pos (year_of n) = ymd.0 ∙ by_year in
    let at_month : date.month ≡ month_of n = omega (arith, ints, ymd.1, by_month) in
    let at_day : date.day ≡ day_of n = omega (arith, ints, ymd.2, by_day) in
    let counted : number ≡ days_from_civil (pos (year_of n)) (month_of n) (day_of n) = rw (at_year, at_month, at_day) at count in
    rw (date_is n years found, ey', em', ed', ey, em, ed, counted) refl

-- the weight that a word means
pub weight_some : (word : List ℕ) (m : ℤ) → millionths_of word ≡ Some m → int_div_euclid m (pos 1000) ≡ weight_of (Some word)
unfolding weight_of
weight_some word m e = rw e refl

-- a year has at least 365 days
year_days : (y : ℤ) → 365 ≤ days_in_year y
year_days y = elim (by_bool (is_leap_year y)) [
  | inl leap ↦ rw leap (omega arith)
  | inr common ↦ rw common (omega arith)
]

years_days : (n : ℕ) → 365 * n ≤ days_of_years n
unfolding days_of_years
years_days zero = omega arith
years_days (suc n) = omega (arith, years_days n, year_days (pos n -ℤ pos 10000))

-- a day of the years from 1000 on that the library has
counted_days : (y m d : ℕ) → 365 * (y + 10000) ≤ day_count (pos y) m d
unfolding day_count
counted_days y m d = omega (arith, years_days (y + 10000))

pub pick_day : (y m d : ℕ) → 1000 ≤ y → IsEpochDay (days_from_civil (pos y) m d) → IsPickDay (days_from_civil (pos y) m d)
pick_day y m d from is = omega (arith, ints, is.0, is.1, days_from_civil-day_count (pos y) m d, counted_days y m d)

-- the day number that the calendar finds for a number
pub day_found : (n year : ℕ) (number : ℤ) (date : Date) → year ≡ year_of n → (nat_le 1000 (year_of n) && nat_le (year_of n) 9998) ≡ true
    → date.year ≡ to_z w16 year → number ≡ days_from_civil date.year date.month date.day → IsEpochDay number → IsPickDay number
day_found n year number date ey years named count is =
    let least : 1000 ≤ year_of n = grind (arith, common_steps) in
    let most : year_of n ≤ 9998 = grind (arith, common_steps) in
    let at_year : date.year ≡ pos (year_of n) = named ∙ rw ey (small16 (year_of n) (omega arith)) in
    let counted : number ≡ days_from_civil (pos (year_of n)) date.month date.day = rw at_year at count in
    rw counted (pick_day (year_of n) date.month date.day least (rw counted at is))
