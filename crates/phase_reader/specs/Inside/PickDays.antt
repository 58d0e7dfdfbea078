-- The day that a number yyyymmdd names.
use Rattle.std.specs.Prelude.{ℕ, ◌≤◌, ℤ, pos, unsigned_abs}
use Rattle.phase_reader.specs.declared.values.CivilDay.{CivilDay}
use Rattle.phase_reader.specs.PickFields.{year_of, month_of, day_of, day_number}

-- year, month and day, and the day number
abbrev pub civil_day : ℕ → CivilDay
civil_day n = record { date = (pos (year_of n), pos (month_of n), pos (day_of n)); number = day_number n }

-- a day number whose time in microseconds is at most 3*10^17 in size, as those of the years 1000 to 9998 are
abbrev pub IsPickDay : ℤ → Type 0
IsPickDay day = unsigned_abs day ≤ 2932896
