-- What the words of a pick mean.
use Rattle.std.specs.Prelude.{ℕ, ◌+◌, ◌*◌, ◌/◌, ◌%◌, ◌==◌, ◌&&◌, nat_le, nat_lt, Bool, false, if◌then◌else◌, ℤ, pos, negsuc, ◌+ℤ◌, ◌*ℤ◌, List, length, slice_get, Option, Some, None, unwrap_or}
use Rattle.std.specs.Int.{int_div_euclid}
use Rattle.std.specs.Str.{all_ascii_digits}
use Rattle.jiff_core.specs.Calendar.{days_in_month, days_from_civil}
use Rattle.text_terms.specs.Lines.{NumberedLine}
use Rattle.text_terms.specs.Numerals.{value_of}
use Rattle.text_terms.specs.Words.{words_of, word_at}
use Rattle.fixed_decimal.specs.Value.{millionths_of}
use Rattle.phase_reader.specs.declared.phases.Pick.{Pick}

-- the number that a word of so many digits writes
abbrev pub digits_of : ℕ → List ℕ → Option ℕ
digits_of count word = if length word == count && all_ascii_digits word then Some (value_of word) else None

-- the year, the month and the day of a number yyyymmdd
abbrev pub year_of : ℕ → ℕ
year_of n = n / 10000

abbrev pub month_of : ℕ → ℕ
month_of n = n / 100 % 100

abbrev pub day_of : ℕ → ℕ
day_of n = n % 100

-- a number yyyymmdd of a day of the Gregorian calendar in the years 1000 to 9998
abbrev pub is_date : ℕ → Bool
is_date n =
    nat_le 1000 (year_of n) && nat_le (year_of n) 9998
    && nat_le 1 (month_of n) && nat_le (month_of n) 12
    && nat_le 1 (day_of n) && nat_le (day_of n) (days_in_month (pos (year_of n)) (month_of n))

-- a number hhmm from 0000 to 2359
abbrev pub is_clock : ℕ → Bool
is_clock n = nat_le (n / 100) 23 && nat_le (n % 100) 59

-- 0 or more millionths, and fewer than those of 1000
abbrev pub is_seconds : ℤ → Bool
is_seconds (pos n) = nat_lt n 1000000000
is_seconds (negsuc n) = false

-- the value, where it passes the test
abbrev pub if_passes : (ℕ → Bool) → Option ℕ → Option ℕ
if_passes test None = None
if_passes test (Some n) = if test n then Some n else None

-- the number yyyymmdd of a word that is a date
unfoldable pub date_of : List ℕ → Option ℕ
date_of word = if_passes is_date (digits_of 8 word)

-- the number hhmm of a word that is an hour and a minute
unfoldable pub clock_of : List ℕ → Option ℕ
clock_of word = if_passes is_clock (digits_of 4 word)

-- the day number of a number yyyymmdd: that of the proleptic Gregorian calendar, 0 for 1 January 1970
unfoldable pub day_number : ℕ → ℤ
day_number n = days_from_civil (pos (year_of n)) (month_of n) (day_of n)

-- the microseconds of a day up to a number hhmm
abbrev pub clock_microseconds : ℕ → ℕ
clock_microseconds n = n / 100 * 3600000000 + n % 100 * 60000000

-- year, month and day of a line's words
unfoldable pub civil_of : List (List ℕ) → ℤ × ℤ × ℤ
civil_of words =
    let date : ℕ = unwrap_or (date_of (word_at 6 words)) 0 in
    (pos (year_of date), pos (month_of date), pos (day_of date))

-- the time that a line's words write, in microseconds from the start of 1 January 1970
unfoldable pub time_of : List (List ℕ) → ℤ
time_of words =
    (day_number (unwrap_or (date_of (word_at 6 words)) 0) *ℤ pos 86400000000)
    +ℤ pos (clock_microseconds (unwrap_or (clock_of (word_at 7 words)) 0))
    +ℤ unwrap_or (millionths_of (word_at 8 words)) (pos 0)

-- the weight in thousandths, cut downwards, or 1000 where no word is given
unfoldable pub weight_of : Option (List ℕ) → ℤ
weight_of None = pos 1000
weight_of (Some word) = int_div_euclid (unwrap_or (millionths_of word) (pos 0)) (pos 1000)

-- the pick that words of a line of this number mean
unfoldable pub pick_of_words : ℕ → List (List ℕ) → Pick
pick_of_words number words =
    record {
      line = number;
      station = word_at 0 words;
      phase = word_at 4 words;
      day = civil_of words;
      time = time_of words;
      error = unwrap_or (millionths_of (word_at 10 words)) (pos 0);
      weight = weight_of (slice_get words 14);
    }

-- the pick that a line means
abbrev pub pick_of : NumberedLine → Pick
pick_of line = pick_of_words line.0 (words_of line.1)
