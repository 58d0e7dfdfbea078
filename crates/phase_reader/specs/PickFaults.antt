-- The first fault of a pick's words.
use Rattle.std.specs.Prelude.{ℕ, Bool, true, nat_le, if◌then◌else◌, is_some, ℤ, List, [], ◌∷◌, length, slice_get, Option, Some, None, codes}
use Rattle.std.specs.Str.{bytes_eq}
use Rattle.text_terms.specs.Faults.{unless, first_cause}
use Rattle.text_terms.specs.Lines.{NumberedLine}
use Rattle.text_terms.specs.Names.{is_name}
use Rattle.text_terms.specs.Words.{words_of, word_at}
use Rattle.fixed_decimal.specs.Value.{millionths_of}
use Rattle.phase_reader.specs.declared.fault.PhaseCause.{PhaseCause}
use Rattle.phase_reader.specs.declared.fault.PhaseCause.TheVariants.{Fields, Name, Date, Time, Number, ErrorType}
use Rattle.phase_reader.specs.PickFields.{date_of, clock_of, is_seconds}

-- seconds are a decimal, and from 0 to below 1000
abbrev pub seconds_fault : Option ℤ → Option PhaseCause
seconds_fault None = Some Number
seconds_fault (Some seconds) = unless (is_seconds seconds) Time

-- a weight is absent or a decimal
abbrev pub is_weight : Option (List ℕ) → Bool
is_weight None = true
is_weight (Some word) = is_some (millionths_of word)

-- the first fault of the date, the clock and the seconds
unfoldable pub time_fault : List (List ℕ) → Option PhaseCause
time_fault words =
    first_cause (
    unless (is_some (date_of (word_at 6 words))) Date
    ∷ unless (is_some (clock_of (word_at 7 words))) Time
    ∷ seconds_fault (millionths_of (word_at 8 words))
    ∷ [])

-- the first fault of the words that are read, from left to right: station, phase, time, error type, error and weight
unfoldable pub words_fault : List (List ℕ) → Option PhaseCause
words_fault words =
    first_cause (
    unless (is_name 64 (word_at 0 words)) Name
    ∷ unless (is_name 64 (word_at 4 words)) Name
    ∷ time_fault words
    ∷ unless (bytes_eq (word_at 9 words) (codes "GAU")) ErrorType
    ∷ unless (is_some (millionths_of (word_at 10 words))) Number
    ∷ unless (is_weight (slice_get words 14)) Number
    ∷ [])

-- the first fault of a pick's line: too few words, and then the words themselves
abbrev pub pick_fault : NumberedLine → Option PhaseCause
pick_fault line =
    if nat_le 11 (length (words_of line.1)) then words_fault (words_of line.1) else Some Fields
