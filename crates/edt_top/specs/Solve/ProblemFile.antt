-- The problem file of `solve`: its words, what form each has to have, and its first faulty word.
use Rattle.std.specs.Prelude.{ℕ, ◌+◌, ◌-◌, ◌*◌, ◌/◌, ◌%◌, min, Bool, ◌==◌, ◌&&◌, nat_lt, nat_le, if◌then◌else◌, List, [], length, drop, slice_index, slice_get, Option, Some, None, ℤ, pos, neg_ℤ, ◌-ℤ◌, codes, unsigned_abs, unwrap_or}
use Rattle.std.specs.Str.{bytes_eq}
use Rattle.node_boxes.specs.declared.limits.TheConstants.{GREATEST_TIME, MOST_ON_AXIS}
use Rattle.text_terms.specs.Numerals.{is_numeral, value_of}
use Rattle.text_terms.specs.Faults.{HasNoFault, IsFirstFault}
use Rattle.edt_top.specs.declared.solve.problem_word.ProblemCause.{ProblemCause}
use Rattle.edt_top.specs.declared.solve.problem_word.ProblemCause.TheVariants.{Form, Limit}

-- a file's list of words
abbrev pub Words : Type 0
Words = List (List ℕ)

-- a whole number is 1 to 19 digits
abbrev pub is_number : List ℕ → Bool
is_number word = is_numeral word && nat_le (length word) 19

-- a word begins with a minus
abbrev pub has_minus : List ℕ → Bool
has_minus word = slice_index word 0 == 45

-- a word without the minus that it may begin with
abbrev pub without_minus : List ℕ → List ℕ
without_minus word = if has_minus word then drop 1 word else word

-- the number that a word of digits writes, where a minus may stand first
abbrev pub signed_of : List ℕ → ℤ
signed_of word = if has_minus word then neg_ℤ (pos (value_of (drop 1 word))) else pos (value_of word)

-- the word at a place, from 0, and no bytes where there is none
abbrev pub word_at : Words → ℕ → List ℕ
word_at words k = unwrap_or (slice_get words k) []

-- the number at a place
abbrev pub number_at : Words → ℕ → ℕ
number_at words k = value_of (word_at words k)

-- the number at a place, where a minus may stand first
abbrev pub signed_at : Words → ℕ → ℤ
signed_at words k = signed_of (word_at words k)

-- the nodes of the file's grid
abbrev pub nodes_in : Words → ℕ
nodes_in words = number_at words 2 * number_at words 3 * number_at words 4

-- the picks of the file
abbrev pub picks_in : Words → ℕ
picks_in words = number_at words 5

-- the place of the first travel time, after the three words of each pick
abbrev pub first_time : Words → ℕ
first_time words = 6 + 3 * picks_in words

-- the place after the last travel time
abbrev pub words_wanted : Words → ℕ
words_wanted words = first_time words + picks_in words * nodes_in words

-- what a word has to be: this text, a whole number of a range, an observed time beside that of the first pick, or no word at all
pub data WordForm : Type 0 where
  Fixed : List ℕ → WordForm
  Whole : ℕ → ℕ → WordForm
  Observed : ℤ → WordForm
  Nothing : WordForm

-- the three words of a pick: its observed time in microseconds, its weight in thousandths, its variance in square microseconds
abbrev pub pick_form : ℤ → ℕ → WordForm
pick_form first part = if part == 0 then Observed first else if part == 1 then Whole 1 2000 else Whole 0 20000000000000000

-- the greatest number whose product with another one is within a limit
abbrev pub most_within : ℕ → ℕ → ℕ
most_within limit other = limit / other

-- what the word at a place has to be, by the numbers that stand before it; a product that passes its limit is out of the range of the word that completes it
abbrev pub form_at : Words → ℕ → WordForm
form_at words k =
    if k == 0 then Fixed (codes "EDTPROBLEM")
    else if k == 1 then Fixed (codes "1")
    else if nat_lt k 4 then Whole 1 MOST_ON_AXIS
    else if k == 4 then Whole 1 (min MOST_ON_AXIS (most_within 65536 (number_at words 2 * number_at words 3)))
    else if k == 5 then Whole 2 (min 256 (most_within 1000000 (nodes_in words)))
    else if nat_lt k (first_time words) then pick_form (signed_at words 6) ((k - 6) % 3)
    else if nat_lt k (words_wanted words) then Whole 0 GREATEST_TIME
    else Nothing

-- an observed time is at most 10^12 microseconds in size, and at most 1,100,000,000,000 from the first pick's
abbrev pub is_observed : ℤ → ℤ → Bool
is_observed first o = nat_le (unsigned_abs o) 1000000000000 && nat_le (unsigned_abs (o -ℤ first)) 1100000000000

-- why a word, or its absence, isn't of the form: `Form` first, then `Limit`
abbrev pub fault_in : WordForm → Option (List ℕ) → Option ProblemCause
fault_in (Fixed text) None = Some Form
fault_in (Fixed text) (Some word) = if bytes_eq word text then None else Some Form
fault_in (Whole low high) None = Some Form
fault_in (Whole low high) (Some word) =
    if is_number word then if nat_le low (value_of word) && nat_le (value_of word) high then None else Some Limit else Some Form
fault_in (Observed first) None = Some Form
fault_in (Observed first) (Some word) =
    if is_number (without_minus word) then if is_observed first (signed_of word) then None else Some Limit else Some Form
fault_in Nothing None = None
fault_in Nothing (Some word) = Some Form

-- why the word at a place is faulty
abbrev pub fault_at : Words → ℕ → Option ProblemCause
fault_at words k = fault_in (form_at words k) (slice_get words k)

-- the words are those of a problem file
abbrev pub IsProblemFile : Words → Type 0
IsProblemFile words = HasNoFault (fault_at words) (length words)

-- the word at a place, from 0, is the first faulty one
abbrev pub IsFirstFaultyWord : Words → ℕ → ProblemCause → Type 0
IsFirstFaultyWord words place cause = IsFirstFault (fault_at words) (length words) place cause
