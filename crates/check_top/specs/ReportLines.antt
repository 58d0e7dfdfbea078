-- The lines of a report that aren't those of a certificate.
use Rattle.std.specs.Prelude.{ℕ, ◌==◌, ◌&&◌, ◌||◌, ◌^◌, Bool, true, false, not, nat_lt, if◌then◌else◌, List, [], ◌∷◌, length, take, get_or, Option, Some, None, codes}
use Rattle.std.specs.Option.{option_or}
use Rattle.std.specs.Str.{bytes_eq}
use Rattle.text_terms.specs.Faults.{unless}
use Rattle.text_terms.specs.Lines.{LineText}
use Rattle.edt_text.specs.Reading.{reading_of}
use Rattle.cover_certificate.specs.LineFaults.{number_of}
use Rattle.cover_certificate.specs.LineWords.{parts, is_plain}
use Rattle.check_top.specs.declared.report.fault.ReportCause.{ReportCause}
use Rattle.check_top.specs.declared.report.fault.ReportCause.TheVariants.{Form, Number, Events}

-- the words of the first line, with no bytes in the place of a number
abbrev pub head_form : List (List ℕ)
head_form = codes "EDTLOC" ∷ codes "1" ∷ codes "EVENTS" ∷ [] ∷ codes "PASSED" ∷ [] ∷ [] ∷ []

-- those of the first line of an event
abbrev pub event_form : List (List ℕ)
event_form = codes "EVENT" ∷ [] ∷ codes "PICKS" ∷ [] ∷ codes "SKIPPED" ∷ [] ∷ []

-- a word has its form: it is the fixed word, or any word in the place of a number
abbrev pub has_form : List ℕ → List ℕ → Bool
has_form form word = if length form == 0 then is_plain word else bytes_eq word form

-- there is a number, and it has 32 bits
abbrev pub is_small : Option ℕ → Bool
is_small None = false
is_small (Some number) = nat_lt number (2 ^ 32)

-- a word in the place of a number is one of 32 bits
abbrev pub is_number : List ℕ → List ℕ → Bool
is_number form word = not (length form == 0) || is_small (reading_of word)

-- as many words as forms, of which each passes the test
abbrev pub each_fits : (List ℕ → List ℕ → Bool) → List (List ℕ) → List (List ℕ) → Bool
each_fits fits [] [] = true
each_fits fits [] (word ∷ words) = false
each_fits fits (form ∷ forms) [] = false
each_fits fits (form ∷ forms) (word ∷ words) = fits form word && each_fits fits forms words

-- the first cause of words
unfoldable pub words_cause : List (List ℕ) → List (List ℕ) → Option ReportCause
words_cause forms words =
    if each_fits has_form forms words then unless (each_fits is_number forms words) Number else Some Form

-- the first cause of a line of words: that it is missing, or that no line feed ends it, comes first
abbrev pub line_cause : List (List ℕ) → Option LineText → Option ReportCause
line_cause forms None = Some Form
line_cause forms (Some line) = if line.ended then words_cause forms (parts line.bytes) else Some Form

-- the number in a place of a line
abbrev pub number_at : ℕ → Option LineText → ℕ
number_at place None = 0
number_at place (Some line) = number_of (get_or (parts line.bytes) place [])

-- the first cause of the first line of a report on so many events
unfoldable pub head_cause : ℕ → Option LineText → Option ReportCause
head_cause events line = option_or (line_cause head_form line) (unless (number_at 3 line == events) Events)

-- the first cause of the first line of the event of a number
unfoldable pub event_cause : ℕ → Option LineText → Option ReportCause
event_cause number line = option_or (line_cause event_form line) (unless (number_at 1 line == number) Form)

-- a line begins a certificate
abbrev pub begins_certificate : LineText → Bool
begins_certificate line = bytes_eq (take 5 line.bytes) (codes "CERT ")
