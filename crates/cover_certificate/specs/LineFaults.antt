-- The first cause why a line isn't what it has to be.
use Rattle.std.specs.Prelude.{ℕ, Bool, true, false, ◌&&◌, nat_le, if◌then◌else◌, List, [], ◌∷◌, length, take, drop, map, Option, Some, None, is_some, unwrap_or, codes}
use Rattle.std.specs.Str.{bytes_eq}
use Rattle.text_terms.specs.Lines.{LineText}
use Rattle.edt_text.specs.Reading.{reading_of}
use Rattle.cover_certificate.specs.declared.block.BlockCause.{BlockCause}
use Rattle.cover_certificate.specs.declared.block.BlockCause.TheVariants.{Form, Number, Limit}
use Rattle.cover_certificate.specs.declared.line_form.LineForm.{LineForm}
use Rattle.cover_certificate.specs.declared.line_form.Slot.{Slot}
use Rattle.cover_certificate.specs.Kinds.{kind_of}
use Rattle.cover_certificate.specs.LineForms.{Wanted, FirstLine, Numbered, LastLine, head_of, slots_of}
use Rattle.cover_certificate.specs.LineWords.{parts, is_plain}

-- the number that a word is, or 0
abbrev pub number_of : List ℕ → ℕ
number_of word = unwrap_or (reading_of word) 0

-- there is a number from the least to the most of the slot
abbrev pub is_between : Slot → Option ℕ → Bool
is_between slot None = false
is_between slot (Some number) = nat_le slot.least number && nat_le number slot.most

-- the word is a number from the least to the most of the slot
abbrev pub fits_number : Slot → List ℕ → Bool
fits_number slot word = is_between slot (reading_of word)

-- its number is within the limit of the slot
abbrev pub fits_limit : Slot → List ℕ → Bool
fits_limit slot word = nat_le (number_of word) slot.limit

-- as many words as slots, of which each passes the test
abbrev pub all_fit : (Slot → List ℕ → Bool) → List Slot → List (List ℕ) → Bool
all_fit fits [] [] = true
all_fit fits [] (word ∷ words) = false
all_fit fits (slot ∷ slots) [] = false
all_fit fits (slot ∷ slots) (word ∷ words) = fits slot word && all_fit fits slots words

-- the first cause of words that have their form
abbrev pub cause_of : Bool → Bool → Option BlockCause
cause_of are_numbers are_within = if are_numbers then (if are_within then None else Some Limit) else Some Number

-- the first cause of the words after the head of a line
unfoldable pub words_fault : List Slot → List (List ℕ) → Option BlockCause
words_fault slots words =
    if all_fit (λ slot. is_plain) slots words then cause_of (all_fit fits_number slots words) (all_fit fits_limit slots words)
    else Some Form

-- the bytes after the head of a line
abbrev pub after_head : LineForm → List ℕ → List ℕ
after_head form bytes = drop (length (head_of form)) bytes

-- the line begins with its head
abbrev pub has_head : LineForm → List ℕ → Bool
has_head form bytes = bytes_eq (take (length (head_of form)) bytes) (head_of form)

-- the numbers of the words after the head of a line
unfoldable pub numbers_in : LineForm → List ℕ → List ℕ
numbers_in form bytes = map number_of (parts (after_head form bytes))

-- the first cause of the bytes of a line
abbrev pub bytes_fault : Wanted → List ℕ → Option BlockCause
bytes_fault FirstLine bytes = if is_some (kind_of bytes) then None else Some Form
bytes_fault (Numbered form) bytes =
    if has_head form bytes then words_fault (slots_of form) (parts (after_head form bytes)) else Some Form
bytes_fault LastLine bytes = if bytes_eq bytes (codes "END") then None else Some Form

-- the first cause of a line: that no line feed ends it comes first
unfoldable pub line_fault : Wanted → LineText → Option BlockCause
line_fault wanted line = if line.ended then bytes_fault wanted line.bytes else Some Form

-- the first cause of a line that may be missing
abbrev pub fault_in : Wanted → Option LineText → Option BlockCause
fault_in wanted None = Some Form
fault_in wanted (Some line) = line_fault wanted line
