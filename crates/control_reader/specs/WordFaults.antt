-- The first fault in the words after a keyword.
use Rattle.std.specs.Prelude.{ℕ, ◌*◌, ◌==◌, ◌&&◌, ◌||◌, ◌^◌, Bool, true, not, nat_le, nat_lt, if◌then◌else◌, List, [], ◌∷◌, length, Option, Some, None, ℤ, pos, int_le, unsigned_abs, codes}
use Rattle.std.specs.List.{list_all, list_any}
use Rattle.std.specs.Str.{bytes_eq}
use Rattle.text_terms.specs.Faults.{first_cause, unless}
use Rattle.text_terms.specs.Names.{is_name}
use Rattle.fixed_decimal.specs.Value.{millionths_of, whole_of}
use Rattle.control_reader.specs.declared.fault.ControlCause.{ControlCause}
use Rattle.control_reader.specs.declared.fault.ControlCause.TheVariants.{Fields, Name, Number, Method, FileType, Limit}
use Rattle.control_reader.specs.declared.statement.Statement.{Statement}
use Rattle.control_reader.specs.declared.statement.Statement.TheVariants.{Locfiles, Locgrid, Locmeth, Locgau, Locsearch, Locphaseid, Locexclude, Locdelay, Localias, Control, Include, Edtnear, Edtbudget, Edtkernel, Edtlanes, Locgau2}
use Rattle.text_terms.specs.Words.{word_at}
use Rattle.node_boxes.specs.declared.limits.TheConstants.{FARTHEST_ORIGIN, MOST_NODES, MOST_ON_AXIS, WIDEST_SPACING}
use Rattle.control_reader.specs.Words.{count_at}
use Rattle.control_reader.specs.Values.{has_word}
use Rattle.control_reader.specs.Keywords.{least_of}

-- a word is a name of at most so many bytes
abbrev pub name_fault : ℕ → List ℕ → Option ControlCause
name_fault most word = unless (is_name most word) Name

-- a number has a reading, and it passes the test of its range
abbrev pub number_fault : (ℤ → Bool) → Option ℤ → Option ControlCause
number_fault test None = Some Number
number_fault test (Some n) = unless (test n) Limit

-- a word is a whole number that passes the test
abbrev pub whole_fault : (ℤ → Bool) → List ℕ → Option ControlCause
whole_fault test word = number_fault test (whole_of word)

-- a word is a decimal whose millionths pass the test
abbrev pub decimal_fault : (ℤ → Bool) → List ℕ → Option ControlCause
decimal_fault test word = number_fault test (millionths_of word)

-- a fault of a word that may be absent
abbrev pub optional : ℕ → List (List ℕ) → (List ℕ → Option ControlCause) → Option ControlCause
optional k words fault = if has_word k words then fault (word_at k words) else None

-- any number
abbrev pub any : ℤ → Bool
any n = true

-- from one number to another
abbrev pub from_to : ℤ → ℤ → ℤ → Bool
from_to low high n = int_le low n && int_le n high

-- at most so great
abbrev pub at_most : ℤ → ℤ → Bool
at_most high n = int_le n high

-- at most so far from 0
abbrev pub in_size : ℕ → ℤ → Bool
in_size most n = nat_le (unsigned_abs n) most

-- a byte that would make a pattern of a file's name: *, ? or [
abbrev pub is_wildcard : ℕ → Bool
is_wildcard b = b == 42 || b == 63 || b == 91

-- LOCFILES: a file of phases without wildcards, of the type NLLOC_OBS, and a root of file names; iSwapBytes is 0 or 1
unfoldable pub files_fault : List (List ℕ) → Option ControlCause
files_fault words =
    first_cause (
    unless (is_name 255 (word_at 0 words) && not (list_any is_wildcard (word_at 0 words))) Name
    ∷ unless (bytes_eq (word_at 1 words) (codes "NLLOC_OBS")) FileType
    ∷ name_fault 255 (word_at 2 words)
    ∷ optional 4 words (whole_fault (from_to (pos 0) (pos 1)))
    ∷ [])

-- LOCGRID: 1 to 4096 nodes on an axis
abbrev pub axis_fault : List ℕ → Option ControlCause
axis_fault word = whole_fault (from_to (pos 1) (pos MOST_ON_AXIS)) word

-- an origin of at most 10^10 mm in size
abbrev pub origin_fault : List ℕ → Option ControlCause
origin_fault word = decimal_fault (in_size FARTHEST_ORIGIN) word

-- a spacing of 1 to 10^9 mm
abbrev pub spacing_fault : List ℕ → Option ControlCause
spacing_fault word = decimal_fault (from_to (pos 1) (pos WIDEST_SPACING)) word

-- three counts, together at most 2,000,000 nodes, three origins and three spacings
unfoldable pub frame_fault : List (List ℕ) → Option ControlCause
frame_fault words =
    first_cause (
    axis_fault (word_at 0 words)
    ∷ axis_fault (word_at 1 words)
    ∷ axis_fault (word_at 2 words)
    ∷ unless (nat_le (count_at 0 words * count_at 1 words * count_at 2 words) MOST_NODES) Limit
    ∷ origin_fault (word_at 3 words)
    ∷ origin_fault (word_at 4 words)
    ∷ origin_fault (word_at 5 words)
    ∷ spacing_fault (word_at 6 words)
    ∷ spacing_fault (word_at 7 words)
    ∷ spacing_fault (word_at 8 words)
    ∷ [])

-- LOCMETH: a distance of at most 10^12 mm in size
abbrev pub distance_fault : List ℕ → Option ControlCause
distance_fault word = decimal_fault (in_size (10 ^ 12)) word

-- the method EDT, a distance, three whole numbers and a ratio of at most 10; then a distance and a whole number, which may be absent
unfoldable pub method_fault : List (List ℕ) → Option ControlCause
method_fault words =
    first_cause (
    unless (bytes_eq (word_at 0 words) (codes "EDT")) Method
    ∷ distance_fault (word_at 1 words)
    ∷ whole_fault any (word_at 2 words)
    ∷ whole_fault any (word_at 3 words)
    ∷ whole_fault any (word_at 4 words)
    ∷ decimal_fault (at_most (pos 10000000)) (word_at 5 words)
    ∷ optional 7 words distance_fault
    ∷ optional 8 words (whole_fault any)
    ∷ [])

-- LOCGAU: 0 to 100 seconds
unfoldable pub sigma_fault : List (List ℕ) → Option ControlCause
sigma_fault words = decimal_fault (from_to (pos 0) (pos (10 ^ 8))) (word_at 0 words)

-- LOCSEARCH: after OCT three whole numbers
abbrev pub octree_fault : List (List ℕ) → Option ControlCause
octree_fault words =
    first_cause (
    unless (nat_le 4 (length words)) Fields
    ∷ whole_fault any (word_at 1 words)
    ∷ whole_fault any (word_at 2 words)
    ∷ whole_fault any (word_at 3 words)
    ∷ [])

-- OCT, or GRID or MET, whose words aren't read
unfoldable pub cells_fault : List (List ℕ) → Option ControlCause
cells_fault words =
    if bytes_eq (word_at 0 words) (codes "OCT") then octree_fault words
    else unless (bytes_eq (word_at 0 words) (codes "GRID") || bytes_eq (word_at 0 words) (codes "MET")) FileType

-- LOCPHASEID: each word is a phase
unfoldable pub phase_ids_fault : List (List ℕ) → Option ControlCause
phase_ids_fault words = unless (list_all (is_name 64) words) Name

-- LOCEXCLUDE: a station and a phase
unfoldable pub exclude_fault : List (List ℕ) → Option ControlCause
exclude_fault words = first_cause (name_fault 64 (word_at 0 words) ∷ name_fault 64 (word_at 1 words) ∷ [])

-- LOCDELAY: a station, a phase, a whole number and a delay of at most 10^10 microseconds in size
unfoldable pub delay_fault : List (List ℕ) → Option ControlCause
delay_fault words =
    first_cause (
    name_fault 64 (word_at 0 words)
    ∷ name_fault 64 (word_at 1 words)
    ∷ whole_fault any (word_at 2 words)
    ∷ decimal_fault (in_size (10 ^ 10)) (word_at 3 words)
    ∷ [])

-- LOCALIAS: two stations and six whole numbers
unfoldable pub alias_fault : List (List ℕ) → Option ControlCause
alias_fault words =
    first_cause (
    name_fault 64 (word_at 0 words)
    ∷ name_fault 64 (word_at 1 words)
    ∷ whole_fault any (word_at 2 words)
    ∷ whole_fault any (word_at 3 words)
    ∷ whole_fault any (word_at 4 words)
    ∷ whole_fault any (word_at 5 words)
    ∷ whole_fault any (word_at 6 words)
    ∷ whole_fault any (word_at 7 words)
    ∷ [])

-- CONTROL: two whole numbers
unfoldable pub seed_fault : List (List ℕ) → Option ControlCause
seed_fault words = first_cause (whole_fault any (word_at 0 words) ∷ whole_fault any (word_at 1 words) ∷ [])

-- INCLUDE: a file
unfoldable pub include_fault : List (List ℕ) → Option ControlCause
include_fault words = name_fault 255 (word_at 0 words)

-- EDTNEAR: 0 to 999 thousandths
unfoldable pub margin_fault : List (List ℕ) → Option ControlCause
margin_fault words = whole_fault (from_to (pos 0) (pos 999)) (word_at 0 words)

-- EDTBUDGET: 1 to 4,000,000 boxes
unfoldable pub budget_fault : List (List ℕ) → Option ControlCause
budget_fault words = whole_fault (from_to (pos 1) (pos 4000000)) (word_at 0 words)

-- EDTLANES: 1 to 64 lanes
unfoldable pub lanes_fault : List (List ℕ) → Option ControlCause
lanes_fault words = whole_fault (from_to (pos 1) (pos 64)) (word_at 0 words)

-- EDTKERNEL: after COUNT a decimal of 0 to 1000 seconds
abbrev pub limit_fault : List (List ℕ) → Option ControlCause
limit_fault words =
    first_cause (
    unless (nat_le 2 (length words)) Fields
    ∷ decimal_fault (from_to (pos 0) (pos (10 ^ 9))) (word_at 1 words)
    ∷ [])

-- COUNT, or GAUSS or TRIANGLE, after which no word is read
unfoldable pub shape_fault : List (List ℕ) → Option ControlCause
shape_fault words =
    if bytes_eq (word_at 0 words) (codes "COUNT") then limit_fault words
    else unless (bytes_eq (word_at 0 words) (codes "GAUSS") || bytes_eq (word_at 0 words) (codes "TRIANGLE")) FileType

-- the first fault in the words of a statement that has enough of them
abbrev pub fault_in_words : Statement → List (List ℕ) → Option ControlCause
fault_in_words Locfiles words = files_fault words
fault_in_words Locgrid words = frame_fault words
fault_in_words Locmeth words = method_fault words
fault_in_words Locgau words = sigma_fault words
fault_in_words Locsearch words = cells_fault words
fault_in_words Locphaseid words = phase_ids_fault words
fault_in_words Locexclude words = exclude_fault words
fault_in_words Locdelay words = delay_fault words
fault_in_words Localias words = alias_fault words
fault_in_words Control words = seed_fault words
fault_in_words Include words = include_fault words
fault_in_words Edtnear words = margin_fault words
fault_in_words Edtbudget words = budget_fault words
fault_in_words Edtkernel words = shape_fault words
fault_in_words Edtlanes words = lanes_fault words
fault_in_words Locgau2 words = None

-- the first fault in the words of a statement: too few, and then the words from left to right
abbrev pub words_fault : Statement → List (List ℕ) → Option ControlCause
words_fault statement words =
    if nat_lt (length words) (least_of statement) then Some Fields else fault_in_words statement words
