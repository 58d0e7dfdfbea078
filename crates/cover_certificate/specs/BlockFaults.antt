-- The first faulty line of a certificate and its first cause.
use Rattle.std.specs.Prelude.{◌≡◌, ℕ, ◌+◌, List, [], ◌∷◌, ◌++◌, length, drop, replicate, slice_get, slice_index, Option, Some, None}
use Rattle.text_terms.specs.Faults.{IsFirstFault}
use Rattle.text_terms.specs.Lines.{LineText}
use Rattle.cover_certificate.specs.declared.block.BlockCause.{BlockCause}
use Rattle.cover_certificate.specs.declared.kind.Kind.{Kind}
use Rattle.cover_certificate.specs.declared.kind.Kind.TheVariants.{Located, NoFit, Few, Many, Budget, NearLimit}
use Rattle.cover_certificate.specs.declared.line_form.LineForm.{LineForm}
use Rattle.cover_certificate.specs.declared.line_form.LineForm.TheVariants.{Best, Near, Entry, Cover, Area}
use Rattle.cover_certificate.specs.Kinds.{kind_of}
use Rattle.cover_certificate.specs.LineForms.{Wanted, FirstLine, Numbered, LastLine}
use Rattle.cover_certificate.specs.LineFaults.{fault_in, numbers_in}

-- the number that the line of a count tells, or 0
abbrev pub count_in : LineForm → Option LineText → ℕ
count_in form None = 0
count_in form (Some line) = slice_index (numbers_in form line.bytes) 0

-- what the lines of a counted list have to be, by the count that the first of them tells
abbrev pub counted_wanted : LineForm → LineForm → List LineText → List Wanted
counted_wanted count item lines =
    Numbered count ∷ replicate (count_in count (slice_get lines 0)) (Numbered item)

-- what the lines of near nodes have to be
abbrev pub near_wanted : List LineText → List Wanted
near_wanted lines = counted_wanted Near Entry lines

-- what the lines of a cover have to be
abbrev pub cover_wanted : List LineText → List Wanted
cover_wanted lines = counted_wanted Cover Area lines

-- what the lines after those of the near nodes have to be
abbrev pub near_cover_wanted : List LineText → List Wanted
near_cover_wanted lines = near_wanted lines ++ cover_wanted (drop (length (near_wanted lines)) lines)

-- what the lines of a located event have to be
abbrev pub located_wanted : List LineText → List Wanted
located_wanted lines = Numbered Best ∷ near_cover_wanted (drop 1 lines)

-- the kind that the first line tells
abbrev pub kind_told : Option LineText → Option Kind
kind_told None = None
kind_told (Some line) = kind_of line.bytes

-- what the lines between the first and the last have to be
abbrev pub body_wanted : Option Kind → List LineText → List Wanted
body_wanted (Some Located) lines = located_wanted lines
body_wanted (Some NoFit) lines = cover_wanted lines
body_wanted (Some Few) lines = []
body_wanted (Some Many) lines = []
body_wanted (Some Budget) lines = []
body_wanted (Some NearLimit) lines = []
body_wanted None lines = []

-- what the lines of a certificate have to be, by the kind and the counts that they tell themselves
unfoldable pub wanted_of : List LineText → List Wanted
wanted_of lines = FirstLine ∷ (body_wanted (kind_told (slice_get lines 0)) (drop 1 lines) ++ LastLine ∷ [])

-- the first cause of a line, of which nothing is wanted after the certificate
abbrev pub fault_of : Option Wanted → Option LineText → Option BlockCause
fault_of None line = None
fault_of (Some wanted) line = fault_in wanted line

-- the first cause of the line at a place of a certificate
unfoldable pub fault_at : List LineText → ℕ → Option BlockCause
fault_at lines place = fault_of (slice_get (wanted_of lines) place) (slice_get lines place)

-- the line with this number, of a certificate that begins after so many lines, is its first faulty one, by this cause
pub record IsBlockFault (lines : List LineText) (passed number : ℕ) (cause : BlockCause) : Type 0 where
  pub place : ℕ
  pub number_is : number ≡ passed + place + 1
  pub first : IsFirstFault (fault_at lines) (length lines) place cause
