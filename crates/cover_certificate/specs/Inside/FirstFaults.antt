-- The first of the lines that isn't what it has to be.
use Rattle.std.specs.Prelude.{ℕ, suc, Bool, ◌&&◌, codes, List, [], ◌∷◌, drop, slice_get, Option, Some, None}
use Rattle.std.specs.Str.{bytes_eq}
use Rattle.text_terms.specs.Lines.{LineText}
use Rattle.cover_certificate.specs.declared.block.BlockCause.{BlockCause}
use Rattle.cover_certificate.specs.LineForms.{Wanted}
use Rattle.cover_certificate.specs.LineFaults.{fault_in}

-- a fault with its number, else what comes later
abbrev pub or_later : Option BlockCause → ℕ → Option (ℕ × BlockCause) → Option (ℕ × BlockCause)
or_later None number later = later
or_later (Some cause) number later = Some (number, cause)

-- the number and the cause of the first line that isn't what it has to be, where the first line has this number
abbrev pub first_fault : List Wanted → List LineText → ℕ → Option (ℕ × BlockCause)
first_fault [] lines number = None
first_fault (wanted ∷ more) lines number =
    or_later (fault_in wanted (slice_get lines 0)) number (first_fault more (drop 1 lines) (suc number))

-- the line ends a certificate
abbrev pub is_last : LineText → Bool
is_last line = line.ended && bytes_eq line.bytes (codes "END")
