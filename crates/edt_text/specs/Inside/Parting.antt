-- The bytes that part words, in one line or over all lines.
use Rattle.std.specs.Prelude.{ℕ, Bool, true, false}
use Rattle.text_terms.specs.Words.{is_blank, parts_file}

-- line feeds part words only where words are read over all lines
abbrev pub parting : Bool → ℕ → Bool
parting true = parts_file
parting false = is_blank
