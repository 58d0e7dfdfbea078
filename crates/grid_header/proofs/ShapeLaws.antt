-- Whether lines are those of a header, by their number.
use Rattle.std.proofs.Common.{◌≡◌, ℕ, ◌<◌, ◌≤◌, true, false, List, [], ◌∷◌, length, Option, Some, None, IfNone, ◌⊎◌, inl, inr, ◌∙◌, ap, arith}
use Rattle.std.specs.Prelude.{nat_le}
use Rattle.std.proofs.lemmas.Grind.{common_steps}
use Rattle.text_terms.specs.Lines.{LineText, lines_of}
use Rattle.text_terms.specs.Words.{words_of}
use Rattle.edt_text.specs.declared.limits.TheConstants.{LONGEST_LINE}
use Rattle.grid_header.specs.Layout.{are_header_lines, has_shape, grid_words, source_words, line_at}

-- what holds at all holds where there is nothing
pub if_none : {T P : Type 0} (o : Option T) → P → IfNone o P
if_none None p = p
if_none (Some x) p = tt

-- no line is too few
pub shape-no_line : (bytes : List ℕ) → lines_of bytes ≡ [] → has_shape bytes ≡ false
unfolding has_shape
shape-no_line bytes e = ap are_header_lines e

-- one line is too few
pub shape-one_line : (bytes : List ℕ) (line : LineText) → lines_of bytes ≡ line ∷ [] → has_shape bytes ≡ false
unfolding has_shape
shape-one_line bytes line e = ap are_header_lines e

-- two lines or more have their words
pub grid_words-first : (bytes : List ℕ) (first : LineText) (more : List LineText) → lines_of bytes ≡ first ∷ more
    → grid_words bytes ≡ words_of first.bytes
unfolding grid_words
grid_words-first bytes first more e = ap (λ lines. words_of (line_at 0 lines)) e

pub source_words-second : (bytes : List ℕ) (first second : LineText) (more : List LineText) → lines_of bytes ≡ first ∷ second ∷ more
    → source_words bytes ≡ words_of second.bytes
unfolding source_words
source_words-second bytes first second more e = ap (λ lines. words_of (line_at 1 lines)) e

-- their shape is that of the first two
pub shape-two_lines : (bytes : List ℕ) (first second : LineText) (more : List LineText) → lines_of bytes ≡ first ∷ second ∷ more
    → has_shape bytes ≡ are_header_lines (first ∷ second ∷ more)
unfolding has_shape
shape-two_lines bytes first second more e = ap are_header_lines e

-- what a cursor gave twice are the first two lines
pub two_given : (lines start more rest : List LineText) (first second : LineText) → start ≡ lines → start ≡ first ∷ more
    → more ≡ second ∷ rest → lines ≡ first ∷ second ∷ rest
two_given lines start more rest first second same one two = cc

-- a long line among the first two leaves no shape
pub shape-long : (bytes : List ℕ) (first second : LineText) (more : List LineText) → lines_of bytes ≡ first ∷ second ∷ more
    → (LONGEST_LINE < length first.bytes) ⊎ ((length first.bytes ≤ LONGEST_LINE) × (LONGEST_LINE < length second.bytes)) → has_shape bytes ≡ false
shape-long bytes first second more e long = elim long [
  | inl far ↦ shape-two_lines bytes first second more e ∙ grind (arith, common_steps)
  | inr far ↦ let over = far.1 in shape-two_lines bytes first second more e ∙ grind (arith, common_steps)
]

-- nor do too few words in one of them
pub shape-few : (bytes : List ℕ) (first second : LineText) (more : List LineText) → lines_of bytes ≡ first ∷ second ∷ more
    → (nat_le 10 (length (words_of first.bytes)) ≡ false) ⊎ (nat_le 4 (length (words_of second.bytes)) ≡ false) → has_shape bytes ≡ false
shape-few bytes first second more e few = elim few [
  | inl less ↦ shape-two_lines bytes first second more e ∙ grind (arith, common_steps)
  | inr less ↦ shape-two_lines bytes first second more e ∙ grind (arith, common_steps)
]

-- short lines with enough words have the shape
pub shape-whole : (bytes : List ℕ) (first second : LineText) (more : List LineText) → lines_of bytes ≡ first ∷ second ∷ more
    → length first.bytes ≤ LONGEST_LINE → length second.bytes ≤ LONGEST_LINE → nat_le 10 (length (words_of first.bytes)) ≡ true
    → nat_le 4 (length (words_of second.bytes)) ≡ true → has_shape bytes ≡ true
shape-whole bytes first second more e one two ten four = shape-two_lines bytes first second more e ∙ grind (arith, common_steps)
