-- The reading of a header, and the limits that it is within.
use Rattle.std.specs.Prelude.{◌≡◌, ℕ, ◌*◌, ◌≤◌, List, None, unwrap_or, ℤ, pos, unsigned_abs}
use Rattle.text_terms.specs.Words.{word_at}
use Rattle.node_boxes.specs.declared.limits.TheConstants.{MOST_ON_AXIS}
use Rattle.fixed_decimal.specs.Value.{millionths_of, whole_of}
use Rattle.node_boxes.specs.Frame.{IsOrigin, IsSpacing}
use Rattle.grid_header.specs.declared.header.Header.{Header}
use Rattle.grid_header.specs.Causes.{cause_of}
use Rattle.grid_header.specs.Layout.{grid_words, source_words}

-- the decimal of a word in millionths, 0 where it has none
abbrev pub length_in : List ℕ → ℤ
length_in word = unwrap_or (millionths_of word) (pos 0)

-- the whole number of a word, 0 where it has none
abbrev pub count_in : List ℕ → ℕ
count_in word = unsigned_abs (unwrap_or (whole_of word) (pos 0))

-- what a header says: each field is the reading of its word
unfoldable pub header_of : List ℕ → Header
header_of bytes = record {
  x = count_in (word_at 0 (grid_words bytes));
  y = count_in (word_at 1 (grid_words bytes));
  z = count_in (word_at 2 (grid_words bytes));
  ox = length_in (word_at 3 (grid_words bytes));
  oy = length_in (word_at 4 (grid_words bytes));
  oz = length_in (word_at 5 (grid_words bytes));
  dx = length_in (word_at 6 (grid_words bytes));
  dy = length_in (word_at 7 (grid_words bytes));
  dz = length_in (word_at 8 (grid_words bytes));
  sx = length_in (word_at 1 (source_words bytes));
  sy = length_in (word_at 2 (source_words bytes));
  sz = length_in (word_at 3 (source_words bytes));
}

-- no cause holds of the header, and it is what the bytes say
pub record IsReading (bytes : List ℕ) (h : Header) : Type 0 where
  pub good : cause_of bytes ≡ None
  pub is : h ≡ header_of bytes

-- 1 to 4096 nodes on an axis
abbrev pub IsCount : ℕ → Type 0
IsCount n = (1 ≤ n) × (n ≤ MOST_ON_AXIS)

-- the counts, the origin, the spacings and the source's place are within their limits
pub record IsValidHeader (h : Header) : Type 0 where
  pub x : IsCount h.x
  pub y : IsCount h.y
  pub z : IsCount h.z
  pub nodes : h.x * h.y * h.z ≤ 16000000
  pub ox : IsOrigin h.ox
  pub oy : IsOrigin h.oy
  pub oz : IsOrigin h.oz
  pub dx : IsSpacing h.dx
  pub dy : IsSpacing h.dy
  pub dz : IsSpacing h.dz
  pub sx : IsOrigin h.sx
  pub sy : IsOrigin h.sy
  pub sz : IsOrigin h.sz
