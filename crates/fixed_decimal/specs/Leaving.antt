-- The first place where a text leaves the form of a decimal.
use Rattle.std.specs.Prelude.{◌≡◌, ℕ, ◌+◌, ◌<◌, ◌≤◌, true, false, List, ◌++◌, length, take}
use Rattle.fixed_decimal.specs.Form.{has_form}

-- some text that begins with these bytes has the form
abbrev pub CanBegin : List ℕ → Type 0
CanBegin bytes = (rest : List ℕ) × (has_form (bytes ++ rest) ≡ true)

-- the text leaves the form at this place: some text of the form begins with the bytes before it, but none with these and the byte
-- there; and where the place is the length, the text is cut short
pub record LeavesFormAt (text : List ℕ) (place : ℕ) : Type 0 where
  pub within : place ≤ length text
  pub before : CanBegin (take place text)
  pub here : place < length text → CanBegin (take (place + 1) text) → ⊥
  pub short : place ≡ length text → has_form text ≡ false
