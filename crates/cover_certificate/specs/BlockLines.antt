-- The lines of a block, and its text.
use Rattle.std.specs.Prelude.{ℕ, true, ◌++◌, ◌<◌, ◌^◌, ◌≡◌, List, [], ◌∷◌, length, map, codes, decimal}
use Rattle.std.specs.List.{flat_map, join_with_byte, list_all}
use Rattle.text_terms.specs.Lines.{LineText}
use Rattle.node_boxes.specs.declared.node_box.BoxBound.{BoxBound}
use Rattle.cover_certificate.specs.declared.kind.Kind.{Kind}
use Rattle.cover_certificate.specs.declared.kind.Kind.TheVariants.{Located, NoFit, Few, Many, Budget, NearLimit}
use Rattle.cover_certificate.specs.declared.line_form.LineForm.{LineForm}
use Rattle.cover_certificate.specs.declared.line_form.LineForm.TheVariants.{Best, Near, Entry, Cover, Area}
use Rattle.cover_certificate.specs.Blocks.{BlockValue, LocatedValue, IsLocated, FitsNowhere, HasFew, HasMany, PassesBudget, PassesNearLimit}
use Rattle.cover_certificate.specs.Kinds.{first_bytes}
use Rattle.cover_certificate.specs.LineForms.{head_of, slots_of, are_allowed}

-- a line that a line feed ends
abbrev pub ended_line : List ℕ → LineText
ended_line bytes = record { bytes = bytes; ended = true }

-- the shortest decimals of numbers, with one blank between each two
abbrev pub spaced : List ℕ → List ℕ
spaced numbers = join_with_byte 32 (map decimal numbers)

-- a line of numbers
unfoldable pub numbers_line : LineForm → List ℕ → LineText
numbers_line form numbers = ended_line (head_of form ++ spaced numbers)

-- the numbers of a near node
abbrev pub entry_numbers : ℕ × ℕ → List ℕ
entry_numbers entry = entry.0 ∷ entry.1 ∷ []

-- the numbers of a box: its ends on the three axes, and its bound
abbrev pub box_numbers : BoxBound → List ℕ
box_numbers b = b.area.x0 ∷ b.area.x1 ∷ b.area.y0 ∷ b.area.y1 ∷ b.area.z0 ∷ b.area.z1 ∷ b.bound ∷ []

-- a line with a count, and a line of numbers for each item that is counted
abbrev pub counted_lines : LineForm → LineForm → List (List ℕ) → List LineText
counted_lines count item items = numbers_line count (length items ∷ []) ∷ map (numbers_line item) items

-- the lines of near nodes
abbrev pub near_lines : List (ℕ × ℕ) → List LineText
near_lines near = counted_lines Near Entry (map entry_numbers near)

-- the lines of a cover
abbrev pub cover_lines : List BoxBound → List LineText
cover_lines boxes = counted_lines Cover Area (map box_numbers boxes)

-- the lines of a located event
abbrev pub located_lines : LocatedValue → List LineText
located_lines event =
    numbers_line Best (event.hyp ∷ event.score ∷ []) ∷ (near_lines event.near ++ cover_lines event.boxes)

-- the kind of a block
abbrev pub kind_of_block : BlockValue → Kind
kind_of_block (IsLocated event) = Located
kind_of_block (FitsNowhere boxes) = NoFit
kind_of_block HasFew = Few
kind_of_block HasMany = Many
kind_of_block PassesBudget = Budget
kind_of_block PassesNearLimit = NearLimit

-- the lines of a block between the first and the last
abbrev pub body_lines : BlockValue → List LineText
body_lines (IsLocated event) = located_lines event
body_lines (FitsNowhere boxes) = cover_lines boxes
body_lines HasFew = []
body_lines HasMany = []
body_lines PassesBudget = []
body_lines PassesNearLimit = []

-- the lines of a block
abbrev pub block_lines : BlockValue → List LineText
block_lines block =
    ended_line (first_bytes (kind_of_block block)) ∷ (body_lines block ++ ended_line (codes "END") ∷ [])

-- the text of lines that line feeds end
abbrev pub text_of_lines : List LineText → List ℕ
text_of_lines lines = flat_map (λ (line : LineText). line.bytes ++ 10 ∷ []) lines

-- the text of a block
unfoldable pub block_text : BlockValue → List ℕ
block_text block = text_of_lines (block_lines block)

-- the numbers of near nodes are within their types
abbrev pub AreTypedNear : List (ℕ × ℕ) → Type 0
AreTypedNear near = list_all (are_allowed (slots_of Entry)) (map entry_numbers near) ≡ true

-- the numbers of boxes are within their types
abbrev pub AreTypedBoxes : List BoxBound → Type 0
AreTypedBoxes boxes = list_all (are_allowed (slots_of Area)) (map box_numbers boxes) ≡ true

-- the numbers of a located event are within their types
pub record IsTypedLocated (event : LocatedValue) : Type 0 where
  pub hyp : event.hyp < 2 ^ 32
  pub score : event.score < 2 ^ 64
  pub near : AreTypedNear event.near
  pub boxes : AreTypedBoxes event.boxes

-- the numbers of a block are within their types: nodes and ends of 32 bits, scores and bounds of 64
abbrev pub IsTypedBlock : BlockValue → Type 0
IsTypedBlock (IsLocated event) = IsTypedLocated event
IsTypedBlock (FitsNowhere boxes) = AreTypedBoxes boxes
IsTypedBlock HasFew = Unit {0}
IsTypedBlock HasMany = Unit {0}
IsTypedBlock PassesBudget = Unit {0}
IsTypedBlock PassesNearLimit = Unit {0}
