-- The block that the lines of a certificate tell.
use Rattle.std.specs.Prelude.{ℕ, ◌+◌, List, [], length, take, drop, map, Option, Some, None, slice_get, slice_index}
use Rattle.text_terms.specs.Lines.{LineText}
use Rattle.node_boxes.specs.declared.node_box.BoxBound.{BoxBound}
use Rattle.cover_certificate.specs.declared.kind.Kind.{Kind}
use Rattle.cover_certificate.specs.declared.kind.Kind.TheVariants.{Located, NoFit, Few, Many, Budget, NearLimit}
use Rattle.cover_certificate.specs.declared.line_form.LineForm.{LineForm}
use Rattle.cover_certificate.specs.declared.line_form.LineForm.TheVariants.{Best, Near, Entry, Cover, Area}
use Rattle.cover_certificate.specs.Blocks.{BlockValue, LocatedValue, IsLocated, FitsNowhere, HasFew, HasMany, PassesBudget, PassesNearLimit}
use Rattle.cover_certificate.specs.LineFaults.{numbers_in}
use Rattle.cover_certificate.specs.BlockFaults.{count_in, kind_told}

-- the numbers of a line that may be missing
abbrev pub numbers_at : LineForm → Option LineText → List ℕ
numbers_at form None = []
numbers_at form (Some line) = numbers_in form line.bytes

-- the items of a counted list
abbrev pub items_in : LineForm → LineForm → List LineText → List (List ℕ)
items_in count item lines = map (λ (line : LineText). numbers_in item line.bytes) (take (count_in count (slice_get lines 0)) (drop 1 lines))

-- a near node, of its numbers
abbrev pub entry_of : List ℕ → ℕ × ℕ
entry_of numbers = (slice_index numbers 0, slice_index numbers 1)

-- a box, of its numbers
abbrev pub box_of : List ℕ → BoxBound
box_of n = record {
  area = record { x0 = slice_index n 0; x1 = slice_index n 1; y0 = slice_index n 2; y1 = slice_index n 3; z0 = slice_index n 4; z1 = slice_index n 5 };
  bound = slice_index n 6;
}

-- the near nodes that lines tell
abbrev pub near_in : List LineText → List (ℕ × ℕ)
near_in lines = map entry_of (items_in Near Entry lines)

-- the boxes that lines tell
abbrev pub boxes_in : List LineText → List BoxBound
boxes_in lines = map box_of (items_in Cover Area lines)

-- the located event that lines tell
abbrev pub located_in : List LineText → LocatedValue
located_in lines = record {
  hyp = slice_index (numbers_at Best (slice_get lines 0)) 0;
  score = slice_index (numbers_at Best (slice_get lines 0)) 1;
  near = near_in (drop 1 lines);
  boxes = boxes_in (drop (1 + length (near_in (drop 1 lines))) (drop 1 lines));
}

-- the block of a kind that the lines after the first tell
abbrev pub body_in : Option Kind → List LineText → BlockValue
body_in (Some Located) lines = IsLocated (located_in lines)
body_in (Some NoFit) lines = FitsNowhere (boxes_in lines)
body_in (Some Few) lines = HasFew
body_in (Some Many) lines = HasMany
body_in (Some Budget) lines = PassesBudget
body_in (Some NearLimit) lines = PassesNearLimit
body_in None lines = HasFew

-- the block that the lines of a certificate tell
unfoldable pub block_in : List LineText → BlockValue
block_in lines = body_in (kind_told (slice_get lines 0)) (drop 1 lines)
