-- Blocks, with lists in place of vectors.
use Rattle.std.specs.Prelude.{ℕ, ◌≤◌, List, length}
use Rattle.node_boxes.specs.declared.node_box.BoxBound.{BoxBound}
use Rattle.cover_certificate.specs.declared.block.Block.{Block}
use Rattle.cover_certificate.specs.declared.block.LocatedBlock.{LocatedBlock}
use Rattle.cover_certificate.specs.declared.block.Block.TheVariants.{Located, NoFit, Few, Many, Budget, NearLimit}
use Rattle.cover_certificate.specs.declared.block.BlockView.{BlockView}
use Rattle.cover_certificate.specs.declared.block.LocatedView.{LocatedView}
use Rattle.cover_certificate.specs.declared.block.BlockView.TheVariants.{Located as located_view, NoFit as no_fit_view, Few as few_view, Many as many_view, Budget as budget_view, NearLimit as near_limit_view}
use Rattle.cover_certificate.specs.declared.block.TheConstants.{MOST_BOXES, MOST_NEAR}

-- a located event: the node of the hypocentre, its score, the near nodes with their scores, and the boxes of the cover
pub record LocatedValue : Type 0 where
  pub hyp : ℕ
  pub score : ℕ
  pub near : List (ℕ × ℕ)
  pub boxes : List BoxBound

-- what a certificate says of an event
pub data BlockValue : Type 0 where
  IsLocated : LocatedValue → BlockValue
  FitsNowhere : List BoxBound → BlockValue
  HasFew : BlockValue
  HasMany : BlockValue
  PassesBudget : BlockValue
  PassesNearLimit : BlockValue

-- the value of a located event
abbrev pub located_value : LocatedBlock → LocatedValue
located_value event =
    record { hyp = event.hyp; score = event.score; near = event.near.items; boxes = event.cover.items }

-- the value of a block
abbrev pub block_value : Block → BlockValue
block_value (Located event) = IsLocated (located_value event)
block_value (NoFit cover) = FitsNowhere cover.items
block_value Few = HasFew
block_value Many = HasMany
block_value Budget = PassesBudget
block_value NearLimit = PassesNearLimit

-- the value of a located event with borrowed lists
abbrev pub located_view_value : LocatedView → LocatedValue
located_view_value event =
    record { hyp = event.hyp; score = event.score; near = event.near.now; boxes = event.cover.now }

-- the value of a block with borrowed lists
abbrev pub view_value : BlockView → BlockValue
view_value (located_view event) = IsLocated (located_view_value event)
view_value (no_fit_view cover) = FitsNowhere cover.now
view_value few_view = HasFew
view_value many_view = HasMany
view_value budget_view = PassesBudget
view_value near_limit_view = PassesNearLimit

-- a located event has a score, and neither too many near nodes nor too many boxes
pub record IsValidLocated (event : LocatedValue) : Type 0 where
  pub scored : 1 ≤ event.score
  pub near : length event.near ≤ MOST_NEAR
  pub boxes : length event.boxes ≤ MOST_BOXES

-- a block that a certificate may say
abbrev pub IsValidBlock : BlockValue → Type 0
IsValidBlock (IsLocated event) = IsValidLocated event
IsValidBlock (FitsNowhere boxes) = length boxes ≤ MOST_BOXES
IsValidBlock HasFew = Unit {0}
IsValidBlock HasMany = Unit {0}
IsValidBlock PassesBudget = Unit {0}
IsValidBlock PassesNearLimit = Unit {0}
