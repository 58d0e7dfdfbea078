-- When a certificate proves its event.
use Rattle.std.specs.Prelude.{◌≡◌, ◌≤◌, ◌<◌, ℕ, List, All, true, false, map}
use Rattle.cover_certificate.specs.Blocks.{BlockValue, LocatedValue, IsLocated, FitsNowhere, HasFew, HasMany, PassesBudget, PassesNearLimit}
use Rattle.node_boxes.specs.declared.node_box.BoxBound.{BoxBound}
use Rattle.node_boxes.specs.Boxes.{IsIn, is_single}
use Rattle.node_boxes.specs.Grid.{GridSize, node_count}
use Rattle.node_boxes.specs.GridOrder.{place_of}
use Rattle.node_boxes.specs.Roots.{holders}
use Rattle.octree_search.specs.Cover.{threshold_of}
use Rattle.cover_checker.specs.Findings.{corner, near_of}
use Rattle.cover_checker.specs.Scorings.{Scoring}

-- how many of the boxes hold the node
abbrev pub holders_of : GridSize → List BoxBound → ℕ → ℕ
holders_of g boxes node =
    let place = place_of g node in
    holders place.0 place.1 place.2 (map (λ (b : BoxBound). b.area) boxes)

-- each box lies in the grid, exactly one of them holds each node, and each printed bound is the box's bound; the
-- boxes needn't be those of an octree
pub record IsCover (s : Scoring) (boxes : List BoxBound) : Type 0 where
  pub inside : All (λ b. IsIn s.grid b.area) boxes
  pub once : (node : ℕ) → node < node_count s.grid → holders_of s.grid boxes node ≡ 1
  pub bounds : All (λ b. b.bound ≡ s.bound b.area) boxes

-- the node of a single box scores at most the printed score, and has it only at the hypocentre or after it
pub record IsNoBetter (s : Scoring) (event : LocatedValue) (b : BoxBound) : Type 0 where
  pub at_most : s.score (corner s.grid b) ≤ event.score
  pub later : s.score (corner s.grid b) ≡ event.score → event.hyp ≤ corner s.grid b

-- the certificate of a located event proves it at a margin
pub record ProvesLocated (s : Scoring) (margin : ℕ) (event : LocatedValue) : Type 0 where
  pub cover : IsCover s event.boxes
  pub closed : All (λ b. is_single b.area ≡ false → b.bound < threshold_of margin event.score) event.boxes
  pub hyp : event.hyp < node_count s.grid
  pub score : s.score event.hyp ≡ event.score
  pub first : All (λ b. is_single b.area ≡ true → IsNoBetter s event b) event.boxes
  pub near : event.near ≡ near_of s (threshold_of margin event.score) event.boxes

-- the certificate of an event that fits nowhere proves it
pub record ProvesNoFit (s : Scoring) (boxes : List BoxBound) : Type 0 where
  pub cover : IsCover s boxes
  pub zero : All (λ b. b.bound ≡ 0) boxes

-- a certificate proves its event; one that claims nothing proves nothing
abbrev pub Proves : Scoring → ℕ → BlockValue → Type 0
Proves s margin (IsLocated event) = ProvesLocated s margin event
Proves s margin (FitsNowhere boxes) = ProvesNoFit s boxes
Proves s margin HasFew = ⊥
Proves s margin HasMany = ⊥
Proves s margin PassesBudget = ⊥
Proves s margin PassesNearLimit = ⊥
