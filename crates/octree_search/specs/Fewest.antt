-- No octree cover of its kind has fewer boxes.
use Rattle.std.specs.Prelude.{◌≡◌, ◌≤◌, ℕ, true, List, length, map, Contains}
use Rattle.std.specs.List.{AllByRecursion}
use Rattle.node_boxes.specs.declared.node_box.NodeBox.{NodeBox}
use Rattle.node_boxes.specs.Boxes.{IsPartOf}
use Rattle.node_boxes.specs.Octree.{IsOctreeCover}
use Rattle.node_boxes.specs.declared.node_box.BoxBound.{BoxBound}
use Rattle.octree_search.specs.declared.found.Found.{Found}
use Rattle.octree_search.specs.declared.found.Found.TheVariants.{Located, NoFit, Budget, NearLimit}
use Rattle.octree_search.specs.Cover.{cover_of, stops, threshold_of}
use Rattle.octree_search.specs.Outcomes.{Outcome, IsLocated, FitsNowhere, PassesBudget, PassesNearLimit, bounded}

-- a box lies in one of the boxes
abbrev pub IsPartOfOne : List NodeBox → NodeBox → Type 0
IsPartOfOne boxes part = (whole : NodeBox) × Contains boxes whole × IsPartOf whole part

-- the boxes are an octree cover whose boxes are single or have a bound below the threshold; they are at most as many as those of any such
-- cover, and each box of such a cover lies in one of them
pub record IsShortest (roots : List NodeBox) (bound : NodeBox → ℕ) (t : ℕ) (boxes : List NodeBox) : Type 0 where
  pub cover : IsOctreeCover roots boxes
  pub closed : AllByRecursion (λ a. stops bound t a ≡ true) boxes
  pub fewest : (other : List NodeBox) → IsOctreeCover roots other → AllByRecursion (λ a. stops bound t a ≡ true) other
      → length boxes ≤ length other
  pub within : (other : List NodeBox) → IsOctreeCover roots other → AllByRecursion (λ a. stops bound t a ≡ true) other
      → AllByRecursion (IsPartOfOne boxes) other

-- the boxes of a cover, without their bounds
abbrev pub areas_of : List BoxBound → List NodeBox
areas_of boxes = map (λ (b : BoxBound). b.area) boxes

-- the cover of what was found, where there is one, is so
abbrev pub IsCoverShortest : List NodeBox → (NodeBox → ℕ) → ℕ → Found → Type 0
IsCoverShortest roots bound t (Located event) = IsShortest roots bound t (areas_of event.cover.items)
IsCoverShortest roots bound t (NoFit boxes met) = IsShortest roots bound t (areas_of boxes.items)
IsCoverShortest roots bound t Budget = Unit {0}
IsCoverShortest roots bound t NearLimit = Unit {0}

-- the boxes are those of the rule at a threshold, each with its bound, and the fewest
pub record IsShortestCover (roots : List NodeBox) (bound : NodeBox → ℕ) (t : ℕ) (boxes : List BoxBound) : Type 0 where
  pub rule : boxes ≡ map (bounded bound) (cover_of bound t roots)
  pub shortest : IsShortest roots bound t (map (λ (b : BoxBound). b.area) boxes)

-- the cover of an outcome, where it has one, is so at the threshold of its score, or at 1 where no node scores
abbrev pub HasShortestCover : List NodeBox → (NodeBox → ℕ) → ℕ → Outcome → Type 0
HasShortestCover roots bound margin (IsLocated event) = IsShortestCover roots bound (threshold_of margin event.score) event.boxes
HasShortestCover roots bound margin (FitsNowhere boxes met) = IsShortestCover roots bound 1 boxes
HasShortestCover roots bound margin PassesBudget = Unit {0}
HasShortestCover roots bound margin PassesNearLimit = Unit {0}
