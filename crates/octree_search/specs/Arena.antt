-- The boxes that were met, in the order of meeting, each linked to its children where it was opened.
use Rattle.std.specs.Prelude.{◌≡◌, ◌≢◌, ℕ, true, false, List, length, map, take, drop, All, Some, None, MatchOption, slice_index_or}
use Rattle.node_boxes.specs.declared.node_box.NodeBox.{NodeBox}
use Rattle.node_boxes.specs.Boxes.{IsNonempty, is_single}
use Rattle.node_boxes.specs.Children.{children_of}
use Rattle.octree_search.specs.declared.arena.Met.{Met}
use Rattle.octree_search.specs.declared.queue.Waiting.{Waiting}
use Rattle.node_boxes.specs.Grid.{GridSize}
use Rattle.node_boxes.specs.Roots.{AreRoots}
use Rattle.edt_score.specs.Judging.{BoundsFall}
use Rattle.octree_search.specs.Cover.{stops}
use Rattle.octree_search.specs.Near.{best_of}
use Rattle.octree_search.specs.Outcomes.{event_threshold, event_met}

-- the boxes that were met
abbrev pub areas_met : List Met → List NodeBox
areas_met met = map (λ (m : Met). m.area) met

-- a box that was just met
abbrev pub fresh : (NodeBox → ℕ) → NodeBox → Met
fresh bound a = record { area = a; bound = bound a; first_child = None }

-- a box that waits, with its place among those that were met
abbrev pub waiting : (NodeBox → ℕ) → ℕ → NodeBox → Waiting
waiting bound place a = record { bound = bound a; place = place; area = a }

-- the children of a box stand from a place on
abbrev pub IsLinked : List NodeBox → NodeBox → ℕ → Type 0
IsLinked areas a first = take (length (children_of a)) (drop first areas) ≡ children_of a

-- the box at a place was opened, and nothing else changed
pub record IsOpened (old : List Met) (place first : ℕ) (new : List Met) : Type 0 where
  pub same_length : length new ≡ length old
  pub same_areas : areas_met new ≡ areas_met old
  pub others : (i : ℕ) (d : Met) → i ≢ place → slice_index_or new i d ≡ slice_index_or old i d
  pub here : (d : Met) → slice_index_or new place d ≡ record (slice_index_or old place d) { first_child = Some first }

-- a box with nodes, which isn't single where it was opened, and then stands before its children
pub record IsBranch (areas : List NodeBox) (m : Met) : Type 0 where
  pub area : IsNonempty m.area
  pub linked : MatchOption m.first_child (Unit {0}) (λ first. (is_single m.area ≡ false) × IsLinked areas m.area first)

-- every box that was met is one
abbrev pub IsTree : List Met → Type 0
IsTree met = All (IsBranch (areas_met met)) met

-- a box was opened exactly where the rule opens it, and where it wasn't its bound is kept
abbrev pub IsSettled : (NodeBox → ℕ) → ℕ → Met → Type 0
IsSettled bound t m = MatchOption m.first_child
    ((m.bound ≡ bound m.area) × (stops bound t m.area ≡ true))
    (λ _. stops bound t m.area ≡ false)

-- a search has ended: the best score is known, every box that was met is opened exactly where the rule opens it, and the roots come first
pub record IsExplored (g : GridSize) (roots : List NodeBox) (bound : NodeBox → ℕ) (margin : ℕ) (met : List Met) (best : ℕ)
    : Type 0 where
  pub best_is : best ≡ best_of g bound
  pub tree : IsTree met
  pub settled : All (IsSettled bound (event_threshold g bound margin)) met
  pub count : length met ≡ event_met g roots bound margin
  pub first : take (length roots) (areas_met met) ≡ roots

-- a search has ended, for some roots, of which there are so many, and some bounds
pub record IsEnded (g : GridSize) (margin : ℕ) (met : List Met) (count best : ℕ) : Type 0 where
  pub roots : List NodeBox
  pub bound : NodeBox → ℕ
  pub long : length roots ≡ count
  pub are : AreRoots g roots
  pub falls : BoundsFall g roots bound
  pub explored : IsExplored g roots bound margin met best

-- the box of no place
abbrev pub no_box : Met
no_box = record { area = record { x0 = 0; x1 = 0; y0 = 0; y1 = 0; z0 = 0; z1 = 0 }; bound = 0; first_child = None }
