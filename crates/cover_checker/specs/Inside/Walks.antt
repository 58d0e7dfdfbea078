-- The walk over all marks that finds the near nodes, and how many nodes boxes have.
use Rattle.std.specs.Prelude.{◌≡◌, ◌<◌, ℕ, Bool, false, List, ◌-◌, ◌==◌, ◌&&◌, ◌||◌, nat_le, nat_lt, length, filter_map, sum_by, if◌then◌else◌, Option, Some, None, option_map, slice_get}
use Rattle.std.specs.List.{enumerate_from, find}
use Rattle.std.specs.Option.{option_and_then, option_map_or, option_or}
use Rattle.node_boxes.specs.declared.node_box.BoxBound.{BoxBound}
use Rattle.node_boxes.specs.Boxes.{is_single}
use Rattle.node_boxes.specs.Grid.{GridSize}
use Rattle.node_boxes.specs.BoxNodes.{box_nodes}
use Rattle.minmax_pyramid.specs.Spans.{span_over}
use Rattle.edt_score.specs.KeptPairs.{span_at}
use Rattle.cover_certificate.specs.Blocks.{LocatedValue}
use Rattle.cover_checker.specs.declared.verdict.Verdict.{Verdict}
use Rattle.cover_checker.specs.declared.verdict.Verdict.TheVariants.{NotFirst}
use Rattle.cover_checker.specs.Covers.{misplaced, uncovered}
use Rattle.cover_checker.specs.Findings.{corner, same_entry, wrong_bound}
use Rattle.cover_checker.specs.Scorings.{Scoring}

-- a single box with a printed bound that reaches a threshold
abbrev pub is_near_box : ℕ → BoxBound → Bool
is_near_box least b = is_single b.area && nat_le least b.bound

-- the printed bound of a box, where it is single and reaches a threshold
abbrev pub near_box_bound : ℕ → BoxBound → Option ℕ
near_box_bound least b = if is_near_box least b then Some b.bound else None

-- that of the box of a mark
abbrev pub near_bound : List BoxBound → ℕ → ℕ → Option ℕ
near_bound boxes least mark = if mark == 0 then None else option_and_then (near_box_bound least) (slice_get boxes (mark - 1))

-- the entry of a node with a mark in the near list
abbrev pub near_entry : List BoxBound → ℕ → ℕ × ℕ → Option (ℕ × ℕ)
near_entry boxes least (node, mark) = option_map (λ bound. (node, bound)) (near_bound boxes least mark)

-- the near list of the nodes from a number on, by their marks
abbrev pub near_walk : List BoxBound → ℕ → ℕ → List ℕ → List (ℕ × ℕ)
near_walk boxes least node marks = filter_map (near_entry boxes least) (enumerate_from node marks)

-- the list has the entry at a place
abbrev pub has_entry : List (ℕ × ℕ) → ℕ → ℕ × ℕ → Bool
has_entry near place entry = option_map_or (λ printed. same_entry printed entry) (slice_get near place) false

-- how many nodes the boxes have together
abbrev pub nodes_in : GridSize → List BoxBound → ℕ
nodes_in g boxes = sum_by (λ b. length (box_nodes g b.area)) boxes

-- the first `n` spans are those of the picks at their places over the nodes
abbrev pub AreSpansOf : (ℕ → ℕ → ℕ) → List ℕ → ℕ → List (ℕ × ℕ) → Type 0
AreSpansOf times nodes n spans = (place : ℕ) → place < n → span_at spans place ≡ span_over (times place) nodes

-- a node with a score beats the printed hypocentre
abbrev pub beats : LocatedValue → ℕ → ℕ → Bool
beats event node score = nat_lt event.score score || ((score == event.score) && nat_lt node event.hyp)

-- the first single box whose printed bound beats the printed hypocentre; its node is shown
abbrev pub first_beating : GridSize → LocatedValue → Option Verdict
first_beating g event = option_map (λ b. NotFirst (corner g b))
    (find (λ b. is_single b.area && beats event (corner g b) b.bound) event.boxes)

-- the first of what is wrong with where the boxes lie and with their bounds
abbrev pub cover_finding : Scoring → List BoxBound → Option Verdict
cover_finding s boxes = option_or (misplaced s.grid boxes) (option_or (uncovered s.grid boxes) (wrong_bound s boxes))
