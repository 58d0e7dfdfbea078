-- What is wrong with the bounds of a cover, the hypocentre and the list of near nodes.
use Rattle.std.specs.Prelude.{ℕ, Bool, List, [], ◌∷◌, ◌+◌, ◌&&◌, ◌||◌, ◌==◌, not, nat_le, nat_lt, map, filter, Option, Some, None, option_map, if◌then◌else◌}
use Rattle.std.specs.List.{find, list_any, position_from}
use Rattle.cover_certificate.specs.Blocks.{LocatedValue}
use Rattle.node_boxes.specs.declared.node_box.BoxBound.{BoxBound}
use Rattle.node_boxes.specs.Boxes.{holds, is_single}
use Rattle.node_boxes.specs.Grid.{GridSize, node_count}
use Rattle.node_boxes.specs.GridOrder.{all_nodes, node_number}
use Rattle.cover_checker.specs.declared.verdict.Verdict.{Verdict}
use Rattle.cover_checker.specs.declared.verdict.Verdict.TheVariants.{WrongBound, NotClosed, WrongScore, NotFirst, NearWrong}
use Rattle.cover_checker.specs.Scorings.{Scoring}

-- the first place, from 0, of a box that passes a test
abbrev pub first_place : (BoxBound → Bool) → List BoxBound → Option ℕ
first_place test boxes = position_from test 0 boxes

-- the first box whose printed bound isn't its bound
unfoldable pub wrong_bound : Scoring → List BoxBound → Option Verdict
wrong_bound s boxes = option_map WrongBound (first_place (λ b. not (b.bound == s.bound b.area)) boxes)

-- the first box of several nodes whose printed bound reaches a threshold
unfoldable pub not_closed : ℕ → List BoxBound → Option Verdict
not_closed least boxes = option_map NotClosed (first_place (λ b. not (is_single b.area) && nat_le least b.bound) boxes)

-- the first box with a printed bound above 0
unfoldable pub not_zero : List BoxBound → Option Verdict
not_zero boxes = option_map NotClosed (first_place (λ b. nat_lt 0 b.bound) boxes)

-- the hypocentre isn't a node, or its score isn't the printed one
unfoldable pub wrong_score : Scoring → LocatedValue → Option Verdict
wrong_score s event =
    if nat_lt event.hyp (node_count s.grid) && (s.score event.hyp == event.score) then None else Some (WrongScore event.hyp)

-- the first node of a box
abbrev pub corner : GridSize → BoxBound → ℕ
corner g b = node_number g b.area.x0 b.area.y0 b.area.z0

-- a node with a score above the printed one, or with the printed one and a smaller number than the hypocentre
abbrev pub is_better : Scoring → LocatedValue → ℕ → Bool
is_better s event node =
    nat_lt event.score (s.score node) || ((s.score node == event.score) && nat_lt node event.hyp)

-- in the order of the cover, the first single box whose node is better than the hypocentre; the node is shown
unfoldable pub not_first : Scoring → LocatedValue → Option Verdict
not_first s event = option_map (λ b. NotFirst (corner s.grid b))
    (find (λ b. is_single b.area && is_better s event (corner s.grid b)) event.boxes)

-- the node has a single box
abbrev pub is_alone : GridSize → List BoxBound → ℕ → Bool
is_alone g boxes node = list_any (λ b. is_single b.area && holds g b.area node) boxes

-- a node with its score
abbrev pub with_score : (ℕ → ℕ) → ℕ → ℕ × ℕ
with_score score node = (node, score node)

-- the nodes of single boxes whose scores reach a threshold, in grid order, each with its score
unfoldable pub near_of : Scoring → ℕ → List BoxBound → List (ℕ × ℕ)
near_of s least boxes = map (with_score s.score)
    (filter (λ node. is_alone s.grid boxes node && nat_le least (s.score node)) (all_nodes (node_count s.grid)))

-- two entries are the same
abbrev pub same_entry : ℕ × ℕ → ℕ × ℕ → Bool
same_entry one other = (one.0 == other.0) && (one.1 == other.1)

-- the first place, counted from a number, at which two lists differ; where one list is the beginning of the other,
-- it is the place after its end
abbrev pub first_difference : ℕ → List (ℕ × ℕ) → List (ℕ × ℕ) → Option ℕ
first_difference place [] [] = None
first_difference place [] (other ∷ others) = Some place
first_difference place (one ∷ ones) [] = Some place
first_difference place (one ∷ ones) (other ∷ others) =
    if same_entry one other then first_difference (place + 1) ones others else Some place

-- where the printed list differs from that of the nodes of single boxes that reach the threshold
unfoldable pub near_wrong : Scoring → ℕ → LocatedValue → Option Verdict
near_wrong s least event = option_map NearWrong (first_difference 0 event.near (near_of s least event.boxes))
