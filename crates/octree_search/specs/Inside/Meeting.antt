-- What is known after boxes were met.
use Rattle.std.specs.Prelude.{ℕ, ◌+◌, ◌||◌, nat_lt, if◌then◌else◌, max, List, [], ◌∷◌, ◌++◌}
use Rattle.node_boxes.specs.declared.node_box.NodeBox.{NodeBox}
use Rattle.node_boxes.specs.Boxes.{is_single}
use Rattle.octree_search.specs.declared.queue.Waiting.{Waiting}
use Rattle.octree_search.specs.Cover.{threshold_of}
use Rattle.octree_search.specs.Arena.{waiting}

-- the best score known, with one more box, which tells its score where it is single
abbrev pub best_with : (NodeBox → ℕ) → ℕ → NodeBox → ℕ
best_with bound best a = if is_single a then max best (bound a) else best

-- the best score known after more boxes
abbrev pub best_after : (NodeBox → ℕ) → ℕ → List NodeBox → ℕ
best_after bound best [] = best
best_after bound best (a ∷ areas) = best_after bound (best_with bound best a) areas

-- a box that is met at a place waits, unless it is single or its bound is below the threshold of the best score known
abbrev pub wait_of : ℕ → (NodeBox → ℕ) → ℕ → ℕ → NodeBox → List Waiting
wait_of margin bound best place a =
    if is_single a || nat_lt (bound a) (threshold_of margin best) then [] else waiting bound place a ∷ []

-- those of some boxes that wait, met one after another from a place on
abbrev pub waits : ℕ → (NodeBox → ℕ) → ℕ → ℕ → List NodeBox → List Waiting
waits margin bound best from [] = []
waits margin bound best from (a ∷ areas) =
    wait_of margin bound best from a ++ waits margin bound (best_with bound best a) (from + 1) areas
