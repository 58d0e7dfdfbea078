-- The cover of an event: the boxes of the octree at which a search may stop.
use Rattle.std.specs.Prelude.{ℕ, zero, suc, Bool, List, [], ◌∷◌, ◌+◌, ◌-◌, ◌*◌, ◌/◌, ◌||◌, nat_lt, if◌then◌else◌, max}
use Rattle.std.specs.List.{flat_map, sum_by}
use Rattle.node_boxes.specs.declared.node_box.NodeBox.{NodeBox}
use Rattle.node_boxes.specs.Boxes.{is_single, node_count_of}
use Rattle.node_boxes.specs.Children.{children_of}

-- the least score that is near a best score, by a margin in thousandths
abbrev pub threshold_of : ℕ → ℕ → ℕ
threshold_of margin best = max 1 ((best * (1000 - margin) + 999) / 1000)

-- a box isn't opened: it has one node alone, or its bound is below the threshold
abbrev pub stops : (NodeBox → ℕ) → ℕ → NodeBox → Bool
stops bound t a = is_single a || nat_lt (bound a) t

-- the cover of a box, down to a depth: the box where it isn't opened, else the covers of its children
unfoldable pub cover_within : (NodeBox → ℕ) → ℕ → ℕ → NodeBox → List NodeBox
cover_within bound t zero a = a ∷ []
cover_within bound t (suc depth) a =
    if stops bound t a then a ∷ [] else flat_map (cover_within bound t depth) (children_of a)

-- how many boxes this rule meets below a box, down to a depth
unfoldable pub below_within : (NodeBox → ℕ) → ℕ → ℕ → NodeBox → ℕ
below_within bound t zero a = 0
below_within bound t (suc depth) a =
    if stops bound t a then 0 else sum_by (λ child. 1 + below_within bound t depth child) (children_of a)

-- the cover of a box; as a child has fewer nodes than its box, so many nodes are depth enough
abbrev pub cover : (NodeBox → ℕ) → ℕ → NodeBox → List NodeBox
cover bound t a = cover_within bound t (node_count_of a) a

-- how many boxes are met below a box
abbrev pub below : (NodeBox → ℕ) → ℕ → NodeBox → ℕ
below bound t a = below_within bound t (node_count_of a) a

-- the cover of the roots, one after another
abbrev pub cover_of : (NodeBox → ℕ) → ℕ → List NodeBox → List NodeBox
cover_of bound t roots = flat_map (cover bound t) roots

-- how many boxes are met, the roots included
abbrev pub boxes_met : (NodeBox → ℕ) → ℕ → List NodeBox → ℕ
boxes_met bound t roots = sum_by (λ root. 1 + below bound t root) roots
