-- The text of a run that makes a problem from a number and searches it.
use Rattle.std.specs.Prelude.{ℕ, ◌++◌, ◌*◌, List, [], length, codes, decimal}
use Rattle.kernel_table.specs.declared.kernels.Shape.TheVariants.{Gauss}
use Rattle.node_boxes.specs.declared.node_box.NodeBox.{NodeBox}
use Rattle.node_boxes.specs.Grid.{node_count}
use Rattle.edt_score.specs.BoxBound.{box_bound}
use Rattle.edt_score.specs.Demo.{cube, demo_field, demo_picks, demo_source}
use Rattle.octree_search.specs.Outcomes.{LocatedValue, Outcome, IsLocated, FitsNowhere, PassesBudget, PassesNearLimit, outcome_of}
use Rattle.edt_top.specs.Solve.Text.{ended_line}

-- the bound of a box for the problem of a seed, with the Gaussian kernel
abbrev pub demo_bound : ℕ → ℕ → NodeBox → ℕ
demo_bound seed side = box_bound Gauss (demo_field seed side) (demo_picks seed side)

-- what a search of the problem finds, with a margin of 100 thousandths and a budget of twice the nodes
unfoldable pub demo_outcome : ℕ → ℕ → Outcome
demo_outcome seed side =
    outcome_of (cube side) (demo_field seed side).roots (demo_bound seed side) 100 (2 * node_count (cube side))

-- what each line begins with: the seed, the side and the nodes
abbrev pub demo_head : ℕ → ℕ → ℕ → List ℕ
demo_head seed side nodes = codes "DEMO " ++ decimal seed ++ codes " " ++ decimal side ++ codes " NODES " ++ decimal nodes

-- how many boxes were met, how many make the cover, and how many nodes are near, after what a line begins with
abbrev pub counts_words : List ℕ → ℕ → ℕ → ℕ → List ℕ
counts_words head met cover near = head ++ codes " MET " ++ decimal met ++ codes " COVER " ++ decimal cover ++ codes " NEAR " ++ decimal near

-- the line of an event that is located: these counts, the best node with its score, and the node of the source
abbrev pub found_line : List ℕ → ℕ → ℕ → ℕ → List ℕ
found_line counts node score source =
    ended_line (counts ++ codes " BEST " ++ decimal node ++ codes " " ++ decimal score ++ codes " SOURCE " ++ decimal source)

-- the line of such an event
abbrev pub event_line : List ℕ → ℕ → LocatedValue → List ℕ
event_line head source event =
    found_line (counts_words head event.met (length event.boxes) (length event.near)) event.hyp event.score source

-- the line of each outcome; the budget is never passed
abbrev pub demo_line : List ℕ → ℕ → Outcome → List ℕ
demo_line head source (IsLocated event) = event_line head source event
demo_line head source (FitsNowhere boxes met) = ended_line (head ++ codes " NOFIT")
demo_line head source PassesNearLimit = ended_line (head ++ codes " NEARLIMIT")
demo_line head source PassesBudget = []

-- the text of a seed and a side: one line
unfoldable pub demo_text : ℕ → ℕ → List ℕ
demo_text seed side = demo_line (demo_head seed side (node_count (cube side))) (demo_source seed side) (demo_outcome seed side)
