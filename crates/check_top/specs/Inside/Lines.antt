-- The words of a line while it grows.
use Rattle.std.specs.Prelude.{ℕ, ◌<◌, ◌++◌, List, [], ◌∷◌}
use Rattle.node_boxes.specs.Grid.{GridSize, node_count}
use Rattle.check_top.specs.EventAnswers.{AnswerValue, ProvesEvent, ProvesNoFit, AgreesFew, AgreesMany, UnprovedBudget, UnprovedNearLimit, RefusedBy, RefusedKind}

-- each word after a blank
abbrev pub spaced : List (List ℕ) → List ℕ
spaced [] = []
spaced (word ∷ words) = 32 ∷ word ++ spaced words

-- where an answer shows a node, it is one of the grid
abbrev pub IsPlaced : GridSize → AnswerValue → Type 0
IsPlaced g (ProvesEvent event) = event.hyp < node_count g
IsPlaced g ProvesNoFit = Unit {0}
IsPlaced g AgreesFew = Unit {0}
IsPlaced g AgreesMany = Unit {0}
IsPlaced g UnprovedBudget = Unit {0}
IsPlaced g UnprovedNearLimit = Unit {0}
IsPlaced g (RefusedBy verdict) = Unit {0}
IsPlaced g RefusedKind = Unit {0}
