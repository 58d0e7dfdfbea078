-- The ends of picks over a family of boxes.
use Rattle.std.specs.Prelude.{◌≡◌, ℕ, ℤ, List, [], ◌<◌, ◌≤◌, ◌-ℤ◌, pos, map, slice_index, slice_index_or, unsigned_abs}
use Rattle.node_boxes.specs.declared.node_box.NodeBox.{NodeBox}
use Rattle.minmax_pyramid.specs.Families.{IsChildAt}
use Rattle.edt_score.specs.BoxBound.{box_spans}
use Rattle.edt_score.specs.Field.{FieldTimes}
use Rattle.edt_score.specs.declared.problem.ProblemPick.{ProblemPick}
use Rattle.edt_score.specs.declared.ends.Ends.{Ends}
use Rattle.edt_score.specs.Inside.Ends.{ends_of, ends_within}
use Rattle.edt_score.specs.Inside.Lanes.{lane}

-- a pick whose time is near the start
abbrev pub IsClose : ℤ → ProblemPick → Type 0
IsClose start pick = unsigned_abs (pick.time -ℤ start) ≤ 2200000000000

-- what stands for a span or a pick past the end of a list
abbrev pub no_span : ℕ × ℕ
no_span = (0, 0)

abbrev pub no_pick : ProblemPick
no_pick = record { time = pos 0; weight = 0; variance = 0; row = 0 }

-- the span over the box `k` of the row at a place
abbrev pub kept_span : List (List (ℕ × ℕ)) → ℕ → ℕ → ℕ × ℕ
kept_span spans k place = slice_index_or (slice_index_or spans place []) k no_span

-- the ends of the first `n` picks over each of eight boxes
abbrev pub AreEnds : ℕ → ℤ → List ProblemPick → List ℕ → List (List (ℕ × ℕ)) → List (List Ends) → Type 0
AreEnds n start picks places spans ends = (i k : ℕ) → i < n → k < 8
    → lane k (slice_index_or ends i [])
    ≡ ends_within start (slice_index_or picks i no_pick).time (kept_span spans k (slice_index places i))

-- the spans of the first `n` rows over the children of a box
abbrev pub AreRowSpans : ℕ → FieldTimes → List ℕ → NodeBox → List (List (ℕ × ℕ)) → Type 0
AreRowSpans n field rows parent spans = (j k : ℕ) (child : NodeBox) → j < n → IsChildAt parent k child
    → kept_span spans k j ≡ box_spans field child (slice_index rows j)

-- the ends of picks over each child of a box
abbrev pub AreFamilyEnds : FieldTimes → ℤ → List ProblemPick → NodeBox → List (List Ends) → Type 0
AreFamilyEnds field start picks parent ends = (k : ℕ) (child : NodeBox) → IsChildAt parent k child
    → map (lane k) ends ≡ map (ends_of start (box_spans field child)) picks
