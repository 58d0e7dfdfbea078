-- The spans of rows over a family of boxes, one row after another.
use Rattle.std.proofs.Common.{◌≡◌, ℕ, List, [], Option, Some, None, ◌+◌, ◌<◌, IsSome, IfSome, length, get_or, get_or-set_other, set, inl, inr, arith, refl, sym, ap, ◌∙◌}
use Rattle.std.specs.Option.{unwrap_or}
use Rattle.std.proofs.lemmas.Bool.{cases_lt}
use Rattle.std.proofs.lemmas.Grind.{get_or-set_at}
use Rattle.std.proofs.lemmas.Option.{get_or_from_slice_get}
use Rattle.node_boxes.specs.declared.node_box.NodeBox.{NodeBox}
use Rattle.minmax_pyramid.specs.Families.{AreSpans}
use Rattle.minmax_pyramid.specs.Rows.{row_times}
use Rattle.minmax_pyramid.specs.Spans.{span_of}
use Rattle.edt_score.specs.BoxBound.{box_spans}
use Rattle.edt_score.specs.Field.{FieldTimes}
use Rattle.edt_score.specs.Inside.Families.{AreRowSpans, no_span}

-- the span of a box is that of its nodes
pub span_of-box : (field : FieldTimes) (a : NodeBox) (row : ℕ) → span_of field.grid (row_times field row) a ≡ box_spans field a row
unfolding span_of
span_of-box field a row = refl

-- what is there is its value, whatever would stand in its place
pub unwrapped : (found : Option (ℕ × ℕ)) (other value : ℕ × ℕ) → IsSome found → IfSome found (λ span. span ≡ value) → unwrap_or found other ≡ value
unwrapped (Some span) other value some is = is
unwrapped None other value some is = cc

-- one more row
pub spans_more : (field : FieldTimes) (rows : List ℕ) (parent : NodeBox) (spans : List (List (ℕ × ℕ))) (i : ℕ) (eight : List (ℕ × ℕ)) → i < length spans
    → AreSpans field.grid (row_times field (get_or rows i 0)) parent eight → AreRowSpans i field rows parent spans → AreRowSpans (i + 1) field rows parent (set spans i eight)
spans_more field rows parent spans i eight within here before j k child below at = elim (cases_lt j i) [
  | inl earlier ↦ ap (λ row. get_or row k no_span) (get_or-set_other spans i j eight [] (omega arith)) ∙ before j k child earlier at
  | inr last ↦
      let same : j ≡ i = omega arith in
      ap (λ row. get_or row k no_span) (get_or-set_at spans i j eight [] same within)
      ∙ get_or_from_slice_get eight k (span_of field.grid (row_times field (get_or rows i 0)) child) no_span (here k child at)
      ∙ span_of-box field child (get_or rows i 0) ∙ ap (λ m. box_spans field child (get_or rows m 0)) (sym same)
]
