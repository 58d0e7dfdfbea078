-- The parts of a block, one after another.
use Rattle.std.proofs.Common.{◌≡◌, ℕ, ◌-◌, ◌<◌, ◌≤◌, List, [], ◌∷◌, ◌++◌, length, get_or, map, sym, ◌∙◌, ap, arith}
use Rattle.std.specs.Prelude.{Option, unwrap_or}
use Rattle.std.proofs.lemmas.List.{get_or-map, length-map}
use Rattle.std.proofs.lemmas.Option.{slice_get-get_or}
use Rattle.node_boxes.specs.declared.frame.Frame.{Frame}
use Rattle.cover_certificate.specs.BlockLines.{block_text, text_of_lines}
use Rattle.edt_score.specs.Field.{FieldTimes}
use Rattle.octree_search.specs.Outcomes.{Outcome}
use Rattle.event_assembly.specs.AssemblyValues.{EventValues, event_value}
use Rattle.event_assembly.specs.declared.assembly.Assembly.{Assembly}
use Rattle.event_assembly.specs.declared.assembly.Prepared.{Prepared}
use Rattle.location_report.specs.Blocks.{block_of, certificate_value, first_line, lane_lines, report_lines}
use Rattle.location_report.specs.Lines.{LaneValues}
use Rattle.location_report.specs.Reports.{event_at, no_event}
use Rattle.location_report.proofs.ListLaws.{three_texts}

-- the event of a number of an assembly
pub event_is : (assembly : Assembly) (number : ℕ) (event : Prepared) → 1 ≤ number → number ≤ length assembly.events.items
    → event ≡ get_or assembly.events.items (number - 1) event → event_at assembly number ≡ event_value event
event_is assembly number event first last is =
    let below : number - 1 < length assembly.events.items = omega (arith, first, last) in
    let within : number - 1 < length (map event_value assembly.events.items) = omega (arith, below, length-map assembly.events.items event_value) in
    ap (λ (found : Option EventValues). unwrap_or found no_event) (slice_get-get_or (map event_value assembly.events.items) (number - 1) no_event within)
    ∙ get_or-map event_value assembly.events.items (number - 1) event no_event below
    ∙ ap event_value (sym is)

-- the text of a block
pub whole_block : (frame : Frame) (field : FieldTimes) (number : ℕ) (event : EventValues) (outcome : Option Outcome) (lanes : Option LaneValues)
    (one two three four : List ℕ) → one ≡ [] ++ text_of_lines (first_line number event ∷ [])
    → two ≡ one ++ text_of_lines (report_lines frame field event outcome) → three ≡ two ++ text_of_lines (lane_lines lanes)
    → four ≡ three ++ block_text (certificate_value event.case outcome) → four ≡ block_of frame field number event outcome lanes
unfolding block_of
whole_block frame field number event outcome lanes one two three four first second third fourth =
    fourth ∙ ap (λ text. text ++ block_text (certificate_value event.case outcome))
    (three_texts (first_line number event ∷ []) (report_lines frame field event outcome) (lane_lines lanes) [] one two three first second third)
