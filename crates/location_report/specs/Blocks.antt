-- The block of an event, as one function of values.
use Rattle.std.specs.Prelude.{ℕ, ℤ, ◌-ℤ◌, pos, List, [], ◌∷◌, ◌++◌, length, map, zip, codes, Option, Some, None}
use Rattle.std.specs.Fmt.{signed_decimal}
use Rattle.text_terms.specs.Lines.{LineText}
use Rattle.node_boxes.specs.declared.frame.Frame.{Frame}
use Rattle.cover_certificate.specs.Blocks.{BlockValue, IsLocated as located_block, FitsNowhere as fitless_block, HasFew, HasMany, PassesBudget as budget_block, PassesNearLimit as near_limit_block}
use Rattle.cover_certificate.specs.BlockLines.{block_text, text_of_lines}
use Rattle.origin_time.specs.OriginTime.{origin_of}
use Rattle.origin_time.specs.RootMeanSquare.{rms_of}
use Rattle.edt_score.specs.Field.{FieldTimes, time_at}
use Rattle.edt_score.specs.declared.problem.ProblemPick.{ProblemPick}
use Rattle.octree_search.specs.Outcomes.{Outcome, IsLocated, FitsNowhere, PassesBudget, PassesNearLimit}
use Rattle.station_table.specs.declared.picks.UsedPick.{UsedPick}
use Rattle.event_assembly.specs.AssemblyValues.{EventCase, EventValues, Ready, Few, Many}
use Rattle.location_report.specs.Lines.{LaneValues, event_line, pick_line, skip_line, hypocentre_line, origin_line, rms_line, met_line, lanes_line}

-- what a pick at a node says of the origin: its time less its travel time, with its weight
abbrev pub item_at : FieldTimes → ℕ → ProblemPick → ℤ × ℕ
item_at field node pick = (pick.time -ℤ pos (time_at field pick.row node), pick.weight)

-- what all picks say
abbrev pub items_at : FieldTimes → ℕ → List ProblemPick → List (ℤ × ℕ)
items_at field node picks = map (item_at field node) picks

-- the origin time of picks at a node
abbrev pub origin_at : FieldTimes → ℕ → List ProblemPick → ℤ
origin_at field node picks = origin_of (items_at field node picks)

-- how far an item is from an origin time, with its weight
abbrev pub residual_from : ℤ → ℤ × ℕ → ℤ × ℕ
residual_from origin item = (item.0 -ℤ origin, item.1)

-- the residuals of picks at a node, with their weights
abbrev pub residuals_at : FieldTimes → ℕ → List ProblemPick → List (ℤ × ℕ)
residuals_at field node picks = map (residual_from (origin_at field node picks)) (items_at field node picks)

-- the word of a residual
abbrev pub residual_word : ℤ × ℕ → List ℕ
residual_word residual = signed_decimal residual.0

-- the picks of the problem of an event, where it has one
abbrev pub picks_of : EventCase → List ProblemPick
picks_of (Ready picks) = picks
picks_of Few = []
picks_of Many = []

-- the words of the residuals of picks at a node
abbrev pub residual_words : FieldTimes → ℕ → List ProblemPick → List (List ℕ)
residual_words field node picks = map residual_word (residuals_at field node picks)

-- a used pick of an event that isn't located, which has no residual
abbrev pub unplaced_line : UsedPick → LineText
unplaced_line pick = pick_line (pick, codes "-")

-- the lines of the used picks
abbrev pub used_lines : FieldTimes → EventValues → Option Outcome → List LineText
used_lines field event (Some (IsLocated found)) =
    map pick_line (zip event.used (residual_words field found.hyp (picks_of event.case)))
used_lines field event (Some (FitsNowhere boxes met)) = map unplaced_line event.used
used_lines field event (Some PassesBudget) = map unplaced_line event.used
used_lines field event (Some PassesNearLimit) = map unplaced_line event.used
used_lines field event None = map unplaced_line event.used

-- the lines of what was found of an event, but for those of its certificate
abbrev pub finding_lines : Frame → FieldTimes → EventCase → Option Outcome → List LineText
finding_lines frame field case (Some (IsLocated event)) =
    hypocentre_line frame event.hyp
    ∷ origin_line (origin_at field event.hyp (picks_of case))
    ∷ rms_line (rms_of (residuals_at field event.hyp (picks_of case)))
    ∷ met_line event.met
    ∷ []
finding_lines frame field case (Some (FitsNowhere boxes met)) = met_line met ∷ []
finding_lines frame field case (Some PassesBudget) = []
finding_lines frame field case (Some PassesNearLimit) = []
finding_lines frame field case None = []

-- the line of the lanes, where there are any
abbrev pub lane_lines : Option LaneValues → List LineText
lane_lines None = []
lane_lines (Some count) = lanes_line count ∷ []

-- what the certificate says of an outcome
abbrev pub certificate_of : Outcome → BlockValue
certificate_of (IsLocated event) =
    located_block (record { hyp = event.hyp; score = event.score; near = event.near; boxes = event.boxes })
certificate_of (FitsNowhere boxes met) = fitless_block boxes
certificate_of PassesBudget = budget_block
certificate_of PassesNearLimit = near_limit_block

-- what it says of an event that has no outcome, since it has few or many used picks
abbrev pub certificate_of_case : EventCase → BlockValue
certificate_of_case (Ready picks) = HasFew
certificate_of_case Few = HasFew
certificate_of_case Many = HasMany

-- what the certificate of an event says
abbrev pub certificate_value : EventCase → Option Outcome → BlockValue
certificate_value case (Some outcome) = certificate_of outcome
certificate_value case None = certificate_of_case case

-- the lines of the picks and of what was found
abbrev pub report_lines : Frame → FieldTimes → EventValues → Option Outcome → List LineText
report_lines frame field event outcome =
    used_lines field event outcome ++ map skip_line event.skipped ++ finding_lines frame field event.case outcome

-- the lines of a block between its first and its certificate
abbrev pub lines_between : Frame → FieldTimes → EventValues → Option Outcome → Option LaneValues → List LineText
lines_between frame field event outcome lanes = report_lines frame field event outcome ++ lane_lines lanes

-- the first line of the block of an event with this number
abbrev pub first_line : ℕ → EventValues → LineText
first_line number event = event_line number (length event.used) (length event.skipped)

-- the block of an event: its number, its used picks with their residuals, its other ones, what was found, and the certificate; an event
-- of few or many used picks has no outcome
unfoldable pub block_of : Frame → FieldTimes → ℕ → EventValues → Option Outcome → Option LaneValues → List ℕ
block_of frame field number event outcome lanes =
    text_of_lines (first_line number event ∷ lines_between frame field event outcome lanes)
    ++ block_text (certificate_value event.case outcome)
