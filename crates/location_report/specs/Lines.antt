-- The lines of an event's block, but for those of its certificate.
use Rattle.std.specs.Prelude.{ℕ, List, [], ◌∷◌, codes, decimal, ℤ, pos, ◌+ℤ◌, ◌*ℤ◌}
use Rattle.std.specs.Fmt.{signed_decimal}
use Rattle.std.specs.List.{join_with_byte}
use Rattle.text_terms.specs.Lines.{LineText}
use Rattle.cover_certificate.specs.BlockLines.{ended_line}
use Rattle.node_boxes.specs.declared.frame.Frame.{Frame}
use Rattle.node_boxes.specs.GridOrder.{place_of}
use Rattle.station_table.specs.declared.picks.Reason.{Reason}
use Rattle.station_table.specs.declared.picks.Reason.TheVariants.{Excluded, Weight0, ErrMag, Duplicate, NoGrid, Far, BeyondMax}
use Rattle.station_table.specs.declared.picks.Skip.{Skip}
use Rattle.station_table.specs.declared.picks.UsedPick.{UsedPick}
use Rattle.location_report.specs.Dates.{date_text, clock_text}

-- a line of words, parted by one blank each, that a line feed ends
abbrev pub line_of : List (List ℕ) → LineText
line_of words = ended_line (join_with_byte 32 words)

-- the number of an event, from 1, and how many of its picks are used and how many aren't
unfoldable pub event_line : ℕ → ℕ → ℕ → LineText
event_line number used skipped =
    line_of (codes "EVENT" ∷ decimal number ∷ codes "PICKS" ∷ decimal used ∷ codes "SKIPPED" ∷ decimal skipped ∷ [])

-- a used pick: station, phase, time, weight and the word of its residual
unfoldable pub pick_line : UsedPick × List ℕ → LineText
pick_line pick =
    line_of (codes "PICK" ∷ pick.0.station ∷ pick.0.phase ∷ signed_decimal pick.0.time ∷ decimal pick.0.weight ∷ pick.1 ∷ [])

-- the name of a reason
abbrev pub reason_name : Reason → List ℕ
reason_name Excluded = codes "EXCLUDED"
reason_name Weight0 = codes "WEIGHT0"
reason_name ErrMag = codes "ERRMAG"
reason_name Duplicate = codes "DUPLICATE"
reason_name NoGrid = codes "NOGRID"
reason_name Far = codes "FAR"
reason_name BeyondMax = codes "BEYONDMAX"

-- a pick that isn't used: the number of its line in the phase file, station, phase and the reason
unfoldable pub skip_line : Skip → LineText
skip_line skip = line_of (codes "SKIP" ∷ decimal skip.line ∷ skip.station ∷ skip.phase ∷ reason_name skip.reason ∷ [])

-- where a place on an axis lies, in millimetres
abbrev pub coordinate : ℤ → ℤ → ℕ → ℤ
coordinate origin spacing place = origin +ℤ pos place *ℤ spacing

-- a place on the three axes, and where it lies
unfoldable pub place_line : ℕ × ℕ × ℕ → ℤ → ℤ → ℤ → LineText
place_line place x y z =
    line_of (
    codes "HYPOCENTRE"
    ∷ decimal place.0
    ∷ decimal place.1
    ∷ decimal place.2
    ∷ signed_decimal x
    ∷ signed_decimal y
    ∷ signed_decimal z
    ∷ [])

-- the place of the hypocentre on the three axes, and where it lies
abbrev pub hypocentre_line : Frame → ℕ → LineText
hypocentre_line frame node =
    let place = place_of frame.grid node in
    place_line place (coordinate frame.ox frame.dx place.0) (coordinate frame.oy frame.dy place.1) (coordinate frame.oz frame.dz place.2)

-- the origin time, given in microseconds from the start of 1970-01-01, as a date and a time of day
unfoldable pub origin_line : ℤ → LineText
origin_line time = line_of (codes "ORIGIN" ∷ date_text time ∷ clock_text time ∷ [])

-- the root mean square of the residuals
unfoldable pub rms_line : ℕ → LineText
rms_line rms = line_of (codes "RMS" ∷ decimal rms ∷ [])

-- how many boxes were met
unfoldable pub met_line : ℕ → LineText
met_line met = line_of (codes "MET" ∷ decimal met ∷ [])

-- how many lanes searched, in how many events, and how many of these lost a lane
pub record LaneValues : Type 0 where
  pub lanes : ℕ
  pub events : ℕ
  pub lost : ℕ

-- what the lanes did
unfoldable pub lanes_line : LaneValues → LineText
lanes_line count =
    line_of (codes "LANES" ∷ decimal count.lanes ∷ codes "EVENTS" ∷ decimal count.events ∷ codes "LOST" ∷ decimal count.lost ∷ [])
