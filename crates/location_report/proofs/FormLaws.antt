-- No line of a block before its certificate begins one, and the block's lines are read back.
use Rattle.std.proofs.Common.{◌≡◌, ℕ, zero, suc, ◌/◌, ◌%◌, ◌-◌, Bool, true, false, not, inl, inr, List, [], ◌∷◌, ◌++◌, length, map, replicate, ℤ, pos, negsuc, refl, ◌∙◌, ap, append_assoc}
use Rattle.std.specs.Prelude.{◌==◌, ◌&&◌, nat_le, codes, decimal, zip, Option, Some, None}
use Rattle.std.specs.Fmt.{digit_glyph, digits, digits_onto, signed_decimal}
use Rattle.std.specs.List.{AllByRecursion, join_with_byte, list_all}
use Rattle.std.proofs.lemmas.Grind.{common_steps}
use Rattle.std.proofs.Common.{arith}
use Rattle.text_terms.specs.Lines.{LineText, is_line_feed, lines_of}
use Rattle.text_terms.specs.Names.{is_name, is_name_byte}
use Rattle.text_terms.proofs.Cases.{by_bool}
use Rattle.node_boxes.specs.declared.frame.Frame.{Frame}
use Rattle.cover_certificate.specs.BlockLines.{block_lines, block_text, text_of_lines}
use Rattle.cover_certificate.proofs.PartLaws.{both}
use Rattle.cover_certificate.proofs.TextLaws.{AreWhole, block_text-lines, has_no_feed, joined_no_feed, lines_back}
use Rattle.edt_score.specs.Field.{FieldTimes}
use Rattle.octree_search.specs.Outcomes.{Outcome, IsLocated, FitsNowhere, PassesBudget, PassesNearLimit}
use Rattle.station_table.specs.declared.picks.Reason.{Reason}
use Rattle.station_table.specs.declared.picks.Reason.TheVariants.{Excluded, Weight0, ErrMag, Duplicate, NoGrid, Far, BeyondMax}
use Rattle.station_table.specs.declared.picks.Skip.{Skip}
use Rattle.station_table.specs.declared.picks.UsedPick.{UsedPick}
use Rattle.event_assembly.specs.AssemblyValues.{EventCase, EventValues}
use Rattle.location_report.specs.BlockForms.{IsBefore, IsPlainEvent, has_names, skip_has_names}
use Rattle.location_report.specs.Blocks.{block_of, certificate_value, finding_lines, first_line, lane_lines, lines_between, report_lines, residual_word, residual_words, unplaced_line, used_lines}
use Rattle.location_report.specs.Dates.{CivilDate, civil_text, clock_text, date_text, day_clock_text, padded, year_text}
use Rattle.location_report.specs.Lines.{LaneValues, event_line, lanes_line, met_line, origin_line, pick_line, place_line, reason_name, rms_line, skip_line}

-- digits hold no line feed
glyph_plain : (upper : Bool) (d : ℕ) → not (is_line_feed (digit_glyph upper d)) ≡ true
glyph_plain true d = grind (arith, common_steps)
glyph_plain false d = grind (arith, common_steps)

digits_plain : (k base : ℕ) (upper : Bool) (n : ℕ) (acc : List ℕ) → has_no_feed acc ≡ true → has_no_feed (digits_onto k base upper n acc) ≡ true
digits_plain zero base upper n acc plain = plain
digits_plain (suc k) base upper n acc plain = elim (by_bool (n / base == 0)) [
  | inl last ↦ rw (last, glyph_plain upper (n % base), plain) refl
  | inr more ↦ rw more (digits_plain k base upper (n / base) (digit_glyph upper (n % base) ∷ acc) (rw (glyph_plain upper (n % base), plain) refl))
]

decimal_plain : (n : ℕ) → has_no_feed (decimal n) ≡ true
unfolding digits
decimal_plain n = digits_plain 64 10 false n [] refl

signed_plain : (z : ℤ) → has_no_feed (signed_decimal z) ≡ true
signed_plain (pos n) = decimal_plain n
signed_plain (negsuc n) = decimal_plain (suc n)

-- words without line feeds are a line without one
line_plain : (words : List (List ℕ)) → list_all has_no_feed words ≡ true → has_no_feed (join_with_byte 32 words) ≡ true
line_plain [] plain = refl
line_plain (w ∷ []) plain = (both (has_no_feed w) true plain).0
line_plain (w ∷ v ∷ words) plain =
    let parted = both (has_no_feed w) (list_all has_no_feed (v ∷ words)) plain in
    joined_no_feed w (32 ∷ join_with_byte 32 (v ∷ words)) parted.0 (line_plain (v ∷ words) parted.1)

-- names hold none
byte_plain : (b : ℕ) → is_name_byte b ≡ true → not (is_line_feed b) ≡ true
byte_plain b name = grind (arith, common_steps)

bytes_plain : (word : List ℕ) → list_all is_name_byte word ≡ true → has_no_feed word ≡ true
bytes_plain [] names = refl
bytes_plain (b ∷ word) names =
    let parted = both (is_name_byte b) (list_all is_name_byte word) names in
    rw (byte_plain b parted.0, bytes_plain word parted.1) refl

name_plain : (most : ℕ) (word : List ℕ) → is_name most word ≡ true → has_no_feed word ≡ true
name_plain most word name =
    bytes_plain word (both (nat_le 1 (length word) && nat_le (length word) most) (list_all is_name_byte word) name).1

-- zeros hold none
zeros_plain : (n : ℕ) → has_no_feed (replicate n 48) ≡ true
zeros_plain zero = refl
zeros_plain (suc n) = zeros_plain n

padded_plain : (width n : ℕ) → has_no_feed (padded width n) ≡ true
padded_plain width n = joined_no_feed (replicate (width - length (decimal n)) 48) (decimal n) (zeros_plain (width - length (decimal n))) (decimal_plain n)

year_plain : (year : ℤ) → has_no_feed (year_text year) ≡ true
year_plain (pos n) = padded_plain 4 n
year_plain (negsuc n) = padded_plain 4 (suc n)

civil_plain : (date : CivilDate) → has_no_feed (civil_text date) ≡ true
unfolding civil_text
civil_plain date =
    joined_no_feed (year_text date.year ++ 45 ∷ padded 2 date.month) (45 ∷ padded 2 date.day)
    (joined_no_feed (year_text date.year) (45 ∷ padded 2 date.month) (year_plain date.year) (padded_plain 2 date.month))
    (padded_plain 2 date.day)

clock_plain : (clock : ℕ) → has_no_feed (day_clock_text clock) ≡ true
unfolding day_clock_text
clock_plain clock =
    joined_no_feed (padded 2 (clock / 3600000000) ++ 58 ∷ padded 2 (clock / 60000000 % 60) ++ 58 ∷ padded 2 (clock / 1000000 % 60)) (46 ∷ padded 6 (clock % 1000000))
    (joined_no_feed (padded 2 (clock / 3600000000) ++ 58 ∷ padded 2 (clock / 60000000 % 60)) (58 ∷ padded 2 (clock / 1000000 % 60))
    (joined_no_feed (padded 2 (clock / 3600000000)) (58 ∷ padded 2 (clock / 60000000 % 60)) (padded_plain 2 (clock / 3600000000)) (padded_plain 2 (clock / 60000000 % 60)))
    (padded_plain 2 (clock / 1000000 % 60)))
    (padded_plain 6 (clock % 1000000))

reason_plain : (reason : Reason) → has_no_feed (reason_name reason) ≡ true
reason_plain Excluded = refl
reason_plain Weight0 = refl
reason_plain ErrMag = refl
reason_plain Duplicate = refl
reason_plain NoGrid = refl
reason_plain Far = refl
reason_plain BeyondMax = refl

-- a line that is whole and begins no certificate
record IsGood (line : LineText) : Type 0 where
  before : IsBefore line
  plain : has_no_feed line.bytes ≡ true

event_good : (number used skipped : ℕ) → IsGood (event_line number used skipped)
unfolding event_line
event_good number used skipped = record {
  before = record { ended = refl; other = refl };
  plain = line_plain (codes "EVENT" ∷ decimal number ∷ codes "PICKS" ∷ decimal used ∷ codes "SKIPPED" ∷ decimal skipped ∷ [])
      (rw (decimal_plain number, decimal_plain used, decimal_plain skipped) refl);
}

pick_before : (pick : UsedPick × List ℕ) → IsBefore (pick_line pick)
unfolding pick_line
pick_before pick = record { ended = refl; other = refl }

pick_plain : (pick : UsedPick × List ℕ) → has_names pick.0 ≡ true → has_no_feed pick.1 ≡ true → has_no_feed (pick_line pick).bytes ≡ true
unfolding pick_line
pick_plain pick names word =
    let parted = both (is_name 512 pick.0.station) (is_name 512 pick.0.phase) names in
    line_plain (codes "PICK" ∷ pick.0.station ∷ pick.0.phase ∷ signed_decimal pick.0.time ∷ decimal pick.0.weight ∷ pick.1 ∷ [])
    (rw (name_plain 512 pick.0.station parted.0, name_plain 512 pick.0.phase parted.1, signed_plain pick.0.time, decimal_plain pick.0.weight, word) refl)

skip_before : (skip : Skip) → IsBefore (skip_line skip)
unfolding skip_line
skip_before skip = record { ended = refl; other = refl }

skip_plain : (skip : Skip) → skip_has_names skip ≡ true → has_no_feed (skip_line skip).bytes ≡ true
unfolding skip_line
skip_plain skip names =
    let parted = both (is_name 512 skip.station) (is_name 512 skip.phase) names in
    line_plain (codes "SKIP" ∷ decimal skip.line ∷ skip.station ∷ skip.phase ∷ reason_name skip.reason ∷ [])
    (rw (decimal_plain skip.line, name_plain 512 skip.station parted.0, name_plain 512 skip.phase parted.1, reason_plain skip.reason) refl)

place_good : (place : ℕ × ℕ × ℕ) (x y z : ℤ) → IsGood (place_line place x y z)
unfolding place_line
place_good place x y z = record {
  before = record { ended = refl; other = refl };
  plain = line_plain (codes "HYPOCENTRE" ∷ decimal place.0 ∷ decimal place.1 ∷ decimal place.2 ∷ signed_decimal x ∷ signed_decimal y ∷ signed_decimal z ∷ [])
      (rw (decimal_plain place.0, decimal_plain place.1, decimal_plain place.2, signed_plain x, signed_plain y, signed_plain z) refl);
}

origin_good : (time : ℤ) → IsGood (origin_line time)
unfolding origin_line
origin_good time = record {
  before = record { ended = refl; other = refl };
  plain = line_plain (codes "ORIGIN" ∷ date_text time ∷ clock_text time ∷ []) (rw (civil_plain _, clock_plain _) refl);
}

rms_good : (rms : ℕ) → IsGood (rms_line rms)
unfolding rms_line
rms_good rms = record {
  before = record { ended = refl; other = refl };
  plain = line_plain (codes "RMS" ∷ decimal rms ∷ []) (rw (decimal_plain rms) refl);
}

met_good : (met : ℕ) → IsGood (met_line met)
unfolding met_line
met_good met = record {
  before = record { ended = refl; other = refl };
  plain = line_plain (codes "MET" ∷ decimal met ∷ []) (rw (decimal_plain met) refl);
}

lanes_good : (count : LaneValues) → IsGood (lanes_line count)
unfolding lanes_line
lanes_good count = record {
  before = record { ended = refl; other = refl };
  plain = line_plain (codes "LANES" ∷ decimal count.lanes ∷ codes "EVENTS" ∷ decimal count.events ∷ codes "LOST" ∷ decimal count.lost ∷ [])
      (rw (decimal_plain count.lanes, decimal_plain count.events, decimal_plain count.lost) refl);
}

-- lines that begin no certificate
before-append : (a b : List LineText) → AllByRecursion IsBefore a → AllByRecursion IsBefore b → AllByRecursion IsBefore (a ++ b)
before-append [] b first second = second
before-append (line ∷ a) b first second = (first.0, before-append a b first.1 second)

made_before : {X : Type 0} (f : X → LineText) (xs : List X) → ((x : X) → IsBefore (f x)) → AllByRecursion IsBefore (map f xs)
made_before f [] each = tt
made_before f (x ∷ xs) each = (each x, made_before f xs each)

used_before : (field : FieldTimes) (event : EventValues) (outcome : Option Outcome) → AllByRecursion IsBefore (used_lines field event outcome)
used_before field event None = made_before unplaced_line event.used (λ pick. pick_before (pick, codes "-"))
used_before field event (Some (IsLocated located)) = made_before pick_line (zip event.used (residual_words field located.hyp _)) pick_before
used_before field event (Some (FitsNowhere boxes met)) = made_before unplaced_line event.used (λ pick. pick_before (pick, codes "-"))
used_before field event (Some PassesBudget) = made_before unplaced_line event.used (λ pick. pick_before (pick, codes "-"))
used_before field event (Some PassesNearLimit) = made_before unplaced_line event.used (λ pick. pick_before (pick, codes "-"))

finding_before : (frame : Frame) (field : FieldTimes) (case : EventCase) (outcome : Option Outcome)
    → AllByRecursion IsBefore (finding_lines frame field case outcome)
finding_before frame field case None = tt
finding_before frame field case (Some (IsLocated located)) =
    ((place_good _ _ _ _).before, ((origin_good _).before, ((rms_good _).before, ((met_good located.met).before, tt))))
finding_before frame field case (Some (FitsNowhere boxes met)) = ((met_good met).before, tt)
finding_before frame field case (Some PassesBudget) = tt
finding_before frame field case (Some PassesNearLimit) = tt

lanes_before : (lanes : Option LaneValues) → AllByRecursion IsBefore (lane_lines lanes)
lanes_before None = tt
lanes_before (Some count) = ((lanes_good count).before, tt)

pub all_before : (frame : Frame) (field : FieldTimes) (event : EventValues) (outcome : Option Outcome) (lanes : Option LaneValues)
    → AllByRecursion IsBefore (lines_between frame field event outcome lanes)
all_before frame field event outcome lanes =
    before-append (report_lines frame field event outcome) (lane_lines lanes)
    (before-append (used_lines field event outcome ++ map skip_line event.skipped) (finding_lines frame field event.case outcome)
    (before-append (used_lines field event outcome) (map skip_line event.skipped) (used_before field event outcome)
    (made_before skip_line event.skipped skip_before))
    (finding_before frame field event.case outcome))
    (lanes_before lanes)

pub first_before : (number : ℕ) (event : EventValues) → IsBefore (first_line number event)
first_before number event = (event_good number (length event.used) (length event.skipped)).before

-- whole lines
whole_from : (lines : List LineText) → AllByRecursion IsBefore lines → AllByRecursion (λ line. has_no_feed line.bytes ≡ true) lines → AreWhole lines
whole_from [] before plain = tt
whole_from (line ∷ lines) before plain = (plain.0, before.0.ended, whole_from lines before.1 plain.1)

plain-append : (a b : List LineText) → AllByRecursion (λ line. has_no_feed line.bytes ≡ true) a → AllByRecursion (λ line. has_no_feed line.bytes ≡ true) b
    → AllByRecursion (λ line. has_no_feed line.bytes ≡ true) (a ++ b)
plain-append [] b first second = second
plain-append (line ∷ a) b first second = (first.0, plain-append a b first.1 second)

placed_plain : (used : List UsedPick) (residuals : List (ℤ × ℕ)) → list_all has_names used ≡ true
    → AllByRecursion (λ line. has_no_feed line.bytes ≡ true) (map pick_line (zip used (map residual_word residuals)))
placed_plain [] residuals names = tt
placed_plain (u ∷ used) [] names = tt
placed_plain (u ∷ used) (r ∷ residuals) names =
    let parted = both (has_names u) (list_all has_names used) names in
    (pick_plain (u, residual_word r) parted.0 (signed_plain r.0), placed_plain used residuals parted.1)

unplaced_plain : (used : List UsedPick) → list_all has_names used ≡ true
    → AllByRecursion (λ line. has_no_feed line.bytes ≡ true) (map unplaced_line used)
unplaced_plain [] names = tt
unplaced_plain (u ∷ used) names =
    let parted = both (has_names u) (list_all has_names used) names in
    (pick_plain (u, codes "-") parted.0 refl, unplaced_plain used parted.1)

skips_plain : (skips : List Skip) → list_all skip_has_names skips ≡ true
    → AllByRecursion (λ line. has_no_feed line.bytes ≡ true) (map skip_line skips)
skips_plain [] names = tt
skips_plain (s ∷ skips) names =
    let parted = both (skip_has_names s) (list_all skip_has_names skips) names in
    (skip_plain s parted.0, skips_plain skips parted.1)

used_plain : (field : FieldTimes) (event : EventValues) (outcome : Option Outcome) → list_all has_names event.used ≡ true
    → AllByRecursion (λ line. has_no_feed line.bytes ≡ true) (used_lines field event outcome)
used_plain field event None names = unplaced_plain event.used names
used_plain field event (Some (IsLocated located)) names = placed_plain event.used _ names
used_plain field event (Some (FitsNowhere boxes met)) names = unplaced_plain event.used names
used_plain field event (Some PassesBudget) names = unplaced_plain event.used names
used_plain field event (Some PassesNearLimit) names = unplaced_plain event.used names

finding_plain : (frame : Frame) (field : FieldTimes) (case : EventCase) (outcome : Option Outcome)
    → AllByRecursion (λ line. has_no_feed line.bytes ≡ true) (finding_lines frame field case outcome)
finding_plain frame field case None = tt
finding_plain frame field case (Some (IsLocated located)) =
    ((place_good _ _ _ _).plain, ((origin_good _).plain, ((rms_good _).plain, ((met_good located.met).plain, tt))))
finding_plain frame field case (Some (FitsNowhere boxes met)) = ((met_good met).plain, tt)
finding_plain frame field case (Some PassesBudget) = tt
finding_plain frame field case (Some PassesNearLimit) = tt

lanes_plain : (lanes : Option LaneValues) → AllByRecursion (λ line. has_no_feed line.bytes ≡ true) (lane_lines lanes)
lanes_plain None = tt
lanes_plain (Some count) = ((lanes_good count).plain, tt)

all_whole : (frame : Frame) (field : FieldTimes) (number : ℕ) (event : EventValues) (outcome : Option Outcome) (lanes : Option LaneValues)
    → IsPlainEvent event outcome → AreWhole (first_line number event ∷ lines_between frame field event outcome lanes)
all_whole frame field number event outcome lanes plain =
    let first = event_good number (length event.used) (length event.skipped) in (
      first.plain,
      first.before.ended,
      whole_from (lines_between frame field event outcome lanes) (all_before frame field event outcome lanes)
          (plain-append (report_lines frame field event outcome) (lane_lines lanes)
          (plain-append (used_lines field event outcome ++ map skip_line event.skipped) (finding_lines frame field event.case outcome)
          (plain-append (used_lines field event outcome) (map skip_line event.skipped) (used_plain field event outcome plain.used)
          (skips_plain event.skipped plain.skipped))
          (finding_plain frame field event.case outcome))
          (lanes_plain lanes)),
    )

-- the lines of a block are read back
pub block_of-lines : (frame : Frame) (field : FieldTimes) (number : ℕ) (event : EventValues) (outcome : Option Outcome) (lanes : Option LaneValues)
    (rest : List ℕ) → IsPlainEvent event outcome
    → lines_of (block_of frame field number event outcome lanes ++ rest)
    ≡ first_line number event ∷ (lines_between frame field event outcome lanes ++ (block_lines (certificate_value event.case outcome) ++ lines_of rest))
unfolding block_of
block_of-lines frame field number event outcome lanes rest plain =
    let front : List LineText = first_line number event ∷ lines_between frame field event outcome lanes in
    ap lines_of (append_assoc (text_of_lines front) (block_text (certificate_value event.case outcome)) rest)
    ∙ lines_back front (block_text (certificate_value event.case outcome) ++ rest) (all_whole frame field number event outcome lanes plain)
    ∙ ap (λ lines. front ++ lines) (block_text-lines (certificate_value event.case outcome) rest plain.valid plain.typed)
