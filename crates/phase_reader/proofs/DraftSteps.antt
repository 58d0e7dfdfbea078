-- What one more line changes in the events, and in the draft of a phase file.
use Rattle.std.proofs.Common.{◌≡◌, ℕ, ◌+◌, true, false, List, [], ◌∷◌, ◌++◌, length, refl, sym, ◌∙◌, ap, arith}
use Rattle.std.specs.Prelude.{map, filter, count_by, ℤ}
use Rattle.std.specs.List.{slice_split}
use Rattle.std.proofs.lemmas.List.{map-append, length-map}
use Rattle.std.proofs.lemmas.List.Elements.{filter-append}
use Rattle.std.proofs.lemmas.Grind.{common_steps}
use Rattle.phase_reader.specs.declared.draft.PhaseDraft.{PhaseDraft}
use Rattle.phase_reader.specs.declared.kind.LineKind.TheVariants.{Blank, Comment, PublicId, PickLine}
use Rattle.phase_reader.specs.declared.phases.Event.{Event}
use Rattle.phase_reader.specs.declared.phases.Pick.{Pick}
use Rattle.text_terms.specs.Lines.{NumberedLine}
use Rattle.phase_reader.specs.LineKinds.{kind_of, parts, counts, picks, is_parting, is_passed, is_pick}
use Rattle.phase_reader.specs.PickFields.{pick_of}
use Rattle.phase_reader.specs.PhaseEvents.{is_event, events_of_parts, event_lines, last_part, parts_before_last, open_lines, closed_lines, events_of, passes_limit}
use Rattle.phase_reader.specs.PhaseFile.{picks_of_events}
use Rattle.phase_reader.specs.Inside.Drafts.{as_event, Follows}
use Rattle.phase_reader.proofs.EventLaws.{split_some, last_cut, last_of_snoc, before_of_snoc, split_snoc_yes, split_snoc_no}

-- nothing after a list
nothing_after : {A : Type 0} (xs : List A) → xs ++ [] ≡ xs
nothing_after [] = refl
nothing_after (x ∷ xs) = ap (λ ys. x ∷ ys) (nothing_after xs)

-- the events of parts one after another
parts_append : (ps qs : List (List NumberedLine)) → events_of_parts (ps ++ qs) ≡ events_of_parts ps ++ events_of_parts qs
parts_append ps qs =
    ap (filter is_event) (map-append (filter is_pick) ps qs) ∙ filter-append is_event (map (filter is_pick) ps) (map (filter is_pick) qs)

-- the events are those before the last blank line and the one after it
event_lines_cut : (lines : List NumberedLine) → event_lines lines ≡ closed_lines lines ++ filter is_event (open_lines lines ∷ [])
unfolding closed_lines open_lines
event_lines_cut lines =
    let all = slice_split is_parting lines in
    ap events_of_parts (last_cut all (split_some is_parting lines))
    ∙ parts_append (parts_before_last all) (last_part all ∷ [])

one_event : (open_picks : List NumberedLine) → map (map pick_of) (filter is_event (open_picks ∷ [])) ≡ as_event (map pick_of open_picks)
one_event [] = refl
one_event (line ∷ more) =
    let some : is_event (line ∷ more) ≡ true = grind (arith, common_steps) in
    rw some refl

pub events_cut : (lines : List NumberedLine) → events_of lines ≡ map (map pick_of) (closed_lines lines) ++ as_event (map pick_of (open_lines lines))
events_cut lines =
    ap (map (map pick_of)) (event_lines_cut lines)
    ∙ map-append (map pick_of) (closed_lines lines) (filter is_event (open_lines lines ∷ []))
    ∙ ap (λ es. map (map pick_of) (closed_lines lines) ++ es) (one_event (open_lines lines))

-- a blank line ends the event after the last one
open_parting : (lines : List NumberedLine) (line : NumberedLine) → is_parting line ≡ true → open_lines (lines ++ line ∷ []) ≡ []
unfolding open_lines
open_parting lines line is =
    ap (λ ps. filter is_pick (last_part ps)) (split_snoc_yes is_parting lines line is)
    ∙ ap (filter is_pick) (last_of_snoc (slice_split is_parting lines) [])

closed_parting : (lines : List NumberedLine) (line : NumberedLine) → is_parting line ≡ true → closed_lines (lines ++ line ∷ []) ≡ event_lines lines
unfolding closed_lines
closed_parting lines line is =
    ap (λ ps. events_of_parts (parts_before_last ps)) (split_snoc_yes is_parting lines line is)
    ∙ ap events_of_parts (before_of_snoc (slice_split is_parting lines) [])

-- every other line stands after the last blank line
open_other : (lines : List NumberedLine) (line : NumberedLine) → is_parting line ≡ false
    → open_lines (lines ++ line ∷ []) ≡ open_lines lines ++ filter is_pick (line ∷ [])
unfolding open_lines
open_other lines line is =
    let all = slice_split is_parting lines in
    ap (λ ps. filter is_pick (last_part ps)) (split_snoc_no is_parting lines line is)
    ∙ ap (filter is_pick) (last_of_snoc (parts_before_last all) (last_part all ++ line ∷ []))
    ∙ filter-append is_pick (last_part all) (line ∷ [])

closed_other : (lines : List NumberedLine) (line : NumberedLine) → is_parting line ≡ false → closed_lines (lines ++ line ∷ []) ≡ closed_lines lines
unfolding closed_lines
closed_other lines line is =
    let all = slice_split is_parting lines in
    ap (λ ps. events_of_parts (parts_before_last ps)) (split_snoc_no is_parting lines line is)
    ∙ ap events_of_parts (before_of_snoc (parts_before_last all) (last_part all ++ line ∷ []))

-- one more line that is counted, and one that isn't
count_yes : (lines : List NumberedLine) (line : NumberedLine) → is_passed line ≡ true → count_by is_passed (lines ++ line ∷ []) ≡ count_by is_passed lines + 1
count_yes lines line is = grind (arith, common_steps)

count_no : (lines : List NumberedLine) (line : NumberedLine) → is_passed line ≡ false → count_by is_passed (lines ++ line ∷ []) ≡ count_by is_passed lines
count_no lines line is = grind (arith, common_steps)

-- a draft follows a blank line
pub follows_blank : (lines : List NumberedLine) (line : NumberedLine) (old new : PhaseDraft) → Follows lines old → kind_of line ≡ Blank
    → picks_of_events new.events.items ≡ picks_of_events old.events.items ++ as_event old.picks.items → new.picks.items ≡ [] → new.passed ≡ old.passed
    → Follows (lines ++ line ∷ []) new
follows_blank lines line old new follows is events none same =
    let part : is_parting line ≡ true = ap parts is in
    let other : is_passed line ≡ false = ap counts is in
    record {
      events =
          rw (closed_parting lines line part, events_cut lines) (
          events ∙ ap (λ es. es ++ as_event old.picks.items) follows.events
          ∙ ap (λ ps. map (map pick_of) (closed_lines lines) ++ as_event ps) follows.picks);
      picks = rw (open_parting lines line part) none;
      passed = same ∙ follows.passed ∙ sym (count_no lines line other);
    }

-- a draft follows a comment as it is
pub follows_comment : (lines : List NumberedLine) (line : NumberedLine) (draft : PhaseDraft) → Follows lines draft → kind_of line ≡ Comment
    → Follows (lines ++ line ∷ []) draft
follows_comment lines line draft follows is =
    let inside : is_parting line ≡ false = ap parts is in
    let other : is_passed line ≡ false = ap counts is in
    let no_pick : is_pick line ≡ false = ap picks is in
    record {
      events = rw (closed_other lines line inside) follows.events;
      picks = rw (open_other lines line inside, no_pick) (follows.picks ∙ ap (map pick_of) (sym (nothing_after (open_lines lines))));
      passed = follows.passed ∙ sym (count_no lines line other);
    }

-- a draft that counts one more line follows one that is passed over
pub follows_passed : (lines : List NumberedLine) (line : NumberedLine) (old new : PhaseDraft) → Follows lines old → kind_of line ≡ PublicId
    → new.events ≡ old.events → new.picks ≡ old.picks → new.passed ≡ old.passed + 1 → Follows (lines ++ line ∷ []) new
follows_passed lines line old new follows is events same more =
    let inside : is_parting line ≡ false = ap parts is in
    let counted : is_passed line ≡ true = ap counts is in
    let no_pick : is_pick line ≡ false = ap picks is in
    record {
      events = rw (closed_other lines line inside) (ap (λ es. picks_of_events es.items) events ∙ follows.events);
      picks =
          rw (open_other lines line inside, no_pick) (
          ap (λ ps. ps.items) same ∙ follows.picks ∙ ap (map pick_of) (sym (nothing_after (open_lines lines))));
      passed = more ∙ ap (λ n. n + 1) follows.passed ∙ sym (count_yes lines line counted);
    }

-- a draft with one more pick follows its line
pub follows_pick : (lines : List NumberedLine) (line : NumberedLine) (pick : Pick) (old new : PhaseDraft) → Follows lines old → kind_of line ≡ PickLine
    → new.events ≡ old.events → new.picks.items ≡ old.picks.items ++ pick ∷ [] → pick ≡ pick_of line → new.passed ≡ old.passed
    → Follows (lines ++ line ∷ []) new
follows_pick lines line pick old new follows is events more means same =
    let inside : is_parting line ≡ false = ap parts is in
    let other : is_passed line ≡ false = ap counts is in
    let a_pick : is_pick line ≡ true = ap picks is in
    record {
      events = rw (closed_other lines line inside) (ap (λ es. picks_of_events es.items) events ∙ follows.events);
      picks =
          rw (open_other lines line inside, a_pick, map-append pick_of (open_lines lines) (line ∷ [])) (
          more ∙ ap (λ ps. ps ++ pick ∷ []) follows.picks ∙ ap (λ p. map pick_of (open_lines lines) ++ p ∷ []) means);
      passed = same ∙ follows.passed ∙ sym (count_no lines line other);
    }

-- how many events stand before matters only to a pick that begins one
limit_same : (n m : ℕ) (ps : List Pick) (time : ℤ) → (ps ≡ [] → n ≡ m) → passes_limit n ps time ≡ passes_limit m ps time
limit_same n m [] time same = rw (same refl) refl
limit_same n m (p ∷ ps) time same = refl

none_open : (open_picks : List NumberedLine) → map pick_of open_picks ≡ [] → filter is_event (open_picks ∷ []) ≡ []
none_open [] e = refl
none_open (line ∷ more) e = absurd cc

events_counted : (lines : List NumberedLine) (draft : PhaseDraft) → Follows lines draft → draft.picks.items ≡ [] → length draft.events.items ≡ length (event_lines lines)
events_counted lines draft follows none =
    let no_open : filter is_event (open_lines lines ∷ []) ≡ [] = none_open (open_lines lines) (sym follows.picks ∙ none) in
    let closed : event_lines lines ≡ closed_lines lines = event_lines_cut lines ∙ ap (λ es. closed_lines lines ++ es) no_open ∙ nothing_after (closed_lines lines) in
    let seen : length (picks_of_events draft.events.items) ≡ length draft.events.items = length-map draft.events.items (λ (event : Event). event.picks.items) in
    let told : length (map (map pick_of) (closed_lines lines)) ≡ length (closed_lines lines) = length-map (closed_lines lines) (map pick_of) in
    sym seen ∙ ap length follows.events ∙ told ∙ ap length (sym closed)

-- the limits by the draft are those by the lines
pub limit_follows : (lines : List NumberedLine) (draft : PhaseDraft) (time : ℤ) → Follows lines draft
    → passes_limit (length draft.events.items) draft.picks.items time ≡ passes_limit (length (event_lines lines)) (map pick_of (open_lines lines)) time
limit_follows lines draft time follows =
    limit_same (length draft.events.items) (length (event_lines lines)) draft.picks.items time (events_counted lines draft follows)
    ∙ ap (λ ps. passes_limit (length (event_lines lines)) ps time) follows.picks
