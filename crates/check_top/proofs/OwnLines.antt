-- The lines that a run that locates writes have no cause.
use Rattle.std.proofs.Common.{◌≡◌, ℕ, ◌<◌, ◌^◌, ◌==◌, true, not, List, [], ◌∷◌, length, Some, None, refl, arith}
use Rattle.std.specs.Prelude.{codes, decimal}
use Rattle.std.specs.List.{join_with_byte, list_all}
use Rattle.std.proofs.lemmas.Bool.{lt-ltb}
use Rattle.std.proofs.lemmas.Bool.Decides.{nat_tests}
use Rattle.std.proofs.lemmas.Grind.{common_steps}
use Rattle.text_terms.specs.Lines.{is_line_feed}
use Rattle.std.specs.Char.{is_ascii_digit}
use Rattle.std.specs.Str.{all_ascii_digits}
use Rattle.text_terms.proofs.NumeralLaws.{digits_of-shortest, shortest-decimal}
use Rattle.cover_certificate.specs.LineWords.{parts}
use Rattle.cover_certificate.proofs.PartLaws.{both, parts-join}
use Rattle.cover_certificate.proofs.TextLaws.{has_no_feed, joined_no_feed}
use Rattle.cover_certificate.proofs.WordLaws.{number_of-decimal, plain-decimal, reads-decimal}
use Rattle.event_assembly.specs.AssemblyValues.{EventValues}
use Rattle.location_report.specs.Blocks.{first_line}
use Rattle.location_report.specs.Lines.{event_line, line_of}
use Rattle.check_top.specs.ReportLines.{each_fits, event_cause, event_form, has_form, head_cause, head_form, is_number, words_cause}

-- a number of 32 bits has 64
wide : (n : ℕ) → n < 2 ^ 32 → n < 2 ^ 64
wide n small = omega (arith, small)

same_number : (n : ℕ) → (n == n) ≡ true
same_number n = grind (arith, nat_tests)

-- words that have their forms, and whose numbers are numbers, have no cause
fitting : (forms words : List (List ℕ)) → each_fits has_form forms words ≡ true → each_fits is_number forms words ≡ true → words_cause forms words ≡ None
unfolding words_cause
fitting forms words form number = rw (form, number) refl

-- the words of the head line
abbrev pub head_words : ℕ → ℕ → ℕ → List (List ℕ)
head_words events control phases =
    codes "EDTLOC" ∷ codes "1" ∷ codes "EVENTS" ∷ decimal events ∷ codes "PASSED" ∷ decimal control ∷ decimal phases ∷ []

head_parts : (events control phases : ℕ) → events < 2 ^ 32 → control < 2 ^ 32 → phases < 2 ^ 32
    → parts (line_of (head_words events control phases)).bytes ≡ head_words events control phases
head_parts events control phases a b c =
    parts-join (codes "EDTLOC") (codes "1" ∷ codes "EVENTS" ∷ decimal events ∷ codes "PASSED" ∷ decimal control ∷ decimal phases ∷ [])
    (rw (plain-decimal events (wide events a), plain-decimal control (wide control b), plain-decimal phases (wide phases c)) refl)

head_fits : (events control phases : ℕ) → events < 2 ^ 32 → control < 2 ^ 32 → phases < 2 ^ 32
    → words_cause head_form (head_words events control phases) ≡ None
head_fits events control phases a b c =
    fitting head_form (head_words events control phases)
    (rw (plain-decimal events (wide events a), plain-decimal control (wide control b), plain-decimal phases (wide phases c)) refl)
    (rw (
      reads-decimal events (wide events a),
      reads-decimal control (wide control b),
      reads-decimal phases (wide phases c),
      lt-ltb events (2 ^ 32) a,
      lt-ltb control (2 ^ 32) b,
      lt-ltb phases (2 ^ 32) c,
    ) refl)

-- the head line has no cause
pub head_read : (events control phases : ℕ) → events < 2 ^ 32 → control < 2 ^ 32 → phases < 2 ^ 32
    → head_cause events (Some (line_of (head_words events control phases))) ≡ None
unfolding head_cause
head_read events control phases a b c =
    rw (head_parts events control phases a b c, head_fits events control phases a b c, number_of-decimal events (wide events a), same_number events) refl

-- the words of the first line of an event
abbrev event_words : ℕ → ℕ → ℕ → List (List ℕ)
event_words number used skipped =
    codes "EVENT" ∷ decimal number ∷ codes "PICKS" ∷ decimal used ∷ codes "SKIPPED" ∷ decimal skipped ∷ []

event_parts : (number used skipped : ℕ) → number < 2 ^ 32 → used < 2 ^ 32 → skipped < 2 ^ 32
    → parts (event_line number used skipped).bytes ≡ event_words number used skipped
unfolding event_line
event_parts number used skipped a b c =
    parts-join (codes "EVENT") (decimal number ∷ codes "PICKS" ∷ decimal used ∷ codes "SKIPPED" ∷ decimal skipped ∷ [])
    (rw (plain-decimal number (wide number a), plain-decimal used (wide used b), plain-decimal skipped (wide skipped c)) refl)

event_ended : (number used skipped : ℕ) → (event_line number used skipped).ended ≡ true
unfolding event_line
event_ended number used skipped = refl

event_fits : (number used skipped : ℕ) → number < 2 ^ 32 → used < 2 ^ 32 → skipped < 2 ^ 32
    → words_cause event_form (event_words number used skipped) ≡ None
event_fits number used skipped a b c =
    fitting event_form (event_words number used skipped)
    (rw (plain-decimal number (wide number a), plain-decimal used (wide used b), plain-decimal skipped (wide skipped c)) refl)
    (rw (
      reads-decimal number (wide number a),
      reads-decimal used (wide used b),
      reads-decimal skipped (wide skipped c),
      lt-ltb number (2 ^ 32) a,
      lt-ltb used (2 ^ 32) b,
      lt-ltb skipped (2 ^ 32) c,
    ) refl)

-- it has no cause
pub event_read : (number : ℕ) (event : EventValues) → number < 2 ^ 32 → length event.used < 2 ^ 32 → length event.skipped < 2 ^ 32
    → event_cause number (Some (first_line number event)) ≡ None
unfolding event_cause
event_read number event a b c =
    let used : ℕ = length event.used in
    let skipped : ℕ = length event.skipped in
    rw (event_ended number used skipped, event_parts number used skipped a b c, event_fits number used skipped a b c, number_of-decimal number (wide number a), same_number number) refl

-- digits are no line feeds
digit_plain : (b : ℕ) → is_ascii_digit b ≡ true → not (is_line_feed b) ≡ true
digit_plain b digit = grind (arith, common_steps)

digits_plain : (bytes : List ℕ) → all_ascii_digits bytes ≡ true → has_no_feed bytes ≡ true
digits_plain [] digits = refl
digits_plain (b ∷ bytes) digits =
    let parted = both (is_ascii_digit b) (all_ascii_digits bytes) digits in
    rw (digit_plain b parted.0, digits_plain bytes parted.1) refl

number_plain : (n : ℕ) → n < 2 ^ 32 → has_no_feed (decimal n) ≡ true
number_plain n small = digits_plain (decimal n) (digits_of-shortest (decimal n) (shortest-decimal n (wide n small)))

-- words without line feeds are a line without one
words_plain : (words : List (List ℕ)) → list_all has_no_feed words ≡ true → has_no_feed (join_with_byte 32 words) ≡ true
words_plain [] plain = refl
words_plain (word ∷ []) plain = (both (has_no_feed word) true plain).0
words_plain (word ∷ next ∷ words) plain =
    let parted = both (has_no_feed word) (list_all has_no_feed (next ∷ words)) plain in
    joined_no_feed word (32 ∷ join_with_byte 32 (next ∷ words)) parted.0 (words_plain (next ∷ words) parted.1)

pub head_plain : (events control phases : ℕ) → events < 2 ^ 32 → control < 2 ^ 32 → phases < 2 ^ 32
    → has_no_feed (line_of (head_words events control phases)).bytes ≡ true
head_plain events control phases a b c =
    words_plain (head_words events control phases) (rw (number_plain events a, number_plain control b, number_plain phases c) refl)
