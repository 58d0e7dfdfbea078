-- The lines of a block's text are the block's.
use Rattle.std.proofs.Common.{◌≡◌, ℕ, zero, suc, ◌<◌, ◌≤◌, ◌^◌, Bool, true, false, not, List, [], ◌∷◌, ◌++◌, length, get_or, drop, map, refl, sym, ◌∙◌, ap, arith, append_assoc}
use Rattle.std.specs.Prelude.{codes, decimal}
use Rattle.std.specs.Char.{is_ascii_digit}
use Rattle.std.specs.Str.{all_ascii_digits}
use Rattle.std.specs.List.{list_all}
use Rattle.std.proofs.lemmas.Grind.{common_steps}
use Rattle.std.proofs.lemmas.List.{length-map}
use Rattle.std.proofs.lemmas.List.Folds.{list_all-append}
use Rattle.text_terms.specs.Lines.{LineText, is_line_feed, lines_of}
use Rattle.text_terms.proofs.LineLaws.{lines_of-ended}
use Rattle.text_terms.proofs.NumeralLaws.{digits_of-shortest, shortest-decimal}
use Rattle.node_boxes.specs.declared.node_box.BoxBound.{BoxBound}
use Rattle.cover_certificate.specs.declared.kind.Kind.{Kind}
use Rattle.cover_certificate.specs.declared.kind.Kind.TheVariants.{Located, NoFit, Few, Many, Budget, NearLimit}
use Rattle.cover_certificate.specs.declared.line_form.LineForm.{LineForm}
use Rattle.cover_certificate.specs.declared.line_form.LineForm.TheVariants.{Best, Near, Entry, Cover, Area}
use Rattle.cover_certificate.specs.declared.line_form.Slot.{Slot}
use Rattle.cover_certificate.specs.Blocks.{BlockValue, IsLocated, FitsNowhere, HasFew, HasMany, PassesBudget, PassesNearLimit, IsValidBlock}
use Rattle.cover_certificate.specs.Kinds.{first_bytes}
use Rattle.cover_certificate.specs.LineForms.{head_of, are_allowed, slots_of, is_allowed}
use Rattle.cover_certificate.specs.BlockLines.{AreTypedBoxes, AreTypedNear, IsTypedBlock, block_lines, block_text, body_lines, box_numbers, cover_lines, ended_line, entry_numbers, kind_of_block, near_lines, numbers_line, spaced, text_of_lines}
use Rattle.cover_certificate.proofs.PartLaws.{both}
use Rattle.cover_certificate.proofs.WordLaws.{allowed, allowed_small, is_wide}
use Rattle.cover_certificate.proofs.LineLaws.{all_wide}
use Rattle.cover_certificate.proofs.CountedLaws.{box_count, near_count}
use Rattle.cover_certificate.proofs.BlockLaws.{best_allowed}
use Rattle.cover_certificate.proofs.Decoding.{one_block}

-- no byte is a line feed
abbrev pub has_no_feed : List ℕ → Bool
has_no_feed bytes = list_all (λ b. not (is_line_feed b)) bytes

digit_no_feed : (b : ℕ) → is_ascii_digit b ≡ true → not (is_line_feed b) ≡ true
digit_no_feed b digit = grind (arith, common_steps)

digits_no_feed : (bytes : List ℕ) → all_ascii_digits bytes ≡ true → has_no_feed bytes ≡ true
digits_no_feed [] digits = refl
digits_no_feed (b ∷ bytes) digits =
    let parted = both (is_ascii_digit b) (all_ascii_digits bytes) digits in
    rw (digit_no_feed b parted.0, digits_no_feed bytes parted.1) refl

decimal_no_feed : (n : ℕ) → n < 2 ^ 64 → has_no_feed (decimal n) ≡ true
decimal_no_feed n small = digits_no_feed (decimal n) (digits_of-shortest (decimal n) (shortest-decimal n small))

pub joined_no_feed : (a b : List ℕ) → has_no_feed a ≡ true → has_no_feed b ≡ true → has_no_feed (a ++ b) ≡ true
joined_no_feed a b first second = list_all-append (λ x. not (is_line_feed x)) a b ∙ rw (first, second) refl

-- spaced numbers
spaced_no_feed : (slots : List Slot) (numbers : List ℕ) → list_all is_wide slots ≡ true → are_allowed slots numbers ≡ true
    → has_no_feed (spaced numbers) ≡ true
spaced_no_feed [] [] wide good = refl
spaced_no_feed [] (n ∷ numbers) wide good = absurd cc
spaced_no_feed (slot ∷ slots) [] wide good = absurd cc
spaced_no_feed (slot ∷ slots) (n ∷ []) wide good =
    decimal_no_feed n (allowed_small slot n (both (is_wide slot) (list_all is_wide slots) wide).0
    (allowed slot n (both (is_allowed slot n) (are_allowed slots []) good).0))
spaced_no_feed (slot ∷ slots) (n ∷ m ∷ numbers) wide good =
    let wides = both (is_wide slot) (list_all is_wide slots) wide in
    let goods = both (is_allowed slot n) (are_allowed slots (m ∷ numbers)) good in
    joined_no_feed (decimal n) (32 ∷ spaced (m ∷ numbers)) (decimal_no_feed n (allowed_small slot n wides.0 (allowed slot n goods.0)))
    (spaced_no_feed slots (m ∷ numbers) wides.1 goods.1)

head_no_feed : (form : LineForm) → has_no_feed (head_of form) ≡ true
head_no_feed Best = refl
head_no_feed Near = refl
head_no_feed Entry = refl
head_no_feed Cover = refl
head_no_feed Area = refl

-- lines that line feeds end and that hold none
abbrev pub AreWhole : List LineText → Type 0
AreWhole [] = Unit {0}
AreWhole (line ∷ lines) = (has_no_feed line.bytes ≡ true) × (line.ended ≡ true) × AreWhole lines

pub whole-append : (a b : List LineText) → AreWhole a → AreWhole b → AreWhole (a ++ b)
whole-append [] b first second = second
whole-append (line ∷ a) b first second = (first.0, first.1, whole-append a b first.2 second)

numbers_whole : (form : LineForm) (numbers : List ℕ) → are_allowed (slots_of form) numbers ≡ true
    → has_no_feed (numbers_line form numbers).bytes ≡ true
unfolding numbers_line
numbers_whole form numbers good =
    joined_no_feed (head_of form) (spaced numbers) (head_no_feed form) (spaced_no_feed (slots_of form) numbers (all_wide form) good)

numbers_ended : (form : LineForm) (numbers : List ℕ) → (numbers_line form numbers).ended ≡ true
unfolding numbers_line
numbers_ended form numbers = refl

items_whole : (form : LineForm) (items : List (List ℕ)) → list_all (are_allowed (slots_of form)) items ≡ true
    → AreWhole (map (numbers_line form) items)
items_whole form [] good = tt
items_whole form (item ∷ items) good =
    let parted = both (are_allowed (slots_of form) item) (list_all (are_allowed (slots_of form)) items) good in
    (numbers_whole form item parted.0, numbers_ended form item, items_whole form items parted.1)

near_whole : (near : List (ℕ × ℕ)) → length near ≤ 100000 → AreTypedNear near → AreWhole (near_lines near)
near_whole near few typed = (
  numbers_whole Near (length (map entry_numbers near) ∷ [])
      (near_count (length (map entry_numbers near)) (omega (arith, length-map near entry_numbers, few))),
  numbers_ended Near (length (map entry_numbers near) ∷ []),
  items_whole Entry (map entry_numbers near) typed,
)

cover_whole : (boxes : List BoxBound) → length boxes ≤ 2000000 → AreTypedBoxes boxes → AreWhole (cover_lines boxes)
cover_whole boxes few typed = (
  numbers_whole Cover (length (map box_numbers boxes) ∷ [])
      (box_count (length (map box_numbers boxes)) (omega (arith, length-map boxes box_numbers, few))),
  numbers_ended Cover (length (map box_numbers boxes) ∷ []),
  items_whole Area (map box_numbers boxes) typed,
)

body_whole : (block : BlockValue) → IsValidBlock block → IsTypedBlock block → AreWhole (body_lines block)
body_whole (IsLocated event) valid typed = (
  numbers_whole Best (event.hyp ∷ event.score ∷ []) (best_allowed event.hyp event.score typed.hyp valid.scored typed.score),
  numbers_ended Best (event.hyp ∷ event.score ∷ []),
  whole-append (near_lines event.near) (cover_lines event.boxes) (near_whole event.near valid.near typed.near)
      (cover_whole event.boxes valid.boxes typed.boxes),
)
body_whole (FitsNowhere boxes) valid typed = cover_whole boxes valid typed
body_whole HasFew valid typed = tt
body_whole HasMany valid typed = tt
body_whole PassesBudget valid typed = tt
body_whole PassesNearLimit valid typed = tt

first_no_feed : (kind : Kind) → has_no_feed (first_bytes kind) ≡ true
first_no_feed Located = refl
first_no_feed NoFit = refl
first_no_feed Few = refl
first_no_feed Many = refl
first_no_feed Budget = refl
first_no_feed NearLimit = refl

block_whole : (block : BlockValue) → IsValidBlock block → IsTypedBlock block → AreWhole (block_lines block)
block_whole block valid typed = (
  first_no_feed (kind_of_block block),
  refl,
  whole-append (body_lines block) (ended_line (codes "END") ∷ []) (body_whole block valid typed) (refl, refl, tt),
)

-- a byte that is no line feed
no_feed : (b : ℕ) → not (is_line_feed b) ≡ true → is_line_feed b ≡ false
no_feed b other = grind (arith, common_steps)

no_feed_at : (bytes : List ℕ) → has_no_feed bytes ≡ true → (j : ℕ) → j < length bytes → is_line_feed (get_or bytes j 0) ≡ false
no_feed_at [] h j less = absurd (omega arith)
no_feed_at (b ∷ bytes) h zero less = no_feed b (both (not (is_line_feed b)) (has_no_feed bytes) h).0
no_feed_at (b ∷ bytes) h (suc j) less = no_feed_at bytes (both (not (is_line_feed b)) (has_no_feed bytes) h).1 j (omega arith)

-- the lines of the text of lines
pub lines_back : (lines : List LineText) (rest : List ℕ) → AreWhole lines → lines_of (text_of_lines lines ++ rest) ≡ lines ++ lines_of rest
lines_back [] rest whole = refl
lines_back (line ∷ lines) rest whole =
    let joined : ((line.bytes ++ 10 ∷ []) ++ text_of_lines lines) ++ rest ≡ line.bytes ++ 10 ∷ (text_of_lines lines ++ rest) =
    simp append_assoc in
    let same : record { bytes = line.bytes; ended = true } ≡ line = rw (← whole.1) refl in
    ap lines_of joined
    ∙ lines_of-ended line.bytes (text_of_lines lines ++ rest) (no_feed_at line.bytes whole.0)
    ∙ ap (λ (l : LineText). l ∷ lines_of (text_of_lines lines ++ rest)) same
    ∙ ap (λ (ls : List LineText). line ∷ ls) (lines_back lines rest whole.2)

-- the lines of a block's text
pub block_text-lines : (block : BlockValue) (rest : List ℕ) → IsValidBlock block → IsTypedBlock block
    → lines_of (block_text block ++ rest) ≡ block_lines block ++ lines_of rest
unfolding block_text
block_text-lines block rest valid typed = lines_back (block_lines block) rest (block_whole block valid typed)

drop_bytes : (bytes rest : List ℕ) → drop (length bytes) (bytes ++ rest) ≡ rest
drop_bytes [] rest = refl
drop_bytes (b ∷ bytes) rest = drop_bytes bytes rest

-- a text is that of one block alone
pub one_text : (block other : BlockValue) (rest more : List ℕ) → IsValidBlock block → IsTypedBlock block → IsValidBlock other → IsTypedBlock other
    → block_text block ++ rest ≡ block_text other ++ more → (block ≡ other) × (rest ≡ more)
one_text block other rest more valid typed other_valid other_typed e =
    let lines : block_lines block ++ lines_of rest ≡ block_lines other ++ lines_of more =
    sym (block_text-lines block rest valid typed) ∙ ap lines_of e ∙ block_text-lines other more other_valid other_typed in
    let same : block ≡ other = (one_block block other (lines_of rest) (lines_of more) valid typed other_valid other_typed lines).0 in (
      same,
      sym (drop_bytes (block_text block) rest) ∙ ap (drop (length (block_text block))) e
          ∙ ap (λ (b : BlockValue). drop (length (block_text b)) (block_text other ++ more)) same
          ∙ drop_bytes (block_text other) more,
    )
