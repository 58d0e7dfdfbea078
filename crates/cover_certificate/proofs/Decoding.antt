-- The lines of a block tell it, so they are those of it alone.
use Rattle.std.proofs.Common.{◌≡◌, ℕ, ◌+◌, ◌≤◌, true, List, [], ◌∷◌, ◌++◌, length, take, drop, map, Some, refl, sym, ◌∙◌, ap, arith, append_assoc}
use Rattle.std.specs.Prelude.{codes, slice_index}
use Rattle.std.specs.List.{list_all}
use Rattle.std.proofs.lemmas.List.{length-map}
use Rattle.text_terms.specs.Lines.{LineText}
use Rattle.node_boxes.specs.declared.node_box.BoxBound.{BoxBound}
use Rattle.cover_certificate.specs.declared.line_form.LineForm.{LineForm}
use Rattle.cover_certificate.specs.declared.line_form.LineForm.TheVariants.{Best, Near, Entry, Cover, Area}
use Rattle.cover_certificate.specs.Blocks.{BlockValue, LocatedValue, IsLocated, FitsNowhere, HasFew, HasMany, PassesBudget, PassesNearLimit, IsValidBlock, IsValidLocated}
use Rattle.cover_certificate.specs.LineForms.{are_allowed, slots_of}
use Rattle.cover_certificate.specs.LineFaults.{numbers_in}
use Rattle.cover_certificate.specs.BlockLines.{AreTypedBoxes, AreTypedNear, IsTypedBlock, IsTypedLocated, block_lines, body_lines, box_numbers, counted_lines, cover_lines, ended_line, entry_numbers, kind_of_block, located_lines, near_lines, numbers_line}
use Rattle.cover_certificate.specs.BlocksTold.{block_in, body_in, box_of, boxes_in, entry_of, items_in, located_in, near_in}
use Rattle.cover_certificate.proofs.PartLaws.{both}
use Rattle.cover_certificate.proofs.LineLaws.{kind_of-first_bytes, line_again}
use Rattle.cover_certificate.proofs.CountedLaws.{box_count, count_told, near_count}
use Rattle.cover_certificate.proofs.BlockLaws.{best_allowed, drop_lines}

-- the numbers of lines of items
lines_back : (item : LineForm) (items : List (List ℕ)) (rest : List LineText) → list_all (are_allowed (slots_of item)) items ≡ true
    → map (λ (line : LineText). numbers_in item line.bytes) (take (length items) (map (numbers_line item) items ++ rest)) ≡ items
lines_back item [] rest good = refl
lines_back item (x ∷ items) rest good =
    let parted = both (are_allowed (slots_of item) x) (list_all (are_allowed (slots_of item)) items) good in
    rw ((line_again item x parted.0).1, lines_back item items rest parted.1) refl

-- the items of the lines of a counted list
items_back : (count item : LineForm) (items : List (List ℕ)) (rest : List LineText) → are_allowed (slots_of count) (length items ∷ []) ≡ true
    → list_all (are_allowed (slots_of item)) items ≡ true → items_in count item (counted_lines count item items ++ rest) ≡ items
items_back count item items rest good typed =
    ap (λ n. map (λ (line : LineText). numbers_in item line.bytes) (take n (map (numbers_line item) items ++ rest))) (count_told count (length items) good)
    ∙ lines_back item items rest typed

entries_back : (near : List (ℕ × ℕ)) → map entry_of (map entry_numbers near) ≡ near
entries_back [] = refl
entries_back (entry ∷ near) = ap (λ entries. entry ∷ entries) (entries_back near)

boxes_back : (boxes : List BoxBound) → map box_of (map box_numbers boxes) ≡ boxes
boxes_back [] = refl
boxes_back (b ∷ boxes) = ap (λ bs. b ∷ bs) (boxes_back boxes)

near_back : (near : List (ℕ × ℕ)) (rest : List LineText) → length near ≤ 100000 → AreTypedNear near → near_in (near_lines near ++ rest) ≡ near
near_back near rest few typed =
    ap (map entry_of) (items_back Near Entry (map entry_numbers near) rest
    (near_count (length (map entry_numbers near)) (omega (arith, length-map near entry_numbers, few))) typed)
    ∙ entries_back near

cover_back : (boxes : List BoxBound) (rest : List LineText) → length boxes ≤ 2000000 → AreTypedBoxes boxes → boxes_in (cover_lines boxes ++ rest) ≡ boxes
cover_back boxes rest few typed =
    ap (map box_of) (items_back Cover Area (map box_numbers boxes) rest
    (box_count (length (map box_numbers boxes)) (omega (arith, length-map boxes box_numbers, few))) typed)
    ∙ boxes_back boxes

-- a located event is its four parts
located_is : (event other : LocatedValue) → event.hyp ≡ other.hyp → event.score ≡ other.score → event.near ≡ other.near → event.boxes ≡ other.boxes
    → event ≡ other
located_is event other a b c d = λ i. record { hyp = a i; score = b i; near = c i; boxes = d i }

located_back : (event : LocatedValue) (rest : List LineText) → IsValidLocated event → IsTypedLocated event
    → located_in (located_lines event ++ rest) ≡ event
located_back event rest valid typed =
    let best : numbers_in Best (numbers_line Best (event.hyp ∷ event.score ∷ [])).bytes ≡ event.hyp ∷ event.score ∷ [] =
    (line_again Best (event.hyp ∷ event.score ∷ []) (best_allowed event.hyp event.score typed.hyp valid.scored typed.score)).1 in
    let whole : (near_lines event.near ++ cover_lines event.boxes) ++ rest ≡ near_lines event.near ++ (cover_lines event.boxes ++ rest) =
    append_assoc (near_lines event.near) (cover_lines event.boxes) rest in
    let near : near_in ((near_lines event.near ++ cover_lines event.boxes) ++ rest) ≡ event.near =
    ap near_in whole ∙ near_back event.near (cover_lines event.boxes ++ rest) valid.near typed.near in
    let size : 1 + length event.near ≡ length (near_lines event.near) =
    omega (arith, length-map event.near entry_numbers, length-map (map entry_numbers event.near) (numbers_line Entry)) in
    let after : drop (1 + length (near_in ((near_lines event.near ++ cover_lines event.boxes) ++ rest))) ((near_lines event.near ++ cover_lines event.boxes) ++ rest)
    ≡ cover_lines event.boxes ++ rest =
    ap (λ (entries : List (ℕ × ℕ)). drop (1 + length entries) ((near_lines event.near ++ cover_lines event.boxes) ++ rest)) near
    ∙ ap (drop (1 + length event.near)) whole
    ∙ drop_lines (near_lines event.near) (cover_lines event.boxes ++ rest) (1 + length event.near) size in
    located_is (located_in (located_lines event ++ rest)) event
    (ap (λ (numbers : List ℕ). slice_index numbers 0) best) (ap (λ (numbers : List ℕ). slice_index numbers 1) best) near
    (ap boxes_in after ∙ cover_back event.boxes rest valid.boxes typed.boxes)

body_back : (block : BlockValue) (rest : List LineText) → IsValidBlock block → IsTypedBlock block
    → body_in (Some (kind_of_block block)) (body_lines block ++ rest) ≡ block
body_back (IsLocated event) rest valid typed = ap IsLocated (located_back event rest valid typed)
body_back (FitsNowhere boxes) rest valid typed = ap FitsNowhere (cover_back boxes rest valid typed)
body_back HasFew rest valid typed = refl
body_back HasMany rest valid typed = refl
body_back PassesBudget rest valid typed = refl
body_back PassesNearLimit rest valid typed = refl

-- the lines of a block tell it, whatever follows
pub block_back : (block : BlockValue) (rest : List LineText) → IsValidBlock block → IsTypedBlock block → block_in (block_lines block ++ rest) ≡ block
unfolding block_in
block_back block rest valid typed =
    ap (λ told. body_in told ((body_lines block ++ ended_line (codes "END") ∷ []) ++ rest)) (kind_of-first_bytes (kind_of_block block))
    ∙ ap (body_in (Some (kind_of_block block))) (append_assoc (body_lines block) (ended_line (codes "END") ∷ []) rest)
    ∙ body_back block (ended_line (codes "END") ∷ rest) valid typed

-- lines that begin with those of two blocks
pub one_block : (block other : BlockValue) (rest more : List LineText) → IsValidBlock block → IsTypedBlock block → IsValidBlock other
    → IsTypedBlock other → block_lines block ++ rest ≡ block_lines other ++ more → (block ≡ other) × (rest ≡ more)
one_block block other rest more valid typed other_valid other_typed e =
    let same : block ≡ other =
    sym (block_back block rest valid typed) ∙ ap block_in e ∙ block_back other more other_valid other_typed in (
      same,
      sym (drop_lines (block_lines block) rest (length (block_lines block)) refl)
          ∙ ap (drop (length (block_lines block))) e
          ∙ ap (λ (b : BlockValue). drop (length (block_lines b)) (block_lines other ++ more)) same
          ∙ drop_lines (block_lines other) more (length (block_lines other)) refl,
    )
