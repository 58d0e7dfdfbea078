-- The lines of a block are what they have to be, whatever follows them.
use Rattle.std.proofs.Common.{◌≡◌, ℕ, suc, ◌+◌, ◌<◌, ◌≤◌, ◌^◌, true, List, [], ◌∷◌, ◌++◌, length, drop, map, Some, None, refl, sym, ◌∙◌, ap, subst, arith, append_assoc}
use Rattle.std.specs.Prelude.{nat_le, codes, slice_get}
use Rattle.std.proofs.lemmas.List.{length-map}
use Rattle.std.proofs.lemmas.Grind.{common_steps}
use Rattle.text_terms.specs.Lines.{LineText}
use Rattle.node_boxes.specs.declared.node_box.BoxBound.{BoxBound}
use Rattle.cover_certificate.specs.declared.block.BlockCause.{BlockCause}
use Rattle.cover_certificate.specs.declared.kind.Kind.{Kind}
use Rattle.cover_certificate.specs.declared.line_form.LineForm.TheVariants.{Best, Near, Entry, Cover, Area}
use Rattle.cover_certificate.specs.Blocks.{BlockValue, LocatedValue, IsLocated, FitsNowhere, HasFew, HasMany, PassesBudget, PassesNearLimit, IsValidBlock, IsValidLocated}
use Rattle.cover_certificate.specs.Kinds.{first_bytes}
use Rattle.cover_certificate.specs.LineForms.{Wanted, FirstLine, Numbered, LastLine, are_allowed, slots_of}
use Rattle.cover_certificate.specs.LineFaults.{line_fault}
use Rattle.cover_certificate.specs.BlockLines.{AreTypedBoxes, AreTypedNear, IsTypedBlock, IsTypedLocated, block_lines, body_lines, box_numbers, cover_lines, ended_line, entry_numbers, kind_of_block, located_lines, near_lines, numbers_line}
use Rattle.cover_certificate.specs.BlockFaults.{body_wanted, cover_wanted, kind_told, located_wanted, near_cover_wanted, near_wanted, wanted_of}
use Rattle.cover_certificate.specs.Inside.FirstFaults.{first_fault}
use Rattle.cover_certificate.proofs.LineLaws.{first_line_again, kind_of-first_bytes, last_line_again, line_again}
use Rattle.cover_certificate.proofs.FirstFaultLaws.{AreFine, fine-append, first_fault-after, first_fault-front}
use Rattle.cover_certificate.proofs.BlockSteps.{passes}
use Rattle.cover_certificate.proofs.CountedLaws.{box_count, counted_fine, near_count}

-- as many lines as are wanted
fine_length : (wanted : List Wanted) (lines : List LineText) → AreFine wanted lines → length wanted ≡ length lines
fine_length [] [] fine = refl
fine_length [] (line ∷ lines) fine = absurd fine
fine_length (w ∷ wanted) [] fine = absurd fine
fine_length (w ∷ wanted) (line ∷ lines) fine = ap suc (fine_length wanted lines fine.1)

-- what stands after the first lines
pub drop_lines : (lines rest : List LineText) (n : ℕ) → n ≡ length lines → drop n (lines ++ rest) ≡ rest
drop_lines [] rest n is = rw is refl
drop_lines (line ∷ lines) rest n is = rw is (drop_lines lines rest (length lines) refl)

-- the near nodes
pub near_fine : (near : List (ℕ × ℕ)) (rest : List LineText) → length near ≤ 100000 → AreTypedNear near
    → AreFine (near_wanted (near_lines near ++ rest)) (near_lines near)
near_fine near rest few typed =
    counted_fine Near Entry (map entry_numbers near) rest
    (near_count (length (map entry_numbers near)) (omega (arith, length-map near entry_numbers, few))) typed

-- a cover
pub cover_fine : (boxes : List BoxBound) (rest : List LineText) → length boxes ≤ 2000000 → AreTypedBoxes boxes
    → AreFine (cover_wanted (cover_lines boxes ++ rest)) (cover_lines boxes)
cover_fine boxes rest few typed =
    counted_fine Cover Area (map box_numbers boxes) rest
    (box_count (length (map box_numbers boxes)) (omega (arith, length-map boxes box_numbers, few))) typed

-- what the lines after the near nodes have to be
pub after_near : (near : List (ℕ × ℕ)) (rest : List LineText) → length near ≤ 100000 → AreTypedNear near
    → near_cover_wanted (near_lines near ++ rest) ≡ near_wanted (near_lines near ++ rest) ++ cover_wanted rest
after_near near rest few typed =
    let fine : AreFine (near_wanted (near_lines near ++ rest)) (near_lines near) = near_fine near rest few typed in
    ap (λ lines. near_wanted (near_lines near ++ rest) ++ cover_wanted lines)
    (drop_lines (near_lines near) rest (length (near_wanted (near_lines near ++ rest))) (fine_length (near_wanted (near_lines near ++ rest)) (near_lines near) fine))

-- a fault of the near nodes of a located event
pub near_fault : (best : LineText) (old mid : List LineText) (p q : ℕ) (f : ℕ × BlockCause) → old ≡ best ∷ mid
    → line_fault (Numbered Best) best ≡ None → q ≡ suc p
    → first_fault (near_wanted mid) mid q ≡ Some f → first_fault (located_wanted old) old p ≡ Some f
near_fault best old mid p q f is fine next fault =
    ap (λ lines. first_fault (located_wanted lines) lines p) is
    ∙ passes (Numbered Best) (near_cover_wanted mid) best mid p fine
    ∙ first_fault-front (near_wanted mid) (cover_wanted (drop (length (near_wanted mid)) mid)) mid (suc p) f (rw next at fault)

-- a fault of its cover
pub cover_fault : (best : LineText) (near : List (ℕ × ℕ)) (old mid rest : List LineText) (p q : ℕ) (f : ℕ × BlockCause) → old ≡ best ∷ mid
    → line_fault (Numbered Best) best ≡ None → mid ≡ near_lines near ++ rest → length near ≤ 100000 → AreTypedNear near
    → q ≡ suc p + length (near_lines near) → first_fault (cover_wanted rest) rest q ≡ Some f
    → first_fault (located_wanted old) old p ≡ Some f
cover_fault best near old mid rest p q f is fine goes few typed next fault =
    ap (λ lines. first_fault (located_wanted lines) lines p) is
    ∙ passes (Numbered Best) (near_cover_wanted mid) best mid p fine
    ∙ ap (λ lines. first_fault (near_cover_wanted lines) lines (suc p)) goes
    ∙ ap (λ wanted. first_fault wanted (near_lines near ++ rest) (suc p)) (after_near near rest few typed)
    ∙ first_fault-after (near_wanted (near_lines near ++ rest)) (cover_wanted rest) (near_lines near) rest (suc p) (near_fine near rest few typed)
    ∙ rw (← next) fault

-- the numbers of the hypocentre are allowed
pub best_allowed : (hyp score : ℕ) → hyp < 2 ^ 32 → 1 ≤ score → score < 2 ^ 64 → are_allowed (slots_of Best) (hyp ∷ score ∷ []) ≡ true
best_allowed hyp score small some wide =
    let a : nat_le hyp 4294967295 ≡ true = grind (arith, common_steps) in
    let b : nat_le 1 score ≡ true = grind (arith, common_steps) in
    let d : nat_le score 18446744073709551615 ≡ true = grind (arith, common_steps) in
    let z : nat_le 0 hyp ≡ true = grind (arith, common_steps) in
    rw (z, a, b, d) refl

-- the lines of a located event
pub located_fine : (event : LocatedValue) (rest : List LineText) → IsValidLocated event → IsTypedLocated event
    → AreFine (located_wanted (located_lines event ++ rest)) (located_lines event)
located_fine event rest valid typed =
    let best : line_fault (Numbered Best) (numbers_line Best (event.hyp ∷ event.score ∷ [])) ≡ None =
    (line_again Best (event.hyp ∷ event.score ∷ []) (best_allowed event.hyp event.score typed.hyp valid.scored typed.score)).0 in
    let whole : (near_lines event.near ++ cover_lines event.boxes) ++ rest ≡ near_lines event.near ++ (cover_lines event.boxes ++ rest) =
    append_assoc (near_lines event.near) (cover_lines event.boxes) rest in
    let near : AreFine (near_wanted (near_lines event.near ++ (cover_lines event.boxes ++ rest))) (near_lines event.near) =
    near_fine event.near (cover_lines event.boxes ++ rest) valid.near typed.near in
    let cover : AreFine (cover_wanted (cover_lines event.boxes ++ rest)) (cover_lines event.boxes) =
    cover_fine event.boxes rest valid.boxes typed.boxes in
    let both : AreFine (near_wanted (near_lines event.near ++ (cover_lines event.boxes ++ rest)) ++ cover_wanted (cover_lines event.boxes ++ rest))
    (near_lines event.near ++ cover_lines event.boxes) =
    fine-append (near_wanted (near_lines event.near ++ (cover_lines event.boxes ++ rest))) (cover_wanted (cover_lines event.boxes ++ rest)) (near_lines event.near) (cover_lines event.boxes) near cover in
    let P : List Wanted → Type 0 = λ wanted. AreFine wanted (near_lines event.near ++ cover_lines event.boxes) in
    let Q : List LineText → Type 0 = λ lines. AreFine (near_cover_wanted lines) (near_lines event.near ++ cover_lines event.boxes) in
    (best, subst Q (sym whole) (subst P (sym (after_near event.near (cover_lines event.boxes ++ rest) valid.near typed.near)) both))

-- the lines between the first and the last
pub body_fine : (block : BlockValue) (rest : List LineText) → IsValidBlock block → IsTypedBlock block
    → AreFine (body_wanted (Some (kind_of_block block)) (body_lines block ++ rest)) (body_lines block)
body_fine (IsLocated event) rest valid typed = located_fine event rest valid typed
body_fine (FitsNowhere boxes) rest valid typed = cover_fine boxes rest valid typed
body_fine HasFew rest valid typed = tt
body_fine HasMany rest valid typed = tt
body_fine PassesBudget rest valid typed = tt
body_fine PassesNearLimit rest valid typed = tt

-- what the lines after the first have to be
pub wanted_after : (kind : Kind) (lines : List LineText)
    → wanted_of (ended_line (first_bytes kind) ∷ lines) ≡ FirstLine ∷ (body_wanted (Some kind) lines ++ LastLine ∷ [])
unfolding wanted_of
wanted_after kind lines = ap (λ told. FirstLine ∷ (body_wanted told lines ++ LastLine ∷ [])) (kind_of-first_bytes kind)

-- all lines of a block
pub block_fine : (block : BlockValue) (rest : List LineText) → IsValidBlock block → IsTypedBlock block
    → AreFine (wanted_of (block_lines block ++ rest)) (block_lines block)
block_fine block rest valid typed =
    let whole : (body_lines block ++ ended_line (codes "END") ∷ []) ++ rest ≡ body_lines block ++ (ended_line (codes "END") ∷ rest) =
    append_assoc (body_lines block) (ended_line (codes "END") ∷ []) rest in
    let body : AreFine (body_wanted (Some (kind_of_block block)) (body_lines block ++ (ended_line (codes "END") ∷ rest))) (body_lines block) =
    body_fine block (ended_line (codes "END") ∷ rest) valid typed in
    let all : AreFine (body_wanted (Some (kind_of_block block)) (body_lines block ++ (ended_line (codes "END") ∷ rest)) ++ LastLine ∷ [])
    (body_lines block ++ ended_line (codes "END") ∷ []) =
    fine-append (body_wanted (Some (kind_of_block block)) (body_lines block ++ (ended_line (codes "END") ∷ rest))) (LastLine ∷ []) (body_lines block) (ended_line (codes "END") ∷ []) body (last_line_again, tt) in
    let P : List Wanted → Type 0 = λ wanted. AreFine wanted (block_lines block) in
    let Q : List LineText → Type 0 = λ lines. AreFine (body_wanted (Some (kind_of_block block)) lines ++ LastLine ∷ []) (body_lines block ++ ended_line (codes "END") ∷ []) in
    subst P (sym (wanted_after (kind_of_block block) ((body_lines block ++ ended_line (codes "END") ∷ []) ++ rest)))
    (first_line_again (kind_of_block block), subst Q (sym whole) all)

-- a fault of the lines between the first and the last
pub body_fault : (kind : Kind) (old mid : List LineText) (p q : ℕ) (f : ℕ × BlockCause) → old ≡ ended_line (first_bytes kind) ∷ mid
    → q ≡ suc p → first_fault (body_wanted (Some kind) mid) mid q ≡ Some f → first_fault (wanted_of old) old p ≡ Some f
body_fault kind old mid p q f is next fault =
    ap (λ lines. first_fault (wanted_of lines) lines p) is
    ∙ ap (λ wanted. first_fault wanted (ended_line (first_bytes kind) ∷ mid) p) (wanted_after kind mid)
    ∙ passes FirstLine (body_wanted (Some kind) mid ++ LastLine ∷ []) (ended_line (first_bytes kind)) mid p (first_line_again kind)
    ∙ first_fault-front (body_wanted (Some kind) mid) (LastLine ∷ []) mid (suc p) f (rw next at fault)

-- a fault of the last line
pub end_fault : (kind : Kind) (block : BlockValue) (old mid rest : List LineText) (p q : ℕ) (f : ℕ × BlockCause)
    → old ≡ ended_line (first_bytes kind) ∷ mid → kind_of_block block ≡ kind → mid ≡ body_lines block ++ rest
    → IsValidBlock block → IsTypedBlock block → q ≡ suc p + length (body_lines block)
    → first_fault (LastLine ∷ []) rest q ≡ Some f → first_fault (wanted_of old) old p ≡ Some f
end_fault kind block old mid rest p q f is same goes valid typed next fault =
    let body : AreFine (body_wanted (Some kind) (body_lines block ++ rest)) (body_lines block) = rw same at (body_fine block rest valid typed) in
    ap (λ lines. first_fault (wanted_of lines) lines p) is
    ∙ ap (λ wanted. first_fault wanted (ended_line (first_bytes kind) ∷ mid) p) (wanted_after kind mid)
    ∙ passes FirstLine (body_wanted (Some kind) mid ++ LastLine ∷ []) (ended_line (first_bytes kind)) mid p (first_line_again kind)
    ∙ ap (λ lines. first_fault (body_wanted (Some kind) lines ++ LastLine ∷ []) lines (suc p)) goes
    ∙ first_fault-after (body_wanted (Some kind) (body_lines block ++ rest)) (LastLine ∷ []) (body_lines block) rest (suc p) body
    ∙ rw (← next) fault

-- a fault of the first line
pub kind_fault : (lines : List LineText) (p : ℕ) (f : ℕ × BlockCause) → first_fault (FirstLine ∷ []) lines p ≡ Some f
    → first_fault (wanted_of lines) lines p ≡ Some f
unfolding wanted_of
kind_fault lines p f fault =
    first_fault-front (FirstLine ∷ []) (body_wanted (kind_told (slice_get lines 0)) (drop 1 lines) ++ LastLine ∷ []) lines p f fault
