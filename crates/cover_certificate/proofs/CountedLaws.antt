-- Counted lists: their count tells what the lines after it have to be.
use Rattle.std.proofs.Common.{◌≡◌, ℕ, suc, ◌+◌, ◌≤◌, true, List, [], ◌∷◌, ◌++◌, length, map, replicate, Some, Ok, Err, refl, sym, ◌∙◌, ap, subst, arith}
use Rattle.std.specs.Prelude.{Result, IfOk, IfErr}
use Rattle.std.specs.List.{list_all}
use Rattle.std.proofs.lemmas.List.{length-map}
use Rattle.std.proofs.lemmas.Grind.{common_steps}
use Rattle.text_terms.specs.Lines.{LineText}
use Rattle.cover_certificate.specs.declared.block.BlockCause.{BlockCause}
use Rattle.cover_certificate.specs.declared.block.BlockFault.{BlockFault}
use Rattle.cover_certificate.specs.declared.line_form.LineForm.{LineForm}
use Rattle.cover_certificate.specs.declared.line_form.LineForm.TheVariants.{Near, Cover}
use Rattle.cover_certificate.specs.LineForms.{Wanted, Numbered, are_allowed, slots_of}
use Rattle.cover_certificate.specs.BlockLines.{counted_lines, numbers_line}
use Rattle.cover_certificate.specs.BlockFaults.{count_in, counted_wanted}
use Rattle.cover_certificate.specs.Inside.FirstFaults.{first_fault}
use Rattle.cover_certificate.proofs.LineLaws.{line_again}
use Rattle.cover_certificate.proofs.FirstFaultLaws.{AreFine}
use Rattle.cover_certificate.proofs.BlockSteps.{items_fine, passes}

-- counts within their limits
pub near_count : (n : ℕ) → n ≤ 100000 → are_allowed (slots_of Near) (n ∷ []) ≡ true
near_count n within = grind (arith, common_steps)

pub box_count : (n : ℕ) → n ≤ 2000000 → are_allowed (slots_of Cover) (n ∷ []) ≡ true
box_count n within = grind (arith, common_steps)

-- the count that its line tells
pub count_told : (count : LineForm) (n : ℕ) → are_allowed (slots_of count) (n ∷ []) ≡ true
    → count_in count (Some (numbers_line count (n ∷ []))) ≡ n
count_told count n good = rw ((line_again count (n ∷ []) good).1) refl

-- what the lines have to be, by the count
pub wanted_told : (count item : LineForm) (n : ℕ) (rest : List LineText) → are_allowed (slots_of count) (n ∷ []) ≡ true
    → counted_wanted count item (numbers_line count (n ∷ []) ∷ rest) ≡ Numbered count ∷ replicate n (Numbered item)
wanted_told count item n rest good = ap (λ k. Numbered count ∷ replicate k (Numbered item)) (count_told count n good)

-- a fault of the items
pub counted_fault : (count item : LineForm) (n : ℕ) (old mid : List LineText) (p q : ℕ) (f : ℕ × BlockCause)
    → old ≡ numbers_line count (n ∷ []) ∷ mid → are_allowed (slots_of count) (n ∷ []) ≡ true → q ≡ suc p
    → first_fault (replicate n (Numbered item)) mid q ≡ Some f → first_fault (counted_wanted count item old) old p ≡ Some f
counted_fault count item n old mid p q f is good next fault =
    ap (λ lines. first_fault (counted_wanted count item lines) lines p) is
    ∙ ap (λ wanted. first_fault wanted (numbers_line count (n ∷ []) ∷ mid) p) (wanted_told count item n mid good)
    ∙ passes (Numbered count) (replicate n (Numbered item)) (numbers_line count (n ∷ [])) mid p (line_again count (n ∷ []) good).0
    ∙ rw (← next) fault

-- the lines of a counted list that was read
pub counted_value : {X Y : Type 0} (items : X → List Y) (numbers : Y → List ℕ) (count item : LineForm) (r : Result X BlockFault)
    (old mid new : List LineText) (n : ℕ) → old ≡ numbers_line count (n ∷ []) ∷ mid
    → IfOk r (λ x. mid ≡ map (numbers_line item) (map numbers (items x)) ++ new) → IfOk r (λ x. length (items x) ≡ n)
    → IfOk r (λ x. old ≡ counted_lines count item (map numbers (items x)) ++ new)
counted_value items numbers count item (Ok x) old mid new n is value size =
    let same : length (map numbers (items x)) ≡ n = length-map (items x) numbers ∙ size in
    is ∙ rw (value, same) refl
counted_value items numbers count item (Err e) old mid new n is value size = tt

-- how many lines were passed
pub counted_passed : {X Y : Type 0} (items : X → List Y) (r : Result X BlockFault) (p q s : ℕ) → q ≡ p + 1
    → IfOk r (λ x. s ≡ q + length (items x)) → IfOk r (λ x. s ≡ p + (length (items x) + 1))
counted_passed items (Ok x) p q s next passed = omega (arith, next, passed)
counted_passed items (Err e) p q s next passed = tt

-- a bound on the items by that on the count
pub counted_within : {X Y : Type 0} (items : X → List Y) (r : Result X BlockFault) (n most : ℕ) → n ≤ most
    → IfOk r (λ x. length (items x) ≡ n) → IfOk r (λ x. length (items x) ≤ most)
counted_within items (Ok x) n most within size = omega (arith, within, size)
counted_within items (Err e) n most within size = tt

-- errors that say more
pub err_map : {X E : Type 0} (P Q : E → Type 0) (r : Result X E) → ((e : E) → P e → Q e) → IfErr r P → IfErr r Q
err_map P Q (Ok x) goes h = tt
err_map P Q (Err e) goes h = goes e h

-- the lines of a counted list are what they have to be, whatever follows
pub counted_fine : (count item : LineForm) (items : List (List ℕ)) (rest : List LineText)
    → are_allowed (slots_of count) (length items ∷ []) ≡ true → list_all (are_allowed (slots_of item)) items ≡ true
    → AreFine (counted_wanted count item (counted_lines count item items ++ rest)) (counted_lines count item items)
counted_fine count item items rest good typed =
    let P : List Wanted → Type 0 = λ wanted. AreFine wanted (counted_lines count item items) in
    subst P (sym (wanted_told count item (length items) (map (numbers_line item) items ++ rest) good))
    ((line_again count (length items ∷ []) good).0, items_fine item items typed)
