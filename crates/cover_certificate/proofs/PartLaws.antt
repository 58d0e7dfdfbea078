-- The parts of a line that its blanks make.
use Rattle.std.proofs.Common.{◌≡◌, ℕ, suc, ◌<◌, Bool, true, false, not, List, [], ◌∷◌, ◌++◌, length, get_or, take, drop, refl, sym, ◌∙◌, ap, arith, drop-cons}
use Rattle.std.specs.Prelude.{All, ◌&&◌, ◌==◌}
use Rattle.std.specs.List.{join_with_byte, list_all}
use Rattle.std.proofs.lemmas.List.{take-append-drop}
use Rattle.std.proofs.lemmas.List.Elements.{All-from_get_or, All-cons}
use Rattle.std.proofs.lemmas.List.Splits.{slice_split_at, slice_split_none}
use Rattle.std.proofs.lemmas.Grind.{common_steps}
use Rattle.text_terms.specs.Words.{is_blank}
use Rattle.cover_certificate.specs.LineWords.{is_space, parts, is_plain}

-- a byte that isn't 32 is no blank
other_byte : (b : ℕ) → (b ≡ 32 → ⊥) → is_space b ≡ false
other_byte b other = grind (arith, common_steps)

-- no blank stands among bytes before the first one
no_space_in_front : (bytes : List ℕ) (k : ℕ) → k < length bytes → ((j : ℕ) → j < k → get_or bytes j 0 ≡ 32 → ⊥)
    → (j : ℕ) → j < length (take k bytes) → is_space (get_or (take k bytes) j 0) ≡ false
no_space_in_front bytes k within before j less =
    let short : length (take k bytes) ≡ k = grind (arith, common_steps) in
    let same : get_or (take k bytes) j 0 ≡ get_or bytes j 0 = grind (arith, common_steps) in
    rw same (other_byte (get_or bytes j 0) (before j (omega arith)))

-- bytes that are joined of a part, a blank and a rest
pub parts-cut : (bytes word rest : List ℕ) (k : ℕ) → k < length bytes → get_or bytes k 0 ≡ 32
    → ((j : ℕ) → j < k → get_or bytes j 0 ≡ 32 → ⊥) → word ≡ take k bytes → rest ≡ drop (suc k) bytes
    → parts bytes ≡ word ∷ parts rest
parts-cut bytes word rest k within blank before is after =
    let tail : drop k bytes ≡ 32 ∷ drop (suc k) bytes = drop-cons bytes k 0 within ∙ rw blank refl in
    let joined : take k bytes ++ 32 ∷ drop (suc k) bytes ≡ bytes = rw (← tail) (take-append-drop k bytes) in
    let front : All (λ b. is_space b ≡ false) (take k bytes) =
    All-from_get_or (λ b. is_space b ≡ false) (take k bytes) 0 (no_space_in_front bytes k within before) in
    rw (is, after) (ap parts (sym joined) ∙ slice_split_at is_space (take k bytes) 32 (drop (suc k) bytes) front refl)

-- bytes without a blank
pub parts-uncut : (bytes : List ℕ) → ((j : ℕ) → j < length bytes → get_or bytes j 0 ≡ 32 → ⊥) → parts bytes ≡ bytes ∷ []
parts-uncut bytes blanks =
    slice_split_none is_space bytes
    (All-from_get_or (λ b. is_space b ≡ false) bytes 0 (λ j less. other_byte (get_or bytes j 0) (blanks j less)))

-- a byte that parts no words is no blank
not_space : (b : ℕ) → not (is_blank b) ≡ true → is_space b ≡ false
not_space b plain = grind (arith, common_steps)

-- both of two tests hold
pub both : (a b : Bool) → (a && b) ≡ true → (a ≡ true) × (b ≡ true)
both true true h = (refl, refl)
both true false h = absurd cc
both false b h = absurd cc

-- bytes that part no words hold no blank
pub no_spaces : (bytes : List ℕ) → list_all (λ b. not (is_blank b)) bytes ≡ true → All (λ b. is_space b ≡ false) bytes
no_spaces [] h = λ k d less. absurd (omega arith)
no_spaces (b ∷ bytes) h =
    let parted = both (not (is_blank b)) (list_all (λ b. not (is_blank b)) bytes) h in
    All-cons (λ b. is_space b ≡ false) b bytes (not_space b parted.0) (no_spaces bytes parted.1)

-- a word holds no blank
plain_word : (word : List ℕ) → is_plain word ≡ true → All (λ b. is_space b ≡ false) word
plain_word word plain =
    no_spaces word (both (not (length word == 0)) (list_all (λ b. not (is_blank b)) word) plain).1

-- words that single blanks join are its parts
pub parts-join : (word : List ℕ) (words : List (List ℕ)) → list_all is_plain (word ∷ words) ≡ true
    → parts (join_with_byte 32 (word ∷ words)) ≡ word ∷ words
parts-join word [] plain =
    slice_split_none is_space word (plain_word word (both (is_plain word) true plain).0)
parts-join word (next ∷ words) plain =
    let parted = both (is_plain word) (list_all is_plain (next ∷ words)) plain in
    slice_split_at is_space word 32 (join_with_byte 32 (next ∷ words)) (plain_word word parted.0) refl
    ∙ ap (λ ws. word ∷ ws) (parts-join next words parted.1)
