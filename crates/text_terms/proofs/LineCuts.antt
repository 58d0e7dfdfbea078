-- The first line of bytes, cut off where the first line feed stands.
use Rattle.std.proofs.Common.{◌≡◌, ℕ, zero, suc, ◌-◌, ◌<◌, true, false, List, [], ◌∷◌, ◌++◌, length, get_or, take, drop, refl, sym, ◌∙◌, ap, arith, drop-cons, length-drop}
use Rattle.std.proofs.lemmas.List.{take-append-drop, take_all}
use Rattle.std.proofs.lemmas.Grind.{common_steps}
use Rattle.text_terms.specs.Lines.{is_line_feed, lines_of}
use Rattle.text_terms.proofs.LineLaws.{lines_of-ended, lines_of-last}

-- a byte that isn't 10 is no line feed
pub no_feed : (b : ℕ) → (b ≡ 10 → ⊥) → is_line_feed b ≡ false
no_feed b other = grind (arith, common_steps)

-- no line feed stands among bytes before the first one
no_feed_in_front : (bytes : List ℕ) (k : ℕ) → k < length bytes → ((j : ℕ) → j < k → get_or bytes j 0 ≡ 10 → ⊥)
    → (j : ℕ) → j < length (take k bytes) → is_line_feed (get_or (take k bytes) j 0) ≡ false
no_feed_in_front bytes k within before j less =
    let short : length (take k bytes) ≡ k = grind (arith, common_steps) in
    let same : get_or (take k bytes) j 0 ≡ get_or bytes j 0 = grind (arith, common_steps) in
    rw same (no_feed (get_or bytes j 0) (before j (omega arith)))

-- bytes that are joined of a line, a line feed and a rest
pub lines_of-cut : (bytes line rest : List ℕ) (k : ℕ) → k < length bytes → get_or bytes k 0 ≡ 10
    → ((j : ℕ) → j < k → get_or bytes j 0 ≡ 10 → ⊥) → line ≡ take k bytes → rest ≡ drop (suc k) bytes
    → lines_of bytes ≡ record { bytes = line; ended = true } ∷ lines_of rest
lines_of-cut bytes line rest k within feed before is behind =
    let tail : drop k bytes ≡ 10 ∷ drop (suc k) bytes = drop-cons bytes k 0 within ∙ rw feed refl in
    let joined : take k bytes ++ 10 ∷ drop (suc k) bytes ≡ bytes = rw (← tail) (take-append-drop k bytes) in
    let ended = lines_of-ended (take k bytes) (drop (suc k) bytes) (no_feed_in_front bytes k within before) in
    rw (is, behind) (ap lines_of (sym joined) ∙ ended)

-- bytes without a line feed
pub lines_of-uncut : (bytes : List ℕ) → 0 < length bytes → ((j : ℕ) → j < length bytes → get_or bytes j 0 ≡ 10 → ⊥)
    → lines_of bytes ≡ record { bytes = bytes; ended = false } ∷ []
lines_of-uncut bytes some feeds = lines_of-last bytes some (λ j less. no_feed (get_or bytes j 0) (feeds j less))

-- to drop one more
drop_one_more : (k : ℕ) (bytes : List ℕ) → drop 1 (drop k bytes) ≡ drop (suc k) bytes
drop_one_more zero bytes = refl
drop_one_more (suc k) [] = refl
drop_one_more (suc k) (b ∷ bytes) = drop_one_more k bytes

-- what stands after the first byte of a rest
pub behind_first : (bytes rest : List ℕ) (k : ℕ) → rest ≡ drop k bytes → take (length rest - 1) (drop 1 rest) ≡ drop (suc k) bytes
behind_first bytes rest k is =
    take_all (length rest - 1) (drop 1 rest) (omega (arith, length-drop 1 rest)) ∙ rw is (drop_one_more k bytes)
