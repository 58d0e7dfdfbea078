-- The first words of a list, taken one after another into places that hold no bytes.
use Rattle.std.proofs.Common.{◌≡◌, ◌≢◌, ℕ, zero, suc, ◌+◌, ◌<◌, ◌≤◌, min, List, [], ◌∷◌, length, map, take, drop, set, Bor, ◌⊎◌, inl, inr, refl, sym, ◌∙◌, ap, arith, length-drop}
use Rattle.std.proofs.lemmas.List.{get_or-set_same, get_or-set_other, get_or-take, take_all, map-set, length-map}
use Rattle.std.proofs.lemmas.Bool.{cases_eq}
use Rattle.text_terms.specs.Words.{word_at}

-- the word in front of those that are left
pub record IsNext (ws : List (List ℕ)) (count : ℕ) (word : List ℕ) (rest : List (List ℕ)) : Type 0 where
  pub within : count < length ws
  pub here : word_at count (take (count + 1) ws) ≡ word
  pub after : rest ≡ drop (count + 1) ws

pub next_word : (ws : List (List ℕ)) (count : ℕ) (word : List ℕ) (rest : List (List ℕ)) → drop count ws ≡ word ∷ rest → IsNext ws count word rest
next_word [] zero word rest e = absurd cc
next_word (w ∷ ws) zero word rest e = record { within = omega arith; here = cc; after = cc }
next_word [] (suc count) word rest e = absurd cc
next_word (w ∷ ws) (suc count) word rest e =
    let more = next_word ws count word rest e in
    let one : suc count + 1 ≡ suc (count + 1) = omega arith in
    record { within = omega (arith, more.within); here = rw one more.here; after = rw one more.after }

-- one more word leaves the other places as they are
other_place : (ws : List (List ℕ)) (count k : ℕ) → k ≢ count → word_at k (take (suc count) ws) ≡ word_at k (take count ws)
other_place [] zero k other = refl
other_place [] (suc count) k other = refl
other_place (w ∷ ws) zero zero other = absurd (other refl)
other_place (w ∷ ws) zero (suc k) other = refl
other_place (w ∷ ws) (suc count) zero other = refl
other_place (w ∷ ws) (suc count) (suc k) other = other_place ws count k (λ e. other (ap suc e))

-- the places below 15 hold the first words, so many of them
abbrev pub Hold : List (Bor (List ℕ)) → List (List ℕ) → ℕ → Type 0
Hold first ws count = (k : ℕ) → k < 15 → word_at k (map (λ (word : Bor (List ℕ)). word.now) first) ≡ word_at k (take count ws)

pub hold_more : (first : List (Bor (List ℕ))) (ws : List (List ℕ)) (count : ℕ) (word : Bor (List ℕ)) (rest : List (List ℕ)) → length first ≡ 15 → count < 15
    → IsNext ws count word.now rest → Hold first ws count → Hold (set first count word) ws (count + 1)
hold_more first ws count word rest size room next hold k less =
    let now : Bor (List ℕ) → List ℕ = λ w. w.now in
    let placed : map now (set first count word) ≡ set (map now first) count word.now = map-set now first count word in
    let long : count < length (map now first) = omega (arith, length-map first now) in
    ap (word_at k) placed ∙ elim (cases_eq k count) [
      | inl same ↦ rw same (get_or-set_same (map now first) count word.now [] long ∙ sym next.here)
      | inr other ↦
          let one : count + 1 ≡ suc count = omega arith in
          rw one (get_or-set_other (map now first) count k word.now [] other ∙ hold k less ∙ sym (other_place ws count k other))
    ]

-- fifteen words are enough, and so are all
pub hold_all : (first : List (Bor (List ℕ))) (ws : List (List ℕ)) (count : ℕ) → (15 ≤ count) ⊎ (length ws ≤ count) → Hold first ws count
    → (k : ℕ) → k < 15 → word_at k (map (λ (word : Bor (List ℕ)). word.now) first) ≡ word_at k ws
hold_all first ws count end hold k less = hold k less ∙ elim end [
  | inl many ↦ get_or-take count ws k [] (omega arith)
  | inr all ↦ ap (word_at k) (take_all count ws all)
]

-- a list of which nothing is left is no longer than what was taken
pub none_left : (ws : List (List ℕ)) (count : ℕ) → drop count ws ≡ [] → length ws ≤ count
none_left ws count e = omega (arith, length-drop count ws, ap length e)

pub counted : (ws : List (List ℕ)) (count : ℕ) → count ≤ length ws → count ≤ 15 → (15 ≤ count) ⊎ (length ws ≤ count) → count ≡ min 15 (length ws)
counted ws count within few end = elim end [
  | inl many ↦ omega arith
  | inr all ↦ omega arith
]
