-- The items of a list, each with those before it.
use Rattle.std.proofs.Common.{◌≡◌, ℕ, suc, ◌+◌, ◌<◌, ◌≤◌, All, List, [], ◌∷◌, ◌++◌, length, take, drop, map, get_or, refl, ap, ◌∙◌, arith}
use Rattle.std.specs.List.{flat_map, range_with_len}
use Rattle.std.proofs.lemmas.List.{append-nil, take_at, drop_at, take-append-le, drop-append-le, length-drop, length_push}
use Rattle.std.proofs.lemmas.List.Concat.{flat_map-append}
use Rattle.std.proofs.lemmas.List.Elements.{All-map, All-take, All-drop}
use Rattle.text_terms.specs.Prefixes.{with_those_before_at, with_those_before}
use Rattle.text_terms.proofs.ListLaws.{All-flat_map, range_push, range_same}

module _ {A : Type 0} where
  at_push : (items : List A) (item : A) (k : ℕ) → k < length items
      → with_those_before_at (items ++ item ∷ []) k ≡ with_those_before_at items k
  at_push items item k below =
      let within : k ≤ length items = omega arith in
      let some : 1 ≤ length (drop k items) = omega (arith, length-drop k items) in
      (λ j. map (λ (p : A). (take-append-le k items (item ∷ []) within j, p)) (take 1 (drop-append-le k items (item ∷ []) within j)))
      ∙ ap (map (λ (p : A). (take k items, p))) (take-append-le 1 (drop k items) (item ∷ []) some)

  at_end : (items : List A) (item : A) → with_those_before_at (items ++ item ∷ []) (length items) ≡ (items, item) ∷ []
  at_end items item =
      (λ j. map (λ (p : A). (take_at items (item ∷ []) (length items) refl j, p)) (take 1 (drop_at items (item ∷ []) (length items) refl j)))

  -- one more item has all items before it
  pub before_push : (items : List A) (item : A)
      → with_those_before (items ++ item ∷ []) ≡ with_those_before items ++ (items, item) ∷ []
  before_push items item =
      let n = length items in
      let all = items ++ item ∷ [] in
      let more : length all ≡ suc n = omega (arith, length_push items item) in
      let first : 0 + n ≡ n = omega arith in
      ap (λ m. flat_map (with_those_before_at all) (range_with_len 0 m)) more
      ∙ ap (flat_map (with_those_before_at all)) (range_push 0 n)
      ∙ ap (λ m. flat_map (with_those_before_at all) (range_with_len 0 n ++ m ∷ [])) first
      ∙ flat_map-append (with_those_before_at all) (range_with_len 0 n) (n ∷ [])
      ∙ (λ j. range_same (with_those_before_at all) (with_those_before_at items) 0 n (λ k below. at_push items item k (omega arith)) j
      ++ (append-nil (with_those_before_at all n) ∙ at_end items item) j)

  -- what holds of each item holds of each with those before it
  pub with_before : (Q : A → Type 0) (items : List A) → All Q items → All (λ (p : List A × A). Q p.1) (with_those_before items)
  with_before Q items all =
      let places : List ℕ = range_with_len 0 (length items) in
      let P : List A × A → Type 0 = λ p. Q p.1 in
      All-flat_map P (with_those_before_at items) places
      (λ i d below. All-map P (λ (item : A). (take (get_or places i d) items, item)) (take 1 (drop (get_or places i d) items))
      (All-take Q 1 (drop (get_or places i d) items) (All-drop Q (get_or places i d) items all)))
