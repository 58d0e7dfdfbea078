-- Lists that grow by one item a turn.
use Rattle.std.proofs.Common.{◌≡◌, ◌∙◌, ℕ, ◌+◌, ap, sym, arith, List, [], ◌∷◌, ◌++◌, map}
use Rattle.std.specs.List.{range_with_len}
use Rattle.std.proofs.lemmas.List.FromFn.{map-range_with_len_more}

-- one more item
pub one_more : {X : Type 0} (f : ℕ → X) (k : ℕ) (list more : List X) (item : X) → list ≡ map f (range_with_len 0 k)
    → more ≡ list ++ item ∷ [] → item ≡ f k → more ≡ map f (range_with_len 0 (k + 1))
one_more f k list more item all pushed is =
    pushed ∙ (ap (λ xs. xs ++ item ∷ []) all ∙ (ap (λ x. map f (range_with_len 0 k) ++ x ∷ []) is ∙ sym (map-range_with_len_more f 0 k k (omega arith))))
