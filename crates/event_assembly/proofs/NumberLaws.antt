-- Marked keys that are numbered in order.
use Rattle.std.proofs.Common.{◌≡◌, ℕ, zero, suc, ◌+◌, ◌<◌, ◌≤◌, Bool, true, false, List, [], ◌∷◌, ◌++◌, length, get_or, filter, Some, inl, inr, refl, sym, ap, ◌∙◌, arith, length-append}
use Rattle.std.specs.Prelude.{◌==◌, if◌then◌else◌}
use Rattle.std.specs.List.{position, range_with_len}
use Rattle.std.proofs.lemmas.Bool.{cases_lt, eq-eqb, ne_eqb}
use Rattle.std.proofs.lemmas.List.{get_or_push, get_or_past, append-nil}
use Rattle.std.proofs.lemmas.List.Elements.{filter-append}
use Rattle.std.proofs.lemmas.List.Quantifiers.{position-Some}
use Rattle.std.proofs.Math.ListN.{get_or-append}
use Rattle.event_assembly.specs.declared.rows.Rows.{Rows}
use Rattle.event_assembly.specs.Inside.Numbering.{marked_keys, AreNumbered}
use Rattle.event_assembly.proofs.PlaceLaws.{position_at, position_stays}

-- one more number
range_more : (a n : ℕ) → range_with_len a (suc n) ≡ range_with_len a n ++ (a + n) ∷ []
range_more a zero = let e : a + 0 ≡ a = omega arith in rw e refl
range_more a (suc n) = let e : a + suc n ≡ a + 1 + n = omega arith in rw e (ap (λ ks. a ∷ ks) (range_more (a + 1) n))

-- one more key that is marked, or isn't
marked_next : (marks : List Bool) (n : ℕ) → marked_keys marks (n + 1) ≡ marked_keys marks n ++ filter (λ (k : ℕ). get_or marks k false) (n ∷ [])
marked_next marks n =
    let p : ℕ → Bool = λ k. get_or marks k false in
    let next : n + 1 ≡ suc n = omega arith in
    let last : 0 + n ≡ n = omega arith in
    ap (marked_keys marks) next ∙ ap (filter p) (range_more 0 n) ∙ filter-append p (range_with_len 0 n) ((0 + n) ∷ [])
    ∙ ap (λ m. marked_keys marks n ++ filter p (m ∷ [])) last

marked_more : (marks : List Bool) (n : ℕ) → get_or marks n false ≡ true → marked_keys marks (n + 1) ≡ marked_keys marks n ++ n ∷ []
marked_more marks n here =
    let one : filter (λ (k : ℕ). get_or marks k false) (n ∷ []) ≡ n ∷ [] = rw here refl in
    marked_next marks n ∙ ap (λ (ks : List ℕ). marked_keys marks n ++ ks) one

marked_same : (marks : List Bool) (n : ℕ) → get_or marks n false ≡ false → marked_keys marks (n + 1) ≡ marked_keys marks n
marked_same marks n here =
    let one : filter (λ (k : ℕ). get_or marks k false) (n ∷ []) ≡ [] = rw here refl in
    marked_next marks n ∙ ap (λ (ks : List ℕ). marked_keys marks n ++ ks) one ∙ append-nil (marked_keys marks n)

-- the keys before a number are numbered
pub record AreNumberedTo (marks : List Bool) (n : ℕ) (marked row_of_key : List ℕ) : Type 0 where
  pub keys : marked ≡ marked_keys marks n
  pub long : length row_of_key ≡ n
  pub few : length marked ≤ n
  pub below : (i : ℕ) → i < length marked → get_or marked i 0 < n
  pub found : (k : ℕ) → k < n → get_or marks k false ≡ true → position (λ (j : ℕ). j == k) marked ≡ Some (get_or row_of_key k 0)

-- at the start there are none
pub AreNumberedTo-none : (marks : List Bool) (keys row_of_key : List ℕ) → keys ≡ [] → row_of_key ≡ [] → AreNumberedTo marks 0 keys row_of_key
AreNumberedTo-none marks keys row_of_key no_keys no_rows = record {
  keys = no_keys;
  long = rw no_rows refl;
  few = rw no_keys (omega arith);
  below = λ i within. absurd (omega (arith, ap length no_keys));
  found = λ k within. absurd (omega arith);
}

-- one more key that is marked
pub AreNumberedTo-marked : (marks : List Bool) (n : ℕ) (keys row_of_key more rows : List ℕ) → AreNumberedTo marks n keys row_of_key → get_or marks n false ≡ true
    → more ≡ keys ++ n ∷ [] → rows ≡ row_of_key ++ length keys ∷ [] → AreNumberedTo marks (n + 1) more rows
AreNumberedTo-marked marks n keys row_of_key more rows before here put number =
    let long = before.long in
    let few = before.few in
    let count : length more ≡ length keys + 1 = rw (put, length-append keys (n ∷ [])) refl in
    record {
      keys = put ∙ ap (λ (ks : List ℕ). ks ++ n ∷ []) before.keys ∙ sym (marked_more marks n here);
      long = rw (number, length-append row_of_key (length keys ∷ [])) (omega arith);
      few = omega arith;
      below = λ i within. elim (cases_lt i (length keys)) [
        | inl low ↦ let less = before.below i low in rw (put, get_or-append keys (n ∷ []) 0 i low) (omega arith)
        | inr high ↦ let same : length keys ≡ i = omega arith in rw (put, get_or_push keys n 0 i same) (omega arith)
      ];
      found = λ k within marked. elim (cases_lt k n) [
        | inl low ↦
            let inside : k < length row_of_key = omega arith in
            rw (put, number, get_or-append row_of_key (length keys ∷ []) 0 k inside)
            (position_stays (λ (j : ℕ). j == k) keys (n ∷ []) (get_or row_of_key k 0) (before.found k low marked))
        | inr high ↦
            let same : k ≡ n = omega arith in
            rw (same, put, number, get_or_push row_of_key (length keys) 0 n long)
            (position_at (λ (j : ℕ). j == n) (keys ++ n ∷ []) (length keys) (omega (arith, length-append keys (n ∷ [])))
            (rw (get_or_push keys n 0 (length keys) refl) (eq-eqb n n refl))
            (λ i less. let low = before.below i less in rw (get_or-append keys (n ∷ []) 0 i less) (ne_eqb (get_or keys i 0) n (λ equal. absurd (omega arith)))))
      ];
    }

-- one more key that isn't
pub AreNumberedTo-unmarked : (marks : List Bool) (n : ℕ) (keys row_of_key rows : List ℕ) → AreNumberedTo marks n keys row_of_key → get_or marks n false ≡ false
    → rows ≡ row_of_key ++ length keys ∷ [] → AreNumberedTo marks (n + 1) keys rows
AreNumberedTo-unmarked marks n keys row_of_key rows before here number =
    let long = before.long in
    let few = before.few in
    record {
      keys = before.keys ∙ sym (marked_same marks n here);
      long = rw (number, length-append row_of_key (length keys ∷ [])) (omega arith);
      few = omega arith;
      below = λ i within. let less = before.below i within in omega arith;
      found = λ k within marked. elim (cases_lt k n) [
        | inl low ↦
            let inside : k < length row_of_key = omega arith in
            rw (number, get_or-append row_of_key (length keys ∷ []) 0 k inside) (before.found k low marked)
        | inr high ↦
            let same : k ≡ n = omega arith in
            let never : get_or marks n false ≡ true = rw same at marked in
            absurd cc
      ];
    }

-- one more key
pub AreNumberedTo-more : (marks : List Bool) (n : ℕ) (keys row_of_key more rows : List ℕ) (marked : Bool) → AreNumberedTo marks n keys row_of_key
    → marked ≡ get_or marks n false → more ≡ (if marked then keys ++ n ∷ [] else keys) → rows ≡ row_of_key ++ length keys ∷ []
    → AreNumberedTo marks (n + 1) more rows
AreNumberedTo-more marks n keys row_of_key more rows true before here put number =
    AreNumberedTo-marked marks n keys row_of_key more rows before (sym here) put number
AreNumberedTo-more marks n keys row_of_key more rows false before here put number =
    rw put (AreNumberedTo-unmarked marks n keys row_of_key rows before (sym here) number)

-- the row of a marked key is that of its place, and is there
numbered_at : (marks : List Bool) (n : ℕ) (keys row_of_key : List ℕ) (k : ℕ) → n ≡ length marks → AreNumberedTo marks n keys row_of_key
    → get_or marks k false ≡ true → position (λ (j : ℕ). j == k) keys ≡ Some (get_or row_of_key k 0)
numbered_at marks n keys row_of_key k all done marked = elim (cases_lt k (length marks)) [
  | inl within ↦ done.found k (omega arith) marked
  | inr past ↦ let none : get_or marks k false ≡ false = get_or_past marks k false past in absurd cc
]

-- all keys are numbered
pub AreNumbered-all : (marks : List Bool) (n : ℕ) (rows : Rows) → n ≡ length marks → AreNumberedTo marks n rows.keys.items rows.row_of_key.items → AreNumbered marks rows
AreNumbered-all marks n rows all done = record {
  keys = rw all at done.keys;
  long = done.long ∙ all;
  few = let few = done.few in omega arith;
  row_of_key = λ k marked. let found = numbered_at marks n rows.keys.items rows.row_of_key.items k all done marked in rw found refl;
  below = λ k marked.
      (position-Some (λ (j : ℕ). j == k) rows.keys.items (get_or rows.row_of_key.items k 0) 0 (numbered_at marks n rows.keys.items rows.row_of_key.items k all done marked)).0;
}
