-- The table of keywords, searched entry by entry.
use Rattle.std.proofs.Common.{◌≡◌, ℕ, suc, ◌+◌, ◌<◌, ◌≤◌, true, false, List, ◌∷◌, length, get_or, drop, Some, None, Bor, refl, sym, ◌∙◌, ap, add-one, drop-cons}
use Rattle.std.specs.Prelude.{map}
use Rattle.std.specs.Map.{lookup}
use Rattle.std.specs.Str.{bytes_eq}
use Rattle.std.proofs.Math.ListN.{drop_of_length-le}
use Rattle.std.proofs.lemmas.List.{drop-map, length-map}
use Rattle.std.proofs.Common.{arith}
use Rattle.control_reader.specs.declared.statement.Statement.{Statement}
use Rattle.control_reader.specs.Keywords.{statement_of}

abbrev pub Items : Type 0
Items = List (Bor (List ℕ) × Statement)

-- an entry of the code's table, as one of the definitions'
abbrev pub entry : Bor (List ℕ) × Statement → List ℕ × Statement
entry item = (item.0.now, item.1)

abbrev pub entries : Items → List (List ℕ × Statement)
entries items = map entry items

-- the entries from a place on hold what the whole table does
pub record Searched (items : Items) (word : List ℕ) (k : ℕ) : Type 0 where
  pub rest : lookup (bytes_eq word) (drop k (entries items)) ≡ statement_of word

entry_here : (items : Items) (k : ℕ) (d : Bor (List ℕ) × Statement) → k < length items
    → drop k (entries items) ≡ entry (get_or items k d) ∷ drop (suc k) (entries items)
entry_here items k d within =
    drop-map entry k items ∙ ap (map entry) (drop-cons items k d within)
    ∙ ap (λ xs. entry (get_or items k d) ∷ xs) (sym (drop-map entry (suc k) items))

-- the entry at a place has the word, or the entries after it have it
pub entry_found : {items : Items} {word : List ℕ} {k : ℕ} (d : Bor (List ℕ) × Statement) → Searched items word k → k < length items
    → bytes_eq word (get_or items k d).0.now ≡ true → Some (get_or items k d).1 ≡ statement_of word
entry_found {items} {word} {k} d searched within same =
    let found : lookup (bytes_eq word) (entry (get_or items k d) ∷ drop (suc k) (entries items)) ≡ Some (get_or items k d).1 = rw same refl in
    sym found ∙ ap (lookup (bytes_eq word)) (sym (entry_here items k d within)) ∙ searched.rest

pub entry_passed : {items : Items} {word : List ℕ} {k : ℕ} (d : Bor (List ℕ) × Statement) → Searched items word k → k < length items
    → bytes_eq word (get_or items k d).0.now ≡ false → Searched items word (k + 1)
entry_passed {items} {word} {k} d searched within other =
    let passed : lookup (bytes_eq word) (entry (get_or items k d) ∷ drop (suc k) (entries items)) ≡ lookup (bytes_eq word) (drop (suc k) (entries items)) =
    rw other refl in
    record { rest = rw add-one (sym passed ∙ ap (lookup (bytes_eq word)) (sym (entry_here items k d within)) ∙ searched.rest) }

pub none_found : {items : Items} {word : List ℕ} {k : ℕ} → Searched items word k → length items ≤ k → None ≡ statement_of word
none_found {items} {word} {k} searched end =
    let none = drop_of_length-le (entries items) {i = k} (omega (arith, length-map items entry)) in
    ap (lookup (bytes_eq word)) (sym none) ∙ searched.rest
