-- The entries of a shelf in memory.
use Rattle.std.proofs.Common.{◌≡◌, ◌<◌, zero, length, get_or, ap, All, ◌≢◌, true, false, List, [], ◌∷◌, ℕ, suc, ◌+◌, Bool, Option, Some, None, MatchOption, sym, subst, ◌∙◌, refl, inl, inr, arith}
use Rattle.std.specs.Global.{Vec}
use Rattle.std.specs.List.{position, position_from, list_any}
use Rattle.std.proofs.lemmas.List.Folds.{Any-from_list_any}
use Rattle.std.proofs.lemmas.List.Kept.{AllPairs-cons}
use Rattle.std.proofs.lemmas.Slice.Eq.{bytes_eq-Decides}
use Rattle.std.specs.Str.{bytes_eq}
use Rattle.std.proofs.lemmas.Bool.{cases_Bool}
use Rattle.std.proofs.lemmas.Iterator.Adapters.{position_from-zero}
use Rattle.edt_outside.specs.MemoryShelves.{NamesDiffer, told_entries, files_of, unread_of}

-- the test by which an entry is found
abbrev is_named : List ℕ → List ℕ × Vec ℕ → Bool
is_named name e = bytes_eq e.0 name

-- where the search ends without an entry, there is no file of that name
none_from : (entries : List (List ℕ × Vec ℕ)) (name : List ℕ) (i : ℕ) → position_from (is_named name) i entries ≡ None
    → files_of (told_entries entries) name ≡ None
none_from [] name i h = refl
none_from (e ∷ es) name i h = elim (cases_Bool (bytes_eq e.0 name)) [
  | inl same ↦ let k = rw same at h in cc
  | inr other ↦ let k = rw other at h in rw other (none_from es name (i + 1) k)
]

-- where it ends at an entry, that entry has the bytes under the name
some_from : (entries : List (List ℕ × Vec ℕ)) (name : List ℕ) (i p : ℕ) → position_from (is_named name) i entries ≡ Some p
    → (q : ℕ) × (p ≡ i + q) × (files_of (told_entries entries) name ≡ Some (unread_of entries (Some q) 0))
some_from [] name i p h = absurd (cc)
some_from (e ∷ es) name i p h = elim (cases_Bool (bytes_eq e.0 name)) [
  | inl same ↦ let k : Some i ≡ Some p = rw same at h in let first : i ≡ p = cc in (0, omega arith, rw same refl)
  | inr other ↦
      let k = rw other at h in
      let found = some_from es name (i + 1) p k in
      let at : p ≡ (i + 1) + found.0 = found.1 in
      (suc found.0, omega arith, rw other found.2)
]

-- both, for the place that the search answers
pub place_is : (entries : List (List ℕ × Vec ℕ)) (name : List ℕ) (r : Option ℕ) → r ≡ position (λ e. bytes_eq e.0 name) entries
    → MatchOption r (files_of (told_entries entries) name ≡ None) (λ p. files_of (told_entries entries) name ≡ Some (unread_of entries (Some p) 0))
place_is entries name None h = none_from entries name 0 (sym (position_from-zero (is_named name) entries) ∙ sym h)
place_is entries name (Some p) h =
    let found = some_from entries name 0 p (sym (position_from-zero (is_named name) entries) ∙ sym h) in
    let at : p ≡ 0 + found.0 = found.1 in
    let same : found.0 ≡ p = omega arith in
    let P : ℕ → Type 0 = λ q. files_of (told_entries entries) name ≡ Some (unread_of entries (Some q) 0) in
    subst P same found.2

-- where no entry has the name, it differs from each name
none_named : (name : List ℕ) (entries : List (List ℕ × Vec ℕ)) → list_any (λ e. bytes_eq e.0 name) entries ≡ false
    → All (λ e. name ≢ e.0) entries
none_named name [] h k d below = absurd (omega arith)
none_named name (e ∷ es) h k d below = elim (cases_Bool (bytes_eq e.0 name)) [
  | inl same ↦ let never = rw same at h in cc
  | inr other ↦
      let rest : list_any (λ (f : List ℕ × Vec ℕ). bytes_eq f.0 name) es ≡ false = rw other at h in
      let first : name ≢ e.0 = λ same. let equal = (bytes_eq-Decides e.0 name).1 (sym same) in cc in
      at_each first (none_named name es rest) k d below
]
  where
    at_each : (name ≢ e.0) → All (λ f. name ≢ f.0) es → All (λ f. name ≢ f.0) (e ∷ es)
    at_each first rest zero d below = first
    at_each first rest (suc k) d below = rest k d (omega arith)

-- the names of a list differ where the first is no later one, and the later ones differ
pub NamesDiffer-cons : (e : List ℕ × Vec ℕ) (es : List (List ℕ × Vec ℕ)) → list_any (λ f. bytes_eq f.0 e.0) es ≡ false → NamesDiffer es → NamesDiffer (e ∷ es)
NamesDiffer-cons e es h differ = AllPairs-cons (λ (f g : List ℕ × Vec ℕ). f.0 ≢ g.0) e es (none_named e.0 es h) differ

-- the later names of a list differ where all do
pub NamesDiffer-tail : (e : List ℕ × Vec ℕ) (es : List (List ℕ × Vec ℕ)) → NamesDiffer (e ∷ es) → NamesDiffer es
NamesDiffer-tail e es differ = λ i j d below within. differ (suc i) (suc j) d (omega arith) (omega arith)

-- and the first is no later one
pub NamesDiffer-first : (e : List ℕ × Vec ℕ) (es : List (List ℕ × Vec ℕ)) → list_any (λ f. bytes_eq f.0 e.0) es ≡ true → NamesDiffer (e ∷ es) → ⊥
NamesDiffer-first e es h differ =
    let found = Any-from_list_any (λ (f : List ℕ × Vec ℕ). bytes_eq f.0 e.0) es h in
    let at : get_or es found.0 found.1 ≡ found.1 = found.3 in
    let same : found.1.0 ≡ e.0 = (bytes_eq-Decides found.1.0 e.0).0 found.4 in
    let below : found.0 < length es = found.2 in
    differ 0 (suc found.0) found.1 (omega arith) (omega arith) (sym same ∙ ap (λ (f : List ℕ × Vec ℕ). f.0) (sym at))
