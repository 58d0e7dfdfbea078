-- The parts of a list that one element is appended to.
use Rattle.std.proofs.Common.{◌≡◌, Bool, true, false, List, [], ◌∷◌, ◌++◌, inl, inr, refl, sym, ◌∙◌, ap}
use Rattle.std.specs.List.{slice_split, onto_first}
use Rattle.std.proofs.lemmas.List.Splits.{slice_split-cons_yes, slice_split-cons_no}
use Rattle.text_terms.proofs.Cases.{by_bool}
use Rattle.text_terms.specs.Lines.{NumberedLine}
use Rattle.phase_reader.specs.PhaseEvents.{last_part, parts_before_last}

abbrev pub Parts : Type 0
Parts = List (List NumberedLine)

-- a list of parts that isn't empty
pub record HasPart (parts : Parts) : Type 0 where
  pub first : List NumberedLine
  pub more : Parts
  pub is : parts ≡ first ∷ more

onto_some : (x : NumberedLine) (parts : Parts) → HasPart (onto_first x parts)
onto_some x [] = record { first = x ∷ []; more = []; is = refl }
onto_some x (part ∷ parts) = record { first = x ∷ part; more = parts; is = refl }

-- a cut always gives a part
pub split_some : (p : NumberedLine → Bool) (xs : List NumberedLine) → HasPart (slice_split p xs)
split_some p [] = record { first = []; more = []; is = refl }
split_some p (x ∷ xs) = elim (by_bool (p x)) [
  | inl yes_x ↦ record { first = []; more = slice_split p xs; is = slice_split-cons_yes p x xs yes_x }
  | inr not_x ↦ rw (slice_split-cons_no p x xs not_x) (onto_some x (slice_split p xs))
]

-- what stands before the last part, and the last part
pub last_cut : (parts : Parts) → HasPart parts → parts ≡ parts_before_last parts ++ last_part parts ∷ []
last_cut [] some = absurd (let e : [] ≡ some.first ∷ some.more = some.is in cc)
last_cut (part ∷ []) some = refl
last_cut (part ∷ next ∷ more) some = ap (λ ps. part ∷ ps) (last_cut (next ∷ more) (record { first = next; more = more; is = refl }))

pub last_of_snoc : (parts : Parts) (part : List NumberedLine) → last_part (parts ++ part ∷ []) ≡ part
last_of_snoc [] part = refl
last_of_snoc (one ∷ []) part = refl
last_of_snoc (one ∷ next ∷ more) part = last_of_snoc (next ∷ more) part

pub before_of_snoc : (parts : Parts) (part : List NumberedLine) → parts_before_last (parts ++ part ∷ []) ≡ parts
before_of_snoc [] part = refl
before_of_snoc (one ∷ []) part = refl
before_of_snoc (one ∷ next ∷ more) part = ap (λ ps. one ∷ ps) (before_of_snoc (next ∷ more) part)

-- an element comes in front of the first part
onto_append : (x : NumberedLine) (parts more : Parts) → HasPart parts → onto_first x (parts ++ more) ≡ onto_first x parts ++ more
onto_append x [] more some = absurd (let e : [] ≡ some.first ∷ some.more = some.is in cc)
onto_append x (part ∷ parts) more some = refl

-- an element that parts, at the end, begins an empty part
pub split_snoc_yes : (p : NumberedLine → Bool) (xs : List NumberedLine) (y : NumberedLine) → p y ≡ true
    → slice_split p (xs ++ y ∷ []) ≡ slice_split p xs ++ [] ∷ []
split_snoc_yes p [] y yes_y = slice_split-cons_yes p y [] yes_y
split_snoc_yes p (x ∷ xs) y yes_y = elim (by_bool (p x)) [
  | inl yes_x ↦
      slice_split-cons_yes p x (xs ++ y ∷ []) yes_x ∙ ap (λ ps. [] ∷ ps) (split_snoc_yes p xs y yes_y)
      ∙ ap (λ ps. ps ++ [] ∷ []) (sym (slice_split-cons_yes p x xs yes_x))
  | inr not_x ↦
      slice_split-cons_no p x (xs ++ y ∷ []) not_x ∙ ap (onto_first x) (split_snoc_yes p xs y yes_y)
      ∙ onto_append x (slice_split p xs) ([] ∷ []) (split_some p xs)
      ∙ ap (λ ps. ps ++ [] ∷ []) (sym (slice_split-cons_no p x xs not_x))
]

-- an element at the end of the last part
abbrev onto_last : NumberedLine → Parts → Parts
onto_last y parts = parts_before_last parts ++ (last_part parts ++ y ∷ []) ∷ []

onto_both : (x y : NumberedLine) (parts : Parts) → HasPart parts → onto_first x (onto_last y parts) ≡ onto_last y (onto_first x parts)
onto_both x y [] some = absurd (let e : [] ≡ some.first ∷ some.more = some.is in cc)
onto_both x y (part ∷ []) some = refl
onto_both x y (part ∷ next ∷ more) some = refl

onto_last_cons : (y : NumberedLine) (part : List NumberedLine) (parts : Parts) → HasPart parts → part ∷ onto_last y parts ≡ onto_last y (part ∷ parts)
onto_last_cons y part [] some = absurd (let e : [] ≡ some.first ∷ some.more = some.is in cc)
onto_last_cons y part (next ∷ more) some = refl

-- an element that doesn't part, at the end, goes to the last part
pub split_snoc_no : (p : NumberedLine → Bool) (xs : List NumberedLine) (y : NumberedLine) → p y ≡ false
    → slice_split p (xs ++ y ∷ []) ≡ parts_before_last (slice_split p xs) ++ (last_part (slice_split p xs) ++ y ∷ []) ∷ []
split_snoc_no p [] y not_y = slice_split-cons_no p y [] not_y
split_snoc_no p (x ∷ xs) y not_y = elim (by_bool (p x)) [
  | inl yes_x ↦
      slice_split-cons_yes p x (xs ++ y ∷ []) yes_x ∙ ap (λ ps. [] ∷ ps) (split_snoc_no p xs y not_y)
      ∙ onto_last_cons y [] (slice_split p xs) (split_some p xs)
      ∙ ap (onto_last y) (sym (slice_split-cons_yes p x xs yes_x))
  | inr not_x ↦
      slice_split-cons_no p x (xs ++ y ∷ []) not_x ∙ ap (onto_first x) (split_snoc_no p xs y not_y)
      ∙ onto_both x y (slice_split p xs) (split_some p xs)
      ∙ ap (onto_last y) (sym (slice_split-cons_no p x xs not_x))
]
