-- The first line of bytes, and the lines after it.
use Rattle.std.proofs.Common.{◌≡◌, ℕ, inl, inr, ◌<◌, Bool, true, false, List, [], ◌∷◌, ◌++◌, length, get_or, All, refl, ◌∙◌, ap, arith}
use Rattle.std.specs.Prelude.{◌==◌}
use Rattle.std.specs.List.{slice_split, onto_first}
use Rattle.std.proofs.lemmas.List.Splits.{slice_split_at, slice_split_none, slice_split-cons_no, slice_split-cons_yes}
use Rattle.std.proofs.lemmas.List.Elements.{All-from_get_or}
use Rattle.std.proofs.lemmas.Grind.{common_steps}
use Rattle.text_terms.specs.Lines.{is_line_feed, lines_of_parts, lines_of}
use Rattle.text_terms.proofs.Cases.{by_bool}

-- no bytes hold no line
pub lines_of-nil : lines_of [] ≡ []
lines_of-nil = refl

-- a cut always gives a first part
onto_some : (b : ℕ) (parts : List (List ℕ)) → (part : List ℕ) × ((more : List (List ℕ)) × (onto_first b parts ≡ part ∷ more))
onto_some b [] = (b ∷ [], ([], refl))
onto_some b (part ∷ parts) = (b ∷ part, (parts, refl))

pub cut_some : (p : ℕ → Bool) (bytes : List ℕ) → (part : List ℕ) × ((more : List (List ℕ)) × (slice_split p bytes ≡ part ∷ more))
cut_some p [] = ([], ([], refl))
cut_some p (b ∷ bytes) = elim (by_bool (p b)) [
  | inl here ↦ ([], (slice_split p bytes, slice_split-cons_yes p b bytes here))
  | inr not_here ↦
      let some = onto_some b (slice_split p bytes) in
      (some.0, (some.1.0, slice_split-cons_no p b bytes not_here ∙ some.1.1))
]

-- a part with other parts after it is an ended line
parts_some : (part : List ℕ) (parts : List (List ℕ)) (some : (next : List ℕ) × ((more : List (List ℕ)) × (parts ≡ next ∷ more)))
    → lines_of_parts (part ∷ parts) ≡ record { bytes = part; ended = true } ∷ lines_of_parts parts
parts_some part [] some = absurd (let e : [] ≡ some.0 ∷ some.1.0 = some.1.1 in cc)
parts_some part (next ∷ more) some = refl

lines_of_parts-cons : (part bytes : List ℕ)
    → lines_of_parts (part ∷ slice_split is_line_feed bytes) ≡ record { bytes = part; ended = true } ∷ lines_of bytes
lines_of_parts-cons part bytes = parts_some part (slice_split is_line_feed bytes) (cut_some is_line_feed bytes)

-- each byte fails the test
all_fail : (p : ℕ → Bool) (bytes : List ℕ) → ((j : ℕ) → j < length bytes → p (get_or bytes j 0) ≡ false) → All (λ b. p b ≡ false) bytes
all_fail p bytes fails = All-from_get_or (λ b. p b ≡ false) bytes 0 fails

-- bytes with a line feed begin with the line up to it
pub lines_of-ended : (bytes rest : List ℕ) → ((j : ℕ) → j < length bytes → is_line_feed (get_or bytes j 0) ≡ false)
    → lines_of (bytes ++ 10 ∷ rest) ≡ record { bytes = bytes; ended = true } ∷ lines_of rest
lines_of-ended bytes rest open_line =
    ap lines_of_parts (slice_split_at is_line_feed bytes 10 rest (all_fail is_line_feed bytes open_line) refl)
    ∙ lines_of_parts-cons bytes rest

-- bytes without a line feed are one line, if there are any
pub lines_of-last : (bytes : List ℕ) → 0 < length bytes → ((j : ℕ) → j < length bytes → is_line_feed (get_or bytes j 0) ≡ false)
    → lines_of bytes ≡ record { bytes = bytes; ended = false } ∷ []
lines_of-last bytes some open_line =
    let one : (length bytes == 0) ≡ false = grind (arith, common_steps) in
    ap lines_of_parts (slice_split_none is_line_feed bytes (all_fail is_line_feed bytes open_line)) ∙ rw one refl
