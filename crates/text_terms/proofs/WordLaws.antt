-- The words of a file are the longest runs of its bytes that are neither blanks nor line feeds.
use Rattle.std.proofs.Common.{◌≡◌, ℕ, cond, inl, inr, suc, true, false, List, [], ◌∷◌, ◌++◌, length, refl, sym, ◌∙◌, ap, arith}
use Rattle.std.specs.Prelude.{◌==◌, filter}
use Rattle.std.specs.List.{slice_split, onto_first, flat_map}
use Rattle.std.proofs.lemmas.List.Elements.{filter-append}
use Rattle.std.proofs.lemmas.Grind.{common_steps}
use Rattle.text_terms.specs.Lines.{is_line_feed, LineText, lines_of_parts}
use Rattle.text_terms.specs.Words.{is_blank, is_word, words_of, file_words, runs, parts_file}
use Rattle.text_terms.proofs.Cases.{by_bool}
use Rattle.text_terms.proofs.LineLaws.{cut_some}

-- the last part is no line where it is empty, but it has no words then
words_of_parts : (parts : List (List ℕ)) → flat_map (λ (line : LineText). words_of line.bytes) (lines_of_parts parts) ≡ flat_map words_of parts
words_of_parts [] = refl
words_of_parts ([] ∷ []) = refl
words_of_parts ((b ∷ part) ∷ []) =
    let one : (suc (length part) == 0) ≡ false = grind (arith, common_steps) in
    rw one refl
words_of_parts (part ∷ next ∷ more) = ap (λ ws. words_of part ++ ws) (words_of_parts (next ∷ more))

-- the words of parts are the words among the parts of the parts
filtered_parts : (parts : List (List ℕ)) → flat_map words_of parts ≡ filter is_word (flat_map (slice_split is_blank) parts)
filtered_parts [] = refl
filtered_parts (part ∷ parts) =
    ap (λ ws. words_of part ++ ws) (filtered_parts parts)
    ∙ sym (filter-append is_word (slice_split is_blank part) (flat_map (slice_split is_blank) parts))

-- a byte comes in front of the first of two lists of parts
onto_append : (b : ℕ) (xs ys : List (List ℕ)) (some : (next : List ℕ) × ((more : List (List ℕ)) × (xs ≡ next ∷ more)))
    → onto_first b xs ++ ys ≡ onto_first b (xs ++ ys)
onto_append b [] ys some = absurd (let e : [] ≡ some.0 ∷ some.1.0 = some.1.1 in cc)
onto_append b (x ∷ xs) ys some = refl

-- to cut parts at blanks, one byte further on
cut_onto : (b : ℕ) (parts : List (List ℕ)) (some : (next : List ℕ) × ((more : List (List ℕ)) × (parts ≡ next ∷ more)))
    → flat_map (slice_split is_blank) (onto_first b parts)
    ≡ cond (is_blank b) ([] ∷ flat_map (slice_split is_blank) parts) (onto_first b (flat_map (slice_split is_blank) parts))
cut_onto b [] some = absurd (let e : [] ≡ some.0 ∷ some.1.0 = some.1.1 in cc)
cut_onto b (part ∷ parts) some = elim (by_bool (is_blank b)) [
  | inl blank ↦ rw blank refl
  | inr inside ↦
      rw inside (onto_append b (slice_split is_blank part) (flat_map (slice_split is_blank) parts) (cut_some is_blank part))
]

-- to cut at line feeds and then at blanks is to cut at both
cut_twice : (bytes : List ℕ) → flat_map (slice_split is_blank) (slice_split is_line_feed bytes) ≡ slice_split parts_file bytes
cut_twice [] = refl
cut_twice (b ∷ bytes) = elim (by_bool (is_line_feed b)) [
  | inl here ↦
      let parts : parts_file b ≡ true = grind (arith, common_steps) in
      rw (parts, here) (ap (λ ws. [] ∷ ws) (cut_twice bytes))
  | inr not_here ↦
      let same : parts_file b ≡ is_blank b = grind (arith, common_steps) in
      rw (same, not_here) (
      cut_onto b (slice_split is_line_feed bytes) (cut_some is_line_feed bytes)
      ∙ ap (λ ws. cond (is_blank b) ([] ∷ ws) (onto_first b ws)) (cut_twice bytes))
]

-- the words of a file are its runs
pub file_words-runs : (bytes : List ℕ) → file_words bytes ≡ runs parts_file bytes
file_words-runs bytes =
    words_of_parts (slice_split is_line_feed bytes)
    ∙ filtered_parts (slice_split is_line_feed bytes)
    ∙ ap (filter is_word) (cut_twice bytes)
