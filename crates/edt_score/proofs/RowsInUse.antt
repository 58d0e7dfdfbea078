-- The rows of picks, one pick after another.
use Rattle.std.proofs.Common.{◌≡◌, ℕ, List, [], ◌∷◌, ◌++◌, ◌<◌, ◌≤◌, ◌⊎◌, All, inl, inr, arith, refl, ap, sym, subst, ◌∙◌, length, map, get_or, slice_index}
use Rattle.std.proofs.lemmas.List.{get_or_append_left, length-append, map-append}
use Rattle.std.proofs.Math.Seq.{get_or-append_seam}
use Rattle.std.proofs.lemmas.List.Elements.{All-head, All-tail, All-push}
use Rattle.edt_score.specs.declared.problem.ProblemPick.{ProblemPick}
use Rattle.edt_score.specs.Inside.UsedRows.{AreRowsOf, IsKept, rows_of}

-- rows that were kept before stay where they are
rows_stay : (rows : List ℕ) (row : ℕ) (after : List ℕ) → (after ≡ rows) ⊎ (after ≡ rows ++ row ∷ []) → (j : ℕ) → j < length rows → get_or after j 0 ≡ get_or rows j 0
rows_stay rows row after (inl same) j below = ap (λ xs. get_or xs j 0) same
rows_stay rows row after (inr more) j below = ap (λ xs. get_or xs j 0) more ∙ get_or_append_left rows (row ∷ []) 0 j below

no_fewer : (rows : List ℕ) (row : ℕ) (after : List ℕ) → (after ≡ rows) ⊎ (after ≡ rows ++ row ∷ []) → length rows ≤ length after
no_fewer rows row after (inl same) = omega (arith, ap length same)
no_fewer rows row after (inr more) = omega (arith, ap length more, length-append {A = ℕ} rows (row ∷ []))

places_stay : (rows after places : List ℕ) → ((j : ℕ) → j < length rows → get_or after j 0 ≡ get_or rows j 0) → All (λ place. place < length rows) places
    → map (slice_index after) places ≡ map (slice_index rows) places
places_stay rows after [] stay within = refl
places_stay rows after (place ∷ places) stay within =
    let here = stay place (All-head (λ p. p < length rows) place places within) in
    let rest = places_stay rows after places stay (All-tail (λ p. p < length rows) place places within) in
    rw (here, rest) refl

-- the rows of one more pick
rows_of-push : (picks : List ProblemPick) (pick : ProblemPick) → rows_of (picks ++ pick ∷ []) ≡ rows_of picks ++ pick.row ∷ []
rows_of-push picks pick = map-append (λ (p : ProblemPick). p.row) picks (pick ∷ [])

-- what holds of all of a longer list holds of its front and of its last
all_front : (P : ℕ → Type 0) (xs : List ℕ) (x : ℕ) → All P (xs ++ x ∷ []) → All P xs
all_front P xs x all k d below =
    subst P (get_or_append_left xs (x ∷ []) d k below) (all k d (omega (arith, length-append {A = ℕ} xs (x ∷ []))))

all_last : (P : ℕ → Type 0) (xs : List ℕ) (x : ℕ) → All P (xs ++ x ∷ []) → P x
all_last P xs x all =
    subst P (get_or-append_seam xs x [] x) (all (length xs) x (omega (arith, length-append {A = ℕ} xs (x ∷ []))))

all_kept : (P : ℕ → Type 0) (rows : List ℕ) (row : ℕ) (after : List ℕ) → (after ≡ rows) ⊎ (after ≡ rows ++ row ∷ []) → All P rows → P row → All P after
all_kept P rows row after (inl same) all last = subst (All P) (sym same) all
all_kept P rows row after (inr more) all last = subst (All P) (sym more) (All-push P rows row all last)

-- one more pick, whose row is kept
pub rows_more : (picks : List ProblemPick) (pick : ProblemPick) (rows after places : List ℕ) (place : ℕ)
    → AreRowsOf picks rows places → IsKept rows pick.row place after → AreRowsOf (picks ++ pick ∷ []) after (places ++ place ∷ [])
rows_more picks pick rows after places place are kept =
    let stay = rows_stay rows pick.row after kept.rows in
    let fewer = no_fewer rows pick.row after kept.rows in
    record {
      placed = map-append (slice_index after) places (place ∷ [])
          ∙ rw (places_stay rows after places stay are.within, are.placed, kept.here) (sym (rows_of-push picks pick));
      within = All-push (λ p. p < length after) places place (λ k d below. let less = are.within k d below in omega arith) kept.within;
      limit = λ n all.
          let both = subst (All (λ r. r < n)) (rows_of-push picks pick) all in
          all_kept (λ r. r < n) rows pick.row after kept.rows (are.limit n (all_front (λ r. r < n) (rows_of picks) pick.row both))
          (all_last (λ r. r < n) (rows_of picks) pick.row both);
    }
