-- Picks with their places as their rows: their pairs, their bounds and their scores are those of the picks.
use Rattle.std.proofs.Common.{◌≡◌, ℕ, ℤ, List, [], ◌∷◌, ◌++◌, ◌+◌, ◌<◌, ◌≤◌, All, zero, suc, arith, refl, sym, ap, ◌∙◌, get_or, length, map, set, sum_by, take}
use Rattle.std.proofs.lemmas.List.Sums.{sum_by-cons}
use Rattle.std.proofs.lemmas.List.{map_more, take_all, take_more_set}
use Rattle.std.proofs.lemmas.Option.{slice_get-get_or}
use Rattle.std.specs.List.{AllPairs}
use Rattle.std.specs.Prelude.{Option, option_map, unwrap_or}
use Rattle.kernel_table.specs.declared.kernels.Shape.{Shape}
use Rattle.minmax_pyramid.specs.Spans.{span_over}
use Rattle.edt_score.specs.declared.ends.Ends.{Ends}
use Rattle.edt_score.specs.declared.problem.ProblemPick.{ProblemPick}
use Rattle.edt_score.specs.Bound.{IsTimeSpan, bound_by, bound_over, pair_bound}
use Rattle.edt_score.specs.Field.{FieldTimes, time_at}
use Rattle.edt_score.specs.KeptPairs.{span_at}
use Rattle.edt_score.specs.Look.{numbered, numbered_from, pick_time, row_at}
use Rattle.edt_score.specs.PairTerms.{pairs_of, terms_of}
use Rattle.edt_score.specs.Problem.{AreNear}
use Rattle.edt_score.specs.Score.{pair_sum, score_of}
use Rattle.edt_score.specs.Inside.Domination.{bound_over-one}
use Rattle.edt_score.specs.Inside.Ends.{IsNear, ends_of, ends_within}
use Rattle.edt_score.specs.Inside.Families.{IsClose}
use Rattle.edt_score.proofs.Readable.{near_first}

pub length-numbered_from : (place : ℕ) (picks : List ProblemPick) → length (numbered_from place picks) ≡ length picks
length-numbered_from place [] = refl
length-numbered_from place (pick ∷ picks) = ap suc (length-numbered_from (place + 1) picks)

-- the pick at a place
pub get_or-numbered_from : (place : ℕ) (picks : List ProblemPick) (i : ℕ) (d : ProblemPick) → i < length picks
    → get_or (numbered_from place picks) i d ≡ record (get_or picks i d) { row = place + i }
get_or-numbered_from place [] i d below = absurd (omega arith)
get_or-numbered_from place (pick ∷ picks) zero d below =
    let same : place ≡ place + 0 = omega arith in
    ap (λ (row : ℕ). record pick { row = row }) same
get_or-numbered_from place (pick ∷ picks) (suc i) d below =
    let same : (place + 1) + i ≡ place + suc i = omega arith in
    get_or-numbered_from (place + 1) picks i d (omega arith) ∙ ap (λ (row : ℕ). record (get_or picks i d) { row = row }) same

pub get_or-numbered : (picks : List ProblemPick) (i : ℕ) (d : ProblemPick) → i < length picks
    → get_or (numbered picks) i d ≡ record (get_or picks i d) { row = i }
get_or-numbered picks i d below =
    let same : 0 + i ≡ i = omega arith in
    get_or-numbered_from 0 picks i d below ∙ ap (λ (row : ℕ). record (get_or picks i d) { row = row }) same

-- rows don't matter to scales and weights
terms-numbered : (pick : ProblemPick) (place : ℕ) (picks : List ProblemPick) → map (terms_of pick) (numbered_from place picks) ≡ map (terms_of pick) picks
terms-numbered pick place [] = refl
terms-numbered pick place (other ∷ picks) = ap (λ rest. terms_of pick other ∷ rest) (terms-numbered pick (place + 1) picks)

pub pairs_of-numbered : (place : ℕ) (picks : List ProblemPick) → pairs_of (numbered_from place picks) ≡ pairs_of picks
pairs_of-numbered place [] = refl
pairs_of-numbered place (pick ∷ picks) =
    ap (λ row. row ++ pairs_of (numbered_from (place + 1) picks)) (terms-numbered pick (place + 1) picks)
    ∙ ap (λ rest. map (terms_of pick) picks ++ rest) (pairs_of-numbered (place + 1) picks)

-- sums over the pairs of mapped items
sum_by-mapped : {X Y : Type 0} (f : Y → ℕ) (to : X → Y) (xs : List X) → sum_by f (map to xs) ≡ sum_by (λ x. f (to x)) xs
sum_by-mapped f to [] = refl
sum_by-mapped f to (x ∷ xs) = omega (arith, sum_by-cons f (to x) (map to xs), sum_by-cons (λ y. f (to y)) x xs, sum_by-mapped f to xs)

pair_sum-mapped : {X Y : Type 0} (f : Y → Y → ℕ) (to : X → Y) (xs : List X) → pair_sum f (map to xs) ≡ pair_sum (λ a b. f (to a) (to b)) xs
pair_sum-mapped f to [] = refl
pair_sum-mapped f to (x ∷ xs) = omega (arith, sum_by-mapped (f (to x)) to xs, pair_sum-mapped f to xs)

-- a pick with the row that stands at its place
placed : List ProblemPick → ProblemPick → ProblemPick
placed all pick = record pick { row = row_at all pick.row }

-- so numbered picks are put back
numbered-back : (all picks : List ProblemPick) (place : ℕ) → ((j : ℕ) (d : ProblemPick) → j < length picks → row_at all (place + j) ≡ (get_or picks j d).row)
    → map (placed all) (numbered_from place picks) ≡ picks
unfolding placed
numbered-back all [] place rows = refl
numbered-back all (pick ∷ picks) place rows =
    let same : place ≡ place + 0 = omega arith in
    let here : row_at all place ≡ pick.row = ap (row_at all) same ∙ rows 0 pick (omega arith) in
    let later : (j : ℕ) (d : ProblemPick) → j < length picks → row_at all ((place + 1) + j) ≡ (get_or picks j d).row =
    λ j d below. let next : (place + 1) + j ≡ place + suc j = omega arith in ap (row_at all) next ∙ rows (suc j) d (omega arith) in
    ap (λ (row : ℕ). record pick { row = row } ∷ map (placed all) (numbered_from (place + 1) picks)) here
    ∙ ap (λ rest. pick ∷ rest) (numbered-back all picks (place + 1) later)

row_at-get : (picks : List ProblemPick) (j : ℕ) (d : ProblemPick) → j < length picks → row_at picks j ≡ (get_or picks j d).row
row_at-get picks j d below = ap (λ (found : Option ProblemPick). unwrap_or (option_map (λ (p : ProblemPick). p.row) found) 0) (slice_get-get_or picks j d below)

-- the bound of numbered picks, each with the spans of its own row
pub bound_by-numbered : (shape : Shape) (spans : ℕ → ℕ × ℕ) (picks : List ProblemPick)
    → bound_by shape (λ place. spans (row_at picks place)) (numbered picks) ≡ bound_by shape spans picks
unfolding placed
bound_by-numbered shape spans picks =
    let rows : (j : ℕ) (d : ProblemPick) → j < length picks → row_at picks (0 + j) ≡ (get_or picks j d).row =
    λ j d below. let same : 0 + j ≡ j = omega arith in ap (row_at picks) same ∙ row_at-get picks j d below in
    let back = numbered-back picks picks 0 rows in
    sym (pair_sum-mapped (λ a b. pair_bound shape a b (spans a.row) (spans b.row)) (placed picks) (numbered picks))
    ∙ ap (pair_sum (λ a b. pair_bound shape a b (spans a.row) (spans b.row))) back

pub bound_over-numbered : (shape : Shape) (field : FieldTimes) (picks : List ProblemPick) (nodes : List ℕ)
    → bound_over shape (pick_time field picks) (numbered picks) nodes ≡ bound_over shape (time_at field) picks nodes
bound_over-numbered shape field picks nodes = bound_by-numbered shape (λ row. span_over (time_at field row) nodes) picks

pub score_of-numbered : (shape : Shape) (field : FieldTimes) (picks : List ProblemPick) (node : ℕ)
    → score_of shape (pick_time field picks) (numbered picks) node ≡ score_of shape (time_at field) picks node
score_of-numbered shape field picks node =
    sym (bound_over-one shape (pick_time field picks) (numbered picks) node) ∙ bound_over-numbered shape field picks (node ∷ [])
    ∙ bound_over-one shape (time_at field) picks node

-- each pick is near the first one
pub near-first : (picks : List ProblemPick) (d : ProblemPick) → AllPairs AreNear picks → All (IsClose (get_or picks 0 d).time) picks
near-first picks d near = near_first picks d near

-- so numbered picks with spans in order are near
pub IsNear-numbered : (start : ℤ) (spans : List (ℕ × ℕ)) (picks : List ProblemPick) → All (IsClose start) picks → length spans ≡ length picks
    → All IsTimeSpan spans
    → All (IsNear start (span_at spans)) (numbered picks)
IsNear-numbered start spans picks close one times k d below =
    let within : k < length picks = omega (arith, length-numbered_from 0 picks) in
    let here : get_or (numbered picks) k d ≡ record (get_or picks k d) { row = k } = get_or-numbered picks k d within in
    let in_spans : k < length spans = omega (arith, one) in
    rw here (record { close = close k d within; span = times k (0, 0) in_spans })

-- one more pick's ends are written
pub fill_more : (start : ℤ) (spans : List (ℕ × ℕ)) (picks : List ProblemPick) (ends : List Ends) (i : ℕ) (next : Ends) (d : ProblemPick)
    → i < length picks → length ends ≡ length picks → next ≡ ends_within start (get_or picks i d).time (span_at spans i)
    → take i ends ≡ map (ends_of start (span_at spans)) (take i (numbered picks))
    → take (i + 1) (set ends i next) ≡ map (ends_of start (span_at spans)) (take (i + 1) (numbered picks))
fill_more start spans picks ends i next d below long is before =
    let here : get_or (numbered picks) i d ≡ record (get_or picks i d) { row = i } = get_or-numbered picks i d below in
    let value : next ≡ ends_of start (span_at spans) (get_or (numbered picks) i d) = is ∙ ap (ends_of start (span_at spans)) (sym here) in
    take_more_set ends i next (omega (arith, long))
    ∙ ap (λ (es : List Ends). es ++ next ∷ []) before
    ∙ ap (λ (e : Ends). map (ends_of start (span_at spans)) (take i (numbered picks)) ++ e ∷ []) value
    ∙ sym (map_more (ends_of start (span_at spans)) (numbered picks) i d (omega (arith, length-numbered_from 0 picks)))

-- once all are written
pub fill_all : (start : ℤ) (spans : List (ℕ × ℕ)) (picks : List ProblemPick) (ends : List Ends) (i : ℕ) → length ends ≤ i → length picks ≤ i
    → take i ends ≡ map (ends_of start (span_at spans)) (take i (numbered picks)) → ends ≡ map (ends_of start (span_at spans)) (numbered picks)
fill_all start spans picks ends i past_ends past_picks before =
    sym (take_all i ends past_ends) ∙ before
    ∙ ap (map (ends_of start (span_at spans))) (take_all i (numbered picks) (omega (arith, length-numbered_from 0 picks)))
