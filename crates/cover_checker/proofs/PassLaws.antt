-- What it means that a pass finds nothing.
use Rattle.std.proofs.Common.{◌≡◌, inl, inr, ℕ, ◌+◌, ◌<◌, ◌==◌, arith, refl, ap, sym, ◌∙◌, Bool, true, false, not, List, [], ◌∷◌, get_or, All, Option, None, Some}
use Rattle.std.specs.List.{position_from}
use Rattle.std.specs.Option.{option_or}
use Rattle.std.specs.Prelude.{nat_le, nat_lt, option_map}
use Rattle.std.proofs.lemmas.Bool.{and_cases, and_left, and_right, cases_Bool, cond-false, eq-eqb, eqb-true, leb-false, lt-leb, ltb-false, not-false}
use Rattle.std.proofs.lemmas.List.Elements.{All-cons, All-head, All-tail}
use Rattle.node_boxes.specs.declared.node_box.BoxBound.{BoxBound}
use Rattle.node_boxes.specs.Boxes.{is_single}
use Rattle.cover_checker.specs.declared.verdict.Verdict.TheVariants.{NotClosed, WrongBound}
use Rattle.cover_checker.specs.Covers.{misplaced, uncovered}
use Rattle.cover_checker.specs.Findings.{not_closed, not_zero, wrong_bound}
use Rattle.cover_checker.specs.Proving.{IsCover}
use Rattle.cover_checker.specs.Scorings.{Scoring}
use Rattle.cover_checker.specs.Inside.Walks.{cover_finding}
use Rattle.cover_checker.proofs.CoverLaws.{covered_once, holders_times, map-none, placed_inside, placed_once, well_covered, well_placed}
use Rattle.cover_checker.proofs.VerdictSteps.{is_open, is_positive, is_wrong}

-- where no element passes there is no first place, and the other way round
pub place_none : {X : Type 0} (test : X → Bool) (i : ℕ) (xs : List X) → position_from test i xs ≡ None → All (λ x. test x ≡ false) xs
place_none test i [] none = λ k d below. absurd (omega arith)
place_none test i (x ∷ xs) none = elim (cases_Bool (test x)) [
  | inl hit ↦ absurd (let bad : Some i ≡ None = rw hit at none in cc)
  | inr miss ↦ All-cons (λ y. test y ≡ false) x xs miss (place_none test (i + 1) xs (rw miss at none))
]

pub none_place : {X : Type 0} (test : X → Bool) (i : ℕ) (xs : List X) → All (λ x. test x ≡ false) xs → position_from test i xs ≡ None
none_place test i [] fails = refl
none_place test i (x ∷ xs) fails =
    cond-false (test x) (Some i) (position_from test (i + 1) xs) (All-head (λ y. test y ≡ false) x xs fails)
    ∙ none_place test (i + 1) xs (All-tail (λ y. test y ≡ false) x xs fails)

-- the bounds are right
pub right_bounds : (s : Scoring) (boxes : List BoxBound) → wrong_bound s boxes ≡ None → All (λ b. b.bound ≡ s.bound b.area) boxes
unfolding wrong_bound
right_bounds s boxes none =
    let fails = place_none (is_wrong s) 0 boxes (map-none WrongBound (position_from (is_wrong s) 0 boxes) none) in
    λ k d below. eqb-true (get_or boxes k d).bound (s.bound (get_or boxes k d).area) (not-false ((get_or boxes k d).bound == s.bound (get_or boxes k d).area) (fails k d below))

pub bounds_right : (s : Scoring) (boxes : List BoxBound) → All (λ b. b.bound ≡ s.bound b.area) boxes → wrong_bound s boxes ≡ None
unfolding wrong_bound
bounds_right s boxes right =
    ap (option_map WrongBound) (none_place (is_wrong s) 0 boxes
    (λ k d below. ap not (eq-eqb (get_or boxes k d).bound (s.bound (get_or boxes k d).area) (right k d below))))

-- boxes of several nodes are closed
pub closed_low : (least : ℕ) (boxes : List BoxBound) → not_closed least boxes ≡ None → All (λ b. is_single b.area ≡ false → b.bound < least) boxes
unfolding not_closed
closed_low least boxes none =
    let fails = place_none (is_open least) 0 boxes (map-none NotClosed (position_from (is_open least) 0 boxes) none) in
    λ k d below several.
    let b = get_or boxes k d in
    elim (and_cases (not (is_single b.area)) (nat_le least b.bound) (fails k d below)) [
      | inl single ↦ absurd (let bad : true ≡ false = sym (ap not several) ∙ single in cc)
      | inr low ↦ leb-false least b.bound low
    ]

pub low_closed : (least : ℕ) (boxes : List BoxBound) → All (λ b. is_single b.area ≡ false → b.bound < least) boxes → not_closed least boxes ≡ None
unfolding not_closed
low_closed least boxes low =
    ap (option_map NotClosed) (none_place (is_open least) 0 boxes
    (λ k d below.
    let b = get_or boxes k d in
    elim (cases_Bool (is_single b.area)) [
      | inl single ↦ and_left (not (is_single b.area)) (nat_le least b.bound) (ap not single)
      | inr several ↦ and_right (not (is_single b.area)) (nat_le least b.bound) (lt-leb least b.bound (low k d below several))
    ]))

-- no bound is above 0
pub zero_bounds : (boxes : List BoxBound) → not_zero boxes ≡ None → All (λ b. b.bound ≡ 0) boxes
unfolding not_zero
zero_bounds boxes none =
    let fails = place_none is_positive 0 boxes (map-none NotClosed (position_from is_positive 0 boxes) none) in
    λ k d below. let low = ltb-false 0 (get_or boxes k d).bound (fails k d below) in omega arith

pub bounds_zero : (boxes : List BoxBound) → All (λ b. b.bound ≡ 0) boxes → not_zero boxes ≡ None
unfolding not_zero
bounds_zero boxes zero_all =
    ap (option_map NotClosed) (none_place is_positive 0 boxes (λ k d below. ap (nat_lt 0) (zero_all k d below)))

-- the boxes are a cover
parts : {X : Type 0} (a b c : Option X) → None ≡ option_or a (option_or b c) → (a ≡ None) × ((b ≡ None) × (c ≡ None))
parts None None None none = (refl, (refl, refl))
parts None None (Some z) none = cc
parts None (Some y) c none = cc
parts (Some x) b c none = cc

pub cover_from : (s : Scoring) (boxes : List BoxBound) → misplaced s.grid boxes ≡ None → uncovered s.grid boxes ≡ None → wrong_bound s boxes ≡ None → IsCover s boxes
cover_from s boxes placed covered right = record {
  inside = placed_inside s.grid boxes placed;
  once = λ node below. omega (arith, holders_times s.grid boxes node, placed_once s.grid boxes placed node below, covered_once s.grid boxes covered node below);
  bounds = right_bounds s boxes right;
}

pub cover_is : (s : Scoring) (boxes : List BoxBound) → None ≡ cover_finding s boxes → IsCover s boxes
cover_is s boxes none =
    let each = parts (misplaced s.grid boxes) (uncovered s.grid boxes) (wrong_bound s boxes) none in
    let later = each.1 in
    cover_from s boxes each.0 later.0 later.1

-- a cover has no fault
pub cover_placed : (s : Scoring) (boxes : List BoxBound) → IsCover s boxes → misplaced s.grid boxes ≡ None
cover_placed s boxes cover =
    well_placed s.grid boxes cover.inside (λ node below. omega (arith, holders_times s.grid boxes node, cover.once node below))

pub cover_covered : (s : Scoring) (boxes : List BoxBound) → IsCover s boxes → uncovered s.grid boxes ≡ None
cover_covered s boxes cover = well_covered s.grid boxes (λ node below. omega (arith, holders_times s.grid boxes node, cover.once node below))
