-- What the picks of a problem say of the origin: their weights, and how far they are from it.
use Rattle.std.proofs.Common.{◌≡◌, ◌≢◌, ℕ, zero, suc, ◌+◌, ◌<◌, ◌≤◌, List, [], ◌∷◌, length, get_or, map, ℤ, pos, ◌-ℤ◌, inl, inr, refl, sym, ◌∙◌, ap, arith}
use Rattle.std.specs.Prelude.{All, unsigned_abs}
use Rattle.std.specs.List.{AllPairs}
use Rattle.std.proofs.lemmas.Bool.{cases_lt}
use Rattle.std.proofs.lemmas.Int.{ints}
use Rattle.std.proofs.lemmas.List.{get_or-map, length-map}
use Rattle.std.proofs.lemmas.List.Sums.{sum_by-cons}
use Rattle.edt_score.specs.Field.{FieldTimes}
use Rattle.edt_score.specs.Problem.{AreNear, IsValidPick}
use Rattle.edt_score.specs.declared.problem.ProblemPick.{ProblemPick}
use Rattle.event_assembly.specs.Assembled.{HasTime, measures_of, problem_measures}
use Rattle.station_table.specs.declared.picks.UsedPick.{UsedPick}
use Rattle.origin_time.specs.RootMeanSquare.{IsResidual}
use Rattle.origin_time.specs.Weights.{total_weight}
use Rattle.origin_time.proofs.Functions.{IsAmong}
use Rattle.location_report.specs.Blocks.{item_at, items_at, residual_from}
use Rattle.location_report.specs.Inside.Locating.{IsNearNode, IsTimed, IsWithinReach}

-- a pick that stands for one that there isn't
abbrev pub no_pick : ProblemPick
no_pick = record { time = pos 0; weight = 0; variance = 0; row = 0 }

-- weights of valid picks don't add to 0
pub some_weight : (field : FieldTimes) (node : ℕ) (picks : List ProblemPick) → 2 ≤ length picks → All (IsValidPick field) picks
    → total_weight (items_at field node picks) ≢ 0
some_weight field node [] two valid none = absurd (omega (arith, two))
some_weight field node (p ∷ picks) two valid none =
    let weight = (valid 0 p (omega arith)).some_weight in
    let sum = sum_by-cons (λ (item : ℤ × ℕ). item.1) (item_at field node p) (items_at field node picks) in
    absurd (omega (arith, weight, sum, none))

-- residuals have the weights of their items
pub same_weight : (time : ℤ) (items : List (ℤ × ℕ)) → total_weight (map (residual_from time) items) ≡ total_weight items
same_weight time [] = refl
same_weight time (x ∷ items) =
    sum_by-cons (λ (item : ℤ × ℕ). item.1) (residual_from time x) (map (residual_from time) items)
    ∙ ap (λ w. x.1 + w) (same_weight time items)
    ∙ sym (sum_by-cons (λ (item : ℤ × ℕ). item.1) x items)

-- the times of any two picks are near
any_near : (picks : List ProblemPick) (i j : ℕ) → AllPairs AreNear picks → i < length picks → j < length picks
    → unsigned_abs ((get_or picks i no_pick).time -ℤ (get_or picks j no_pick).time) ≤ 2200000000000
any_near picks i j pairs first second = elim (cases_lt i j) [
  | inl less ↦ pairs i j no_pick less second
  | inr from ↦ elim (cases_lt j i) [
    | inl more ↦ let near = pairs j i no_pick more first in omega (arith, ints, near)
    | inr to ↦ let same : i ≡ j = omega (arith, from, to) in rw same (omega (arith, ints))
  ]
]

-- an item at its place
item_is : (field : FieldTimes) (node : ℕ) (picks : List ProblemPick) (k : ℕ) (e : ℤ × ℕ) → k < length picks
    → get_or (items_at field node picks) k e ≡ item_at field node (get_or picks k no_pick)
item_is field node picks k e below = get_or-map (item_at field node) picks k no_pick e below

-- all items are near the origin time, which is one of theirs
pub within_reach : (field : FieldTimes) (node : ℕ) (picks : List ProblemPick) (origin : ℤ) → All (IsNearNode field node) picks
    → AllPairs AreNear picks → IsAmong (items_at field node picks) origin → All (IsWithinReach origin) (items_at field node picks)
within_reach field node picks origin near pairs among k e below =
    let count : length (items_at field node picks) ≡ length picks = length-map picks (item_at field node) in
    let first : k < length picks = omega (arith, below, count) in
    let placed = among.below in
    let second : among.place < length picks = omega (arith, placed, count) in
    let here : get_or (items_at field node picks) k e ≡ item_at field node (get_or picks k no_pick) = item_is field node picks k e first in
    let there : origin ≡ (item_at field node (get_or picks among.place no_pick)).0 =
    sym (among.time e) ∙ ap (λ (x : ℤ × ℕ). x.0) (item_is field node picks among.place e second) in
    let a = near k no_pick first in
    let b = near among.place no_pick second in
    let times = any_near picks k among.place pairs first second in
    rw (here, there) (omega (arith, ints, a, b, times))

-- a weight of at most 2000
abbrev IsLight : ℤ × ℕ → Type 0
IsLight item = item.1 ≤ 2000

pub light_items : (field : FieldTimes) (node : ℕ) (picks : List ProblemPick) → All (IsValidPick field) picks → All IsLight (items_at field node picks)
light_items field node picks valid k e below =
    let count : length (items_at field node picks) ≡ length picks = length-map picks (item_at field node) in
    let first : k < length picks = omega (arith, below, count) in
    rw (item_is field node picks k e first) (valid k no_pick first).weight

-- their residuals are within the limits of a root mean square
pub residual_limits : (items : List (ℤ × ℕ)) (time : ℤ) → All (IsWithinReach time) items → All IsLight items
    → All IsResidual (map (residual_from time) items)
residual_limits items time near light k e below =
    let first : k < length items = omega (arith, below, length-map items (residual_from time)) in
    rw (get_or-map (residual_from time) items k e e first) (record { residual = near k e first; weight = light k e first })

-- times within their limit, as the used picks have them
pub timed : (used : List UsedPick) (picks : List ProblemPick) → All HasTime used → map problem_measures picks ≡ map measures_of used
    → All IsTimed picks
timed [] [] times same k p below = absurd (omega (arith, below))
timed [] (q ∷ picks) times same k p below = absurd cc
timed (u ∷ used) [] times same k p below = absurd (omega (arith, below))
timed (u ∷ used) (q ∷ picks) times same zero p below =
    let head : problem_measures q ≡ measures_of u = cc in
    let time : q.time ≡ u.time = ap (λ (m : ℤ × ℕ × ℕ). m.0) head in
    rw time (times 0 u (omega arith))
timed (u ∷ used) (q ∷ picks) times same (suc k) p below =
    let rest : map problem_measures picks ≡ map measures_of used = cc in
    timed used picks (λ j v l. times (suc j) v (omega (arith, l))) rest k p (omega (arith, below))

-- as many picks as used picks
pub same_count : (used : List UsedPick) (picks : List ProblemPick) → map problem_measures picks ≡ map measures_of used → length picks ≡ length used
same_count used picks same = sym (length-map picks problem_measures) ∙ ap length same ∙ length-map used measures_of
