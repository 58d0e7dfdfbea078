-- Why the origin time is the function of the items that finds it, and so the root mean square.
use Rattle.std.proofs.Common.{◌≡◌, ℕ, zero, suc, ◌+◌, ◌*◌, ◌≤◌, ◌<◌, Bool, true, false, ◌⊎◌, inl, inr, List, [], ◌∷◌, length, get_or, Some, ℤ, pos, ◌-ℤ◌, ◌+ℤ◌, refl, sym, ◌∙◌, ap, arith}
use Rattle.std.specs.Prelude.{nat_le, find, unsigned_abs}
use Rattle.std.specs.List.{range_with_len}
use Rattle.std.proofs.lemmas.Bool.{cases_lt}
use Rattle.std.proofs.lemmas.Grind.{common_steps}
use Rattle.std.proofs.lemmas.Int.{ints}
use Rattle.origin_time.specs.Weights.{total_weight}
use Rattle.origin_time.specs.OriginTime.{comes_before, nearer_of, nearest_of, origin_of, IsOriginTime}
use Rattle.origin_time.specs.RootMeanSquare.{rms_of, total_square, IsRms}
use Rattle.origin_time.proofs.Medians.{distances, more_distance}

-- a test passes or doesn't
by_bool : (b : Bool) → (b ≡ true) ⊎ (b ≡ false)
by_bool true = inl refl
by_bool false = inr refl

-- no time comes before the origin time
none_before : (items : List (ℤ × ℕ)) (v t : ℤ) → IsOriginTime items v → comes_before items t v ≡ false
none_before items v t o = elim (by_bool (comes_before items t v)) [
  | inl is_so ↦
      let nearest = o.nearest t in
      let least = o.least t in
      grind (arith, ints, common_steps)
  | inr not_so ↦ not_so
]

-- and it comes before all others
before_all : (items : List (ℤ × ℕ)) (v t : ℤ) → IsOriginTime items v → comes_before items v t ≡ false → t ≡ v
before_all items v t o not_so =
    let nearest = o.nearest t in
    let least = o.least t in
    grind (arith, ints, common_steps)

kept : (items : List (ℤ × ℕ)) (v t : ℤ) → IsOriginTime items v → nearer_of items v t ≡ v
kept items v t o = rw (none_before items v t o) refl

taken : (items : List (ℤ × ℕ)) (v t : ℤ) → IsOriginTime items v → nearer_of items t v ≡ v
taken items v t o = elim (by_bool (comes_before items v t)) [
  | inl is_so ↦ rw is_so refl
  | inr not_so ↦ rw not_so (before_all items v t o not_so)
]

-- once it is found it stays
stays : (items : List (ℤ × ℕ)) (v : ℤ) (more : List (ℤ × ℕ)) → IsOriginTime items v → nearest_of items v more ≡ v
stays items v [] o = refl
stays items v (x ∷ more) o = ap (λ t. nearest_of items t more) (kept items v x.0 o) ∙ stays items v more o

-- the weight of an item that lies so far from a time, where it lies at it
abbrev weight_if : ℕ → ℕ → ℕ
weight_if zero w = w
weight_if (suc n) w = 0

-- the weight of all items at a time
abbrev weight_at : ℤ → List (ℤ × ℕ) → ℕ
weight_at v [] = 0
weight_at v (x ∷ items) = weight_if (unsigned_abs (x.0 -ℤ v)) x.1 + weight_at v items

-- an item as seen from the times beside a time
one_beside : (x v : ℤ) (w n : ℕ) → unsigned_abs (x -ℤ v) ≡ n
    → w * unsigned_abs (x -ℤ (v -ℤ pos 1)) + w * unsigned_abs (x -ℤ (v +ℤ pos 1)) ≡ 2 * (w * n) + 2 * weight_if n w
one_beside x v w zero at =
    let before : unsigned_abs (x -ℤ (v -ℤ pos 1)) ≡ 1 = omega (arith, ints, at) in
    let after : unsigned_abs (x -ℤ (v +ℤ pos 1)) ≡ 1 = omega (arith, ints, at) in
    rw (before, after) (omega arith)
one_beside x v w (suc n) at =
    let both : unsigned_abs (x -ℤ (v -ℤ pos 1)) + unsigned_abs (x -ℤ (v +ℤ pos 1)) ≡ 2 * suc n = omega (arith, ints, at) in
    let times : w * (unsigned_abs (x -ℤ (v -ℤ pos 1)) + unsigned_abs (x -ℤ (v +ℤ pos 1))) ≡ w * (2 * suc n) = ap (λ m. w * m) both in
    omega (arith, times)

-- all items as seen from there
all_beside : (v : ℤ) (items : List (ℤ × ℕ))
    → distances (v -ℤ pos 1) items + distances (v +ℤ pos 1) items ≡ 2 * distances v items + 2 * weight_at v items
all_beside v [] = refl
all_beside v (x ∷ items) =
    let first = one_beside x.0 v x.1 (unsigned_abs (x.0 -ℤ v)) refl in
    let rest = all_beside v items in
    omega (arith, first, rest, more_distance v x items, more_distance (v -ℤ pos 1) x items, more_distance (v +ℤ pos 1) x items)

-- some weight lies at the origin time
some_at : (items : List (ℤ × ℕ)) (v : ℤ) → IsOriginTime items v → 0 < weight_at v items
some_at items v o =
    let before : distances v items < distances (v -ℤ pos 1) items = o.least (v -ℤ pos 1) (omega (arith, ints)) in
    let after : distances v items ≤ distances (v +ℤ pos 1) items = o.nearest (v +ℤ pos 1) in
    omega (arith, before, after, all_beside v items)

-- the first item lies there, or a later one does
there : (x : ℤ × ℕ) (v : ℤ) (more : List (ℤ × ℕ)) (n : ℕ) → unsigned_abs (x.0 -ℤ v) ≡ n → 0 < weight_if n x.1 + weight_at v more
    → (x.0 ≡ v) ⊎ (0 < weight_at v more)
there x v more zero at some = inl (omega (arith, ints, at))
there x v more (suc n) at some = inr (omega (arith, some))

-- an item's time that is the origin time is found
found : (items : List (ℤ × ℕ)) (v time : ℤ) (more : List (ℤ × ℕ)) → IsOriginTime items v → 0 < weight_at v more → nearest_of items time more ≡ v
found items v time [] o some = absurd (omega (arith, some))
found items v time (x ∷ more) o some = elim (there x v more (unsigned_abs (x.0 -ℤ v)) refl some) [
  | inl here ↦ ap (λ t. nearest_of items (nearer_of items time t) more) here ∙ ap (λ t. nearest_of items t more) (taken items v time o) ∙ stays items v more o
  | inr later ↦ found items v (nearer_of items time x.0) more o later
]

-- the origin time is the one that is found
pub origin_is : (items : List (ℤ × ℕ)) (v : ℤ) → IsOriginTime items v → origin_of items ≡ v
unfolding origin_of
origin_is [] v o = absurd (let some = some_at [] v o in omega (arith, some))
origin_is (x ∷ items) v o = elim (there x v items (unsigned_abs (x.0 -ℤ v)) refl (some_at (x ∷ items) v o)) [
  | inl here ↦ ap (λ t. nearest_of (x ∷ items) t items) here ∙ stays (x ∷ items) v items o
  | inr later ↦ found (x ∷ items) v x.0 items o later
]

-- it is the time of an item
pub record IsAmong (items : List (ℤ × ℕ)) (v : ℤ) : Type 0 where
  pub place : ℕ
  pub below : place < length items
  pub time : (d : ℤ × ℕ) → (get_or items place d).0 ≡ v

among_by : (items : List (ℤ × ℕ)) (v : ℤ) → 0 < weight_at v items → IsAmong items v
among_by [] v some = absurd (omega (arith, some))
among_by (x ∷ items) v some = elim (there x v items (unsigned_abs (x.0 -ℤ v)) refl some) [
  | inl here ↦ record { place = 0; below = omega arith; time = λ d. here }
  | inr later ↦
      let rest = among_by items v later in
      record { place = suc rest.place; below = omega (arith, rest.below); time = rest.time }
]

pub among_items : (items : List (ℤ × ℕ)) (v : ℤ) → IsOriginTime items v → IsAmong items v
among_items items v o = among_by items v (some_at items v o)

-- the first of some numbers that passes a test
pub find_first : (test : ℕ → Bool) (steps from n : ℕ) → from ≤ n → n < from + steps → test n ≡ true
    → ((k : ℕ) → from ≤ k → k < n → test k ≡ false) → find test (range_with_len from steps) ≡ Some n
find_first test zero from n low high is_so not_so = absurd (omega arith)
find_first test (suc steps) from n low high is_so not_so = elim (cases_lt from n) [
  | inl less ↦ rw (not_so from (omega arith) less) (find_first test steps (from + 1) n (omega arith) (omega arith) is_so (λ k above below. not_so k (omega arith) below))
  | inr reached ↦ let same : n ≡ from = omega arith in rw (rw same at is_so) (ap Some (sym same))
]

-- the least root is at most the number itself
few_roots : (q p root : ℕ) → q ≤ root * root * p → ((k : ℕ) → k < root → k * k * p < q) → root ≤ q
few_roots zero p zero enough least = omega arith
few_roots zero p (suc root) enough least = absurd (let none = least 0 (omega arith) in omega (arith, none))
few_roots (suc q) zero root enough least = absurd (omega (arith, enough))
few_roots (suc q) (suc p) root enough least = elim (cases_lt (suc q) root) [
  | inl less ↦ absurd (let missed = least (suc q) less in omega (arith, missed))
  | inr few ↦ few
]

-- the root mean square is the one that is found
pub rms_is : (items : List (ℤ × ℕ)) (root : ℕ) → IsRms items root → rms_of items ≡ root
unfolding rms_of
rms_is items root r =
    let enough = r.enough in
    let is_so : nat_le (total_square items) (root * root * total_weight items) ≡ true = grind (arith, common_steps) in
    let few : root ≤ total_square items = few_roots (total_square items) (total_weight items) root r.enough r.least in
    let first = find_first (λ k. nat_le (total_square items) (k * k * total_weight items)) (suc (total_square items)) 0 root (omega arith) (omega (arith, few)) is_so
    (λ k above below. let missed = r.least k below in grind (arith, common_steps)) in
    rw first refl
