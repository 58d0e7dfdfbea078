-- Why the least weighted median is nearest.
use Rattle.std.proofs.Common.{◌≡◌, ℕ, ◌+◌, ◌*◌, ◌≤◌, ◌<◌, false, List, [], ◌∷◌, length, take, drop, suc, ℤ, ◌-ℤ◌, ◌<ℤ◌, ◌≤ℤ◌, refl, arith, subst, get_or}
use Rattle.std.specs.Prelude.{All, unsigned_abs}
use Rattle.std.specs.List.{sum_by}
use Rattle.std.specs.List.Sorted.{IsSortedByKey, IsPermutation}
use Rattle.std.specs.Ordering.{int_cmp, is_lt, MatchOrdering}
use Rattle.std.specs.declared.cmp.Ordering.{Ordering}
use Rattle.std.specs.declared.cmp.Ordering.TheVariants.{Less, Equal, Greater}
use Rattle.std.proofs.Math.Nat.{mul-le-mul_left}
use Rattle.std.proofs.lemmas.Cmp.{int_cmp_total, int_ranked}
use Rattle.std.proofs.lemmas.Int.{ints}
use Rattle.std.proofs.lemmas.List.{length-take, length-drop, get_or-take, get_or-drop, get_or_default}
use Rattle.std.proofs.lemmas.List.Sorted.{ranks_by, sorted_far, sum_by-IsPermutation}
use Rattle.std.proofs.lemmas.List.Sums.{sum_by-cons, sum_by-take-drop}
use Rattle.origin_time.specs.Weights.{total_weight}
use Rattle.origin_time.specs.OriginTime.{distance_from, IsOriginTime}

-- the sum of the distances, as it is written
abbrev pub distances : ℤ → List (ℤ × ℕ) → ℕ
distances time items = sum_by (distance_from time) items

-- sums with one more item
pub more_distance : (time : ℤ) (x : ℤ × ℕ) (items : List (ℤ × ℕ)) → distances time (x ∷ items) ≡ x.1 * unsigned_abs (x.0 -ℤ time) + distances time items
more_distance time x items = sum_by-cons (distance_from time) x items

pub more_weight : (d : ℕ) (x : ℤ × ℕ) (items : List (ℤ × ℕ)) → d * total_weight (x ∷ items) ≡ x.1 * d + d * total_weight items
more_weight d x items =
    let more : total_weight (x ∷ items) ≡ x.1 + total_weight items = sum_by-cons (λ (item : ℤ × ℕ). item.1) x items in
    rw more (omega arith)

-- an item's distance grows by at most the way between two times
pub moved : (x v t : ℤ) (d w : ℕ) → unsigned_abs (v -ℤ t) ≡ d → w * unsigned_abs (x -ℤ v) ≤ w * unsigned_abs (x -ℤ t) + w * d
moved x v t d w way =
    let step : unsigned_abs (x -ℤ v) ≤ unsigned_abs (x -ℤ t) + d = omega (arith, ints, way) in
    let times : w * unsigned_abs (x -ℤ v) ≤ w * (unsigned_abs (x -ℤ t) + d) = mul-le-mul_left w step in omega (arith, times)

-- and shrinks by all of it where the times move towards the item
pub nearer : (x v t : ℤ) (d w : ℕ) → unsigned_abs (x -ℤ t) ≡ unsigned_abs (x -ℤ v) + d
    → w * unsigned_abs (x -ℤ v) + w * d ≡ w * unsigned_abs (x -ℤ t)
nearer x v t d w far = rw far (omega arith)

-- the same for all items
pub all_moved : (v t : ℤ) (d : ℕ) (items : List (ℤ × ℕ)) → unsigned_abs (v -ℤ t) ≡ d
    → distances v items ≤ distances t items + d * total_weight items
all_moved v t d [] way = omega arith
all_moved v t d (x ∷ items) way =
    let first : x.1 * unsigned_abs (x.0 -ℤ v) ≤ x.1 * unsigned_abs (x.0 -ℤ t) + x.1 * d = moved x.0 v t d x.1 way in
    let rest : distances v items ≤ distances t items + d * total_weight items = all_moved v t d items way in
    omega (arith, first, rest, more_distance v x items, more_distance t x items, more_weight d x items)

pub all_nearer : (v t : ℤ) (d : ℕ) (items : List (ℤ × ℕ))
    → All (λ (x : ℤ × ℕ). unsigned_abs (x.0 -ℤ t) ≡ unsigned_abs (x.0 -ℤ v) + d) items
    → distances v items + d * total_weight items ≡ distances t items
all_nearer v t d [] far = omega arith
all_nearer v t d (x ∷ items) far =
    let first : x.1 * unsigned_abs (x.0 -ℤ v) + x.1 * d ≡ x.1 * unsigned_abs (x.0 -ℤ t) = nearer x.0 v t d x.1 (far 0 x (omega arith)) in
    let rest : distances v items + d * total_weight items ≡ distances t items = all_nearer v t d items (λ k y l. far (suc k) y (omega (arith, l))) in
    omega (arith, first, rest, more_distance v x items, more_distance t x items, more_weight d x items)

-- items of which those up to a place have at least half of the weight, and those before it less, none after the place before v, none
-- before it after v
pub record IsMiddle (items : List (ℤ × ℕ)) (place : ℕ) (v : ℤ) : Type 0 where
  pub upto : All (λ (x : ℤ × ℕ). x.0 ≤ℤ v) (take (place + 1) items)
  pub from : All (λ (x : ℤ × ℕ). v ≤ℤ x.0) (drop place items)
  pub before : 2 * total_weight (take place items) < total_weight items
  pub half : total_weight items ≤ 2 * total_weight (take (place + 1) items)

-- sums over the items up to a place and over the others
pub parted : (time : ℤ) (place : ℕ) (items : List (ℤ × ℕ)) → distances time (take place items) + distances time (drop place items) ≡ distances time items
parted time place items = sum_by-take-drop (distance_from time) items place

pub parted_weight : (place : ℕ) (items : List (ℤ × ℕ)) → total_weight (take place items) + total_weight (drop place items) ≡ total_weight items
parted_weight place items = sum_by-take-drop (λ (item : ℤ × ℕ). item.1) items place

-- an earlier time has a greater sum of distances
pub earlier_is_farther : (items : List (ℤ × ℕ)) (place : ℕ) (v t : ℤ) → IsMiddle items place v → t <ℤ v → distances v items < distances t items
earlier_is_farther items place v t m early =
    let d : ℕ = unsigned_abs (v -ℤ t) in
    let some : 0 < d = omega (arith, ints, early) in
    let front : distances v (take place items) ≤ distances t (take place items) + d * total_weight (take place items) = all_moved v t d (take place items) refl in
    let back : distances v (drop place items) + d * total_weight (drop place items) ≡ distances t (drop place items) =
    all_nearer v t d (drop place items) (λ k x l. let from = m.from k x l in omega (arith, ints, from, early)) in
    let light : total_weight (take place items) + 1 ≤ total_weight (drop place items) = omega (arith, m.before, parted_weight place items) in
    let times : d * (total_weight (take place items) + 1) ≤ d * total_weight (drop place items) = mul-le-mul_left d light in
    omega (arith, some, front, back, times, parted v place items, parted t place items)

-- a later time has no smaller sum
pub later_is_no_nearer : (items : List (ℤ × ℕ)) (place : ℕ) (v t : ℤ) → IsMiddle items place v → v ≤ℤ t → distances v items ≤ distances t items
later_is_no_nearer items place v t m late =
    let d : ℕ = unsigned_abs (v -ℤ t) in
    let front : distances v (take (place + 1) items) + d * total_weight (take (place + 1) items) ≡ distances t (take (place + 1) items) =
    all_nearer v t d (take (place + 1) items) (λ k x l. let upto = m.upto k x l in omega (arith, ints, upto, late)) in
    let back : distances v (drop (place + 1) items) ≤ distances t (drop (place + 1) items) + d * total_weight (drop (place + 1) items) = all_moved v t d (drop (place + 1) items) refl in
    let heavy : total_weight (drop (place + 1) items) ≤ total_weight (take (place + 1) items) = omega (arith, m.half, parted_weight (place + 1) items) in
    let times : d * total_weight (drop (place + 1) items) ≤ d * total_weight (take (place + 1) items) = mul-le-mul_left d heavy in
    omega (arith, front, back, times, parted v (place + 1) items, parted t (place + 1) items)

-- no time has a smaller sum
pub none_is_nearer-by : (items : List (ℤ × ℕ)) (place : ℕ) (v t : ℤ) (r : Ordering) → MatchOrdering r (t <ℤ v) (t ≡ v) (v <ℤ t) → IsMiddle items place v
    → distances v items ≤ distances t items
none_is_nearer-by items place v t Less early m = let farther = earlier_is_farther items place v t m early in omega (arith, farther)
none_is_nearer-by items place v t Equal same m = rw same (omega arith)
none_is_nearer-by items place v t Greater late m = later_is_no_nearer items place v t m (omega (arith, ints, late))

pub middle_is_origin : (items : List (ℤ × ℕ)) (place : ℕ) (v : ℤ) → IsMiddle items place v → IsOriginTime items v
middle_is_origin items place v m = record {
  nearest = λ t. none_is_nearer-by items place v t (int_cmp t v) (int_ranked t v (int_cmp t v) refl) m;
  least = λ t early. earlier_is_farther items place v t m early;
}

-- the sums of items in another order are the same
pub permuted : (items sorted : List (ℤ × ℕ)) (v : ℤ) → IsPermutation items sorted → IsOriginTime sorted v → IsOriginTime items v
permuted items sorted v swaps o = record {
  nearest = λ t. subst (λ m. distances v items ≤ m) (sum_by-IsPermutation (distance_from t) items sorted swaps)
      (subst (λ m. m ≤ distances t sorted) (sum_by-IsPermutation (distance_from v) items sorted swaps) (o.nearest t));
  least = λ t early. subst (λ m. distances v items < m) (sum_by-IsPermutation (distance_from t) items sorted swaps)
      (subst (λ m. m < distances t sorted) (sum_by-IsPermutation (distance_from v) items sorted swaps) (o.least t early));
}

-- what isn't below is above
pub not_below : (a b : ℤ) (r : Ordering) → MatchOrdering r (a <ℤ b) (a ≡ b) (b <ℤ a) → is_lt r ≡ false → b ≤ℤ a
not_below a b Less less no_less = absurd cc
not_below a b Equal same no_less = omega (arith, ints, same)
not_below a b Greater more no_less = omega (arith, ints, more)

-- sorted items rise
pub rising : (items : List (ℤ × ℕ)) → IsSortedByKey (λ (x : ℤ × ℕ). x.0) int_cmp items
    → (i j : ℕ) (x : ℤ × ℕ) → i ≤ j → j < length items → (get_or items i x).0 ≤ℤ (get_or items j x).0
rising items sorted i j x order below =
    not_below (get_or items j x).0 (get_or items i x).0 (int_cmp (get_or items j x).0 (get_or items i x).0) (int_ranked (get_or items j x).0 (get_or items i x).0 (int_cmp (get_or items j x).0 (get_or items i x).0) refl)
    (sorted_far (λ (a b : ℤ × ℕ). is_lt (int_cmp a.0 b.0)) (ranks_by int_cmp_total (λ (a : ℤ × ℕ). a.0)) items sorted i j x order below)

-- the place of sorted items up to which they have half of the weight is a middle
pub middle_of_sorted : (items : List (ℤ × ℕ)) (place : ℕ) (y : ℤ × ℕ) → IsSortedByKey (λ (x : ℤ × ℕ). x.0) int_cmp items → place < length items
    → 2 * total_weight (take place items) < total_weight items → total_weight items ≤ 2 * total_weight (take (place + 1) items)
    → IsMiddle items place (get_or items place y).0
middle_of_sorted items place y sorted below before half = record {
  upto = λ k x l. let within : k < place + 1 = omega (arith, l, length-take (place + 1) items) in
      rw (get_or-take (place + 1) items k x within, get_or_default items place y x below) (rising items sorted k place x (omega (arith, within)) below);
  from = λ k x l. let within : place + k < length items = omega (arith, l, length-drop place items) in
      rw (get_or-drop place items k x, get_or_default items place y x below) (rising items sorted place (place + k) x (omega arith) within);
  before = before;
  half = half;
}
