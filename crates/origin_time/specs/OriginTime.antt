-- The time that lies nearest to all items, by their weights.
use Rattle.std.specs.Prelude.{ℕ, ◌*◌, ◌≤◌, ◌<◌, ◌==◌, ◌&&◌, ◌||◌, nat_lt, int_lt, Bool, if◌then◌else◌, ℤ, pos, ◌-ℤ◌, ◌<ℤ◌, unsigned_abs, List, [], ◌∷◌}
use Rattle.std.specs.List.{sum_by}

-- the distance of an item from a time, as often as its weight says
abbrev pub distance_from : ℤ → ℤ × ℕ → ℕ
distance_from time item = item.1 * unsigned_abs (item.0 -ℤ time)

-- the sum of the distances of all items from a time
abbrev pub total_distance : List (ℤ × ℕ) → ℤ → ℕ
total_distance items time = sum_by (distance_from time) items

-- no whole number has a smaller sum of distances, and every smaller number has a greater one
pub record IsOriginTime (items : List (ℤ × ℕ)) (origin : ℤ) : Type 0 where
  pub nearest : (time : ℤ) → total_distance items origin ≤ total_distance items time
  pub least : (time : ℤ) → time <ℤ origin → total_distance items origin < total_distance items time

-- a time has a smaller sum of distances than another, or the same sum and is the smaller one
abbrev pub comes_before : List (ℤ × ℕ) → ℤ → ℤ → Bool
comes_before items a b =
    nat_lt (total_distance items a) (total_distance items b)
    || ((total_distance items a == total_distance items b) && int_lt a b)

-- of two times the one that comes before the other
abbrev pub nearer_of : List (ℤ × ℕ) → ℤ → ℤ → ℤ
nearer_of items a b = if comes_before items b a then b else a

-- of a time and those of some items the one that comes before all others
abbrev pub nearest_of : List (ℤ × ℕ) → ℤ → List (ℤ × ℕ) → ℤ
nearest_of items time [] = time
nearest_of items time (item ∷ more) = nearest_of items (nearer_of items time item.0) more

-- the least of those times of the items that have the least sum of distances, or 0 where there are no items
unfoldable pub origin_of : List (ℤ × ℕ) → ℤ
origin_of [] = pos 0
origin_of (item ∷ items) = nearest_of (item ∷ items) item.0 items
