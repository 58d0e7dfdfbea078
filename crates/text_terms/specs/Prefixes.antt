-- The items of a list, each with those before it.
use Rattle.std.specs.Prelude.{ℕ, List, length, take, drop, map}
use Rattle.std.specs.List.{flat_map, range_with_len}

-- the item at a place with those before it, or nothing where the list has no such place
abbrev pub with_those_before_at : {A : Type 0} → List A → ℕ → List (List A × A)
with_those_before_at {A} items k = map (λ (item : A). (take k items, item)) (take 1 (drop k items))

-- each item with those before it, in order
abbrev pub with_those_before : {A : Type 0} → List A → List (List A × A)
with_those_before items = flat_map (with_those_before_at items) (range_with_len 0 (length items))
