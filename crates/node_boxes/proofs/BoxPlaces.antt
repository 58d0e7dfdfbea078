-- The boxes of ranges on the three axes: how many there are, and which stands at a place.
use Rattle.std.proofs.Common.{◌≡◌, ℕ, ◌+◌, ◌*◌, ◌/◌, ◌%◌, ◌<◌, arith, List, [], ◌∷◌, ◌++◌, length, map, refl, ap, sym, ◌∙◌, Some, None, slice_get, append_assoc}
use Rattle.std.specs.List.{flat_map, range_with_len}
use Rattle.std.specs.Option.{option_and_then, option_map}
use Rattle.std.proofs.lemmas.Option.{slice_get-map}
use Rattle.std.proofs.lemmas.List.{length-map, map-append, flat_map_more}
use Rattle.std.proofs.lemmas.List.FromFn.{map-range_with_len_more}
use Rattle.node_boxes.specs.declared.node_box.NodeBox.{NodeBox}
use Rattle.node_boxes.specs.BoxLists.{box_of, boxes_of}
use Rattle.node_boxes.proofs.Lists.{slice_get-even, length-even}

length-row : (ys zs : List (ℕ × ℕ)) (x : ℕ × ℕ)
    → length (flat_map (λ y. map (box_of x y) zs) ys) ≡ length ys * length zs
length-row ys zs x =
    length-even (λ y. map (box_of x y) zs) (length zs) (λ y. length-map zs (box_of x y)) ys

pub length-boxes_of : (xs ys zs : List (ℕ × ℕ))
    → length (boxes_of xs ys zs) ≡ length xs * (length ys * length zs)
length-boxes_of xs ys zs =
    length-even (λ x. flat_map (λ y. map (box_of x y) zs) ys) (length ys * length zs)
    (length-row ys zs) xs

positive : (a b : ℕ) → 0 < a → 0 < b → 0 < a * b
positive a b some more = grind arith

pub boxes_of-at : (xs ys zs : List (ℕ × ℕ)) (ny nz p : ℕ) → ny ≡ length ys → nz ≡ length zs
    → 0 < ny → 0 < nz
    → slice_get (boxes_of xs ys zs) p
    ≡ option_and_then
    (λ x. option_and_then (λ y. option_map (box_of x y) (slice_get zs (p % (ny * nz) % nz)))
    (slice_get ys (p % (ny * nz) / nz)))
    (slice_get xs (p / (ny * nz)))
boxes_of-at xs ys zs ny nz p is_y is_z some_y some_z =
    let wide : (x : ℕ × ℕ) → length (flat_map (λ y. map (box_of x y) zs) ys) ≡ ny * nz =
    λ x. length-row ys zs x ∙ ap (λ n. n * length zs) (sym is_y) ∙ ap (λ n. ny * n) (sym is_z) in
    let deep : (x y : ℕ × ℕ) → length (map (box_of x y) zs) ≡ nz =
    λ x y. length-map zs (box_of x y) ∙ sym is_z in
    slice_get-even (λ x. flat_map (λ y. map (box_of x y) zs) ys) (ny * nz)
    (positive ny nz some_y some_z) wide xs p
    ∙ ap (λ (f : ℕ × ℕ → _). option_and_then f (slice_get xs (p / (ny * nz))))
    (λ i x. (slice_get-even (λ y. map (box_of x y) zs) nz some_z (deep x) ys (p % (ny * nz))
    ∙ ap (λ (f : ℕ × ℕ → _). option_and_then f (slice_get ys (p % (ny * nz) / nz)))
    (λ j y. slice_get-map (box_of x y) zs (p % (ny * nz) % nz) j)) i)

pub at_some : (xs ys zs : List (ℕ × ℕ)) (ny nz p : ℕ) (x y z : ℕ × ℕ) → ny ≡ length ys
    → nz ≡ length zs → 0 < ny → 0 < nz → Some x ≡ slice_get xs (p / (ny * nz))
    → Some y ≡ slice_get ys (p % (ny * nz) / nz) → Some z ≡ slice_get zs (p % (ny * nz) % nz)
    → Some (box_of x y z) ≡ slice_get (boxes_of xs ys zs) p
at_some xs ys zs ny nz p x y z is_y is_z some_y some_z at_x at_y at_z =
    sym (boxes_of-at xs ys zs ny nz p is_y is_z some_y some_z
    ∙ rw (← at_x, ← at_y, ← at_z) refl)

pub at_none : (xs ys zs : List (ℕ × ℕ)) (ny nz p : ℕ) → ny ≡ length ys
    → nz ≡ length zs → 0 < ny → 0 < nz → None ≡ slice_get xs (p / (ny * nz))
    → None ≡ slice_get (boxes_of xs ys zs) p
at_none xs ys zs ny nz p is_y is_z some_y some_z at_x =
    sym (boxes_of-at xs ys zs ny nz p is_y is_z some_y some_z ∙ rw (← at_x) refl)

-- one more box of a row
pub row_more : (f : ℕ × ℕ → NodeBox) (g : ℕ → ℕ × ℕ) (k : ℕ) (front now : List NodeBox)
    → now ≡ front ++ map f (map g (range_with_len 0 k))
    → now ++ f (g k) ∷ [] ≡ front ++ map f (map g (range_with_len 0 (k + 1)))
row_more f g k front now is =
    rw (map-range_with_len_more g 0 k k (omega arith), map-append, ← append_assoc, is) refl

-- one more part of a list that is joined of parts
pub part_more : (f : ℕ × ℕ → List NodeBox) (g : ℕ → ℕ × ℕ) (k : ℕ) (front now : List NodeBox)
    → now ≡ front ++ flat_map f (map g (range_with_len 0 k))
    → now ++ f (g k) ≡ front ++ flat_map f (map g (range_with_len 0 (k + 1)))
part_more f g k front now is =
    rw (map-range_with_len_more g 0 k k (omega arith), is)
    (flat_map_more f front (map g (range_with_len 0 k)) (g k))
