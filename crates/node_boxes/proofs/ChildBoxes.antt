-- The children of a box: 2 to 8, in the box, each smaller, and each node of the box in exactly one.
use Rattle.std.proofs.Common.{◌≡◌, ◌⊎◌, inl, inr, ℕ, ◌+◌, ◌-◌, ◌*◌, ◌/◌, ◌<◌, ◌≤◌, arith, [], ◌∷◌, length, refl, sym, ◌∙◌, Bool, true, false, cond, nat_le, sum_by}
use Rattle.std.specs.List.{AllByRecursion}
use Rattle.std.proofs.lemmas.Nat.{mul-le}
use Rattle.std.proofs.lemmas.Bool.{leb-false}
use Rattle.std.proofs.lemmas.Bool.Decides.{nat_tests}
use Rattle.node_boxes.specs.declared.node_box.NodeBox.{NodeBox}
use Rattle.node_boxes.specs.Boxes.{IsNonempty, IsPartOf, IsSplittable, contains, is_single, node_count_of}
use Rattle.node_boxes.specs.BoxLists.{boxes_of}
use Rattle.node_boxes.specs.Children.{children_of, halves}
use Rattle.node_boxes.specs.Roots.{holders}
use Rattle.node_boxes.proofs.Lists.{all-weaker, sum_by-same, each_less}
use Rattle.node_boxes.proofs.BoxPlaces.{length-boxes_of}
use Rattle.node_boxes.proofs.RootBoxes.{all_boxes}
use Rattle.node_boxes.proofs.Partition.{sum_boxes, sum_halves, places, places-adds, at, at-adds, contains-at, weigh}

-- a nonempty range that lies in another
pub record IsInRange (low high : ℕ) (range : ℕ × ℕ) : Type 0 where
  pub from : low ≤ range.0
  pub some : range.0 < range.1
  pub to : range.1 ≤ high

choice_within : (low middle high : ℕ) (b : Bool) → low < high
    → (b ≡ false → (low < middle) × (middle < high))
    → AllByRecursion (IsInRange low high) (cond b ((low, high) ∷ []) ((low, middle) ∷ (middle, high) ∷ []))
choice_within low middle high true some between =
    (record { from = omega arith; some = some; to = omega arith }, tt)
choice_within low middle high false some between =
    let two = between refl in (
      record { from = omega arith; some = two.0; to = omega (arith, two.1) },
      (record { from = omega (arith, two.0); some = two.1; to = omega arith }, tt),
    )

halves_within : (low high : ℕ) → low < high → AllByRecursion (IsInRange low high) (halves low high)
halves_within low high some =
    choice_within low (low + (high - low + 1) / 2) high (nat_le (high - low) 1) some
    (λ long. let more : 1 < high - low = leb-false (high - low) 1 long in (omega arith, omega arith))

choice_length : (low middle high : ℕ) (b : Bool)
    → length {A = ℕ × ℕ} (cond b ((low, high) ∷ []) ((low, middle) ∷ (middle, high) ∷ [])) ≡ cond b 1 2
choice_length low middle high true = refl
choice_length low middle high false = refl

-- a range of one node stays whole, and another has two halves
record IsHalfCount (low high n : ℕ) : Type 0 where
  from : 1 ≤ n
  to : n ≤ 2
  two : 1 < high - low → n ≡ 2

half_counts : (low high : ℕ) → IsHalfCount low high (length (halves low high))
half_counts low high =
    let is = choice_length low (low + (high - low + 1) / 2) high (nat_le (high - low) 1) in
    rw is (record {
      from = grind (arith, nat_tests);
      to = grind (arith, nat_tests);
      two = λ long. grind (arith, nat_tests);
    })

pub children_parts : (a : NodeBox) → IsNonempty a → AllByRecursion (IsPartOf a) (children_of a)
unfolding children_of
children_parts a some =
    all_boxes (IsInRange a.x0 a.x1) (IsInRange a.y0 a.y1) (IsInRange a.z0 a.z1) (IsPartOf a)
    (λ x y z in_x in_y in_z. record {
      nonempty = record { x = in_x.some; y = in_y.some; z = in_z.some };
      x_from = in_x.from;
      x_to = in_x.to;
      y_from = in_y.from;
      y_to = in_y.to;
      z_from = in_z.from;
      z_to = in_z.to;
    })
    (halves a.x0 a.x1) (halves a.y0 a.y1) (halves a.z0 a.z1)
    (halves_within a.x0 a.x1 some.x) (halves_within a.y0 a.y1 some.y) (halves_within a.z0 a.z1 some.z)

pub children_once : (a : NodeBox) (ix iy iz : ℕ) → IsNonempty a
    → holders ix iy iz (children_of a) ≡ cond (contains a ix iy iz) 1 0
unfolding children_of
children_once a ix iy iz some =
    let x = sum_halves (at ix) (at-adds ix) a.x0 a.x1 (omega (arith, some.x)) in
    let y = sum_halves (at iy) (at-adds iy) a.y0 a.y1 (omega (arith, some.y)) in
    let z = sum_halves (at iz) (at-adds iz) a.z0 a.z1 (omega (arith, some.z)) in
    sum_by-same (λ c. cond (contains c ix iy iz) 1 0) (weigh (at ix) (at iy) (at iz))
    (contains-at ix iy iz) (boxes_of (halves a.x0 a.x1) (halves a.y0 a.y1) (halves a.z0 a.z1))
    ∙ sum_boxes (at ix) (at iy) (at iz) (halves a.x0 a.x1) (halves a.y0 a.y1) (halves a.z0 a.z1)
    ∙ rw (x, y, z) (sym (contains-at ix iy iz a))

pub children_nodes : (a : NodeBox) → IsNonempty a → sum_by node_count_of (children_of a) ≡ node_count_of a
unfolding children_of
children_nodes a some =
    let x = sum_halves places places-adds a.x0 a.x1 (omega (arith, some.x)) in
    let y = sum_halves places places-adds a.y0 a.y1 (omega (arith, some.y)) in
    let z = sum_halves places places-adds a.z0 a.z1 (omega (arith, some.z)) in
    sum_boxes places places places (halves a.x0 a.x1) (halves a.y0 a.y1) (halves a.z0 a.z1)
    ∙ rw (x, y, z) refl

product_within : (x y z : ℕ) → 1 ≤ x → x ≤ 2 → 1 ≤ y → y ≤ 2 → 1 ≤ z → z ≤ 2
    → (x ≡ 2) ⊎ ((y ≡ 2) ⊎ (z ≡ 2)) → (2 ≤ x * (y * z)) × (x * (y * z) ≤ 8)
product_within x y z x_from x_to y_from y_to z_from z_to two =
    let above = mul-le x (y * z) 2 4 x_to (mul-le y z 2 2 y_to z_to) in
    let below : 2 ≤ x * (y * z) = elim two [
      | inl is ↦ mul-le 2 1 x (y * z) (omega arith) (mul-le 1 1 y z y_from z_from)
      | inr rest ↦ elim rest [
        | inl is ↦ mul-le 1 2 x (y * z) x_from (mul-le 2 1 y z (omega arith) z_from)
        | inr is ↦ mul-le 1 2 x (y * z) x_from (mul-le 1 2 y z y_from (omega arith))
      ]
    ] in
    (omega arith, omega arith)

long_axis : (a : NodeBox) → IsSplittable a
    → (1 < a.x1 - a.x0) ⊎ ((1 < a.y1 - a.y0) ⊎ (1 < a.z1 - a.z0))
long_axis a split =
    let x : a.x0 < a.x1 = split.nonempty.x in
    let y : a.y0 < a.y1 = split.nonempty.y in
    let z : a.z0 < a.z1 = split.nonempty.z in
    let several : is_single a ≡ false = split.several in
    grind (arith, nat_tests)

pub children_count : (a : NodeBox) → IsSplittable a
    → (2 ≤ length (children_of a)) × (length (children_of a) ≤ 8)
unfolding children_of
children_count a split =
    let xs = halves a.x0 a.x1 in
    let ys = halves a.y0 a.y1 in
    let zs = halves a.z0 a.z1 in
    let x = half_counts a.x0 a.x1 in
    let y = half_counts a.y0 a.y1 in
    let z = half_counts a.z0 a.z1 in
    let two : (length xs ≡ 2) ⊎ ((length ys ≡ 2) ⊎ (length zs ≡ 2)) =
    elim (long_axis a split) [
      | inl long ↦ inl (x.two long)
      | inr rest ↦ elim rest [ inl long ↦ inr (inl (y.two long)) | inr long ↦ inr (inr (z.two long)) ]
    ] in
    rw (length-boxes_of xs ys zs)
    (product_within (length xs) (length ys) (length zs) x.from x.to y.from y.to z.from z.to two)

pub node_count-some : (a : NodeBox) → IsNonempty a → 1 ≤ node_count_of a
node_count-some a some =
    mul-le 1 1 (a.x1 - a.x0) ((a.y1 - a.y0) * (a.z1 - a.z0)) (omega (arith, some.x))
    (mul-le 1 1 (a.y1 - a.y0) (a.z1 - a.z0) (omega (arith, some.y)) (omega (arith, some.z)))

pub children_smaller : (a : NodeBox) → IsSplittable a
    → AllByRecursion (λ c. node_count_of c < node_count_of a) (children_of a)
children_smaller a split =
    let two = children_count a split in
    each_less node_count_of (children_of a) 0 (node_count_of a)
    (omega (arith, children_nodes a split.nonempty)) (omega (arith, two.0))
    (all-weaker (IsPartOf a) (λ c. 1 ≤ node_count_of c) (λ c part. node_count-some c part.nonempty)
    (children_of a) (children_parts a split.nonempty))
