-- The roots of a grid lie in it and hold each node once.
use Rattle.std.proofs.Common.{◌≡◌, ℕ, ◌+◌, ◌*◌, ◌/◌, ◌<◌, ◌≤◌, arith, List, length, map, refl, ◌∙◌, cond, sum_by}
use Rattle.std.specs.List.{flat_map, range_with_len, AllByRecursion}
use Rattle.std.proofs.Math.Nat.{mul-div_cancel_left, div-mul-le_self}
use Rattle.std.proofs.lemmas.Nat.{le-div, mul-le}
use Rattle.std.proofs.lemmas.List.{length-map}
use Rattle.std.proofs.lemmas.List.FromFn.{length-range_with_len}
use Rattle.std.proofs.lemmas.Bool.Decides.{nat_tests}
use Rattle.node_boxes.specs.declared.node_box.NodeBox.{NodeBox}
use Rattle.node_boxes.specs.Grid.{GridSize, IsGrid, node_count}
use Rattle.node_boxes.specs.GridOrder.{IsInside}
use Rattle.node_boxes.specs.Boxes.{IsIn, contains, node_count_of}
use Rattle.node_boxes.specs.BoxLists.{box_of, boxes_of}
use Rattle.node_boxes.specs.Roots.{AreRoots, count_within, holders, part, parts, roots_of}
use Rattle.node_boxes.proofs.Lists.{all-map, all-flat_map, all-range, sum_by-same}
use Rattle.node_boxes.proofs.BoxPlaces.{length-boxes_of}
use Rattle.node_boxes.proofs.Partition.{sum_boxes, sum_parts, places, places-adds, at, at-adds, contains-at, div_up, weigh}

-- the loops over the parts of all axes have made the roots
pub roots_whole : (g : GridSize) (nx ny nz gx gy gz lx ly lz kx ky kz i : ℕ)
    → gx ≡ g.x → gy ≡ g.y → gz ≡ g.z → lx ≡ gx → ly ≡ gy → lz ≡ gz
    → kx ≡ count_within nx gx → ky ≡ count_within ny gy → kz ≡ count_within nz gz → i ≡ kx
    → (items : List NodeBox)
    → items ≡ flat_map (λ x. flat_map (λ y. map (box_of x y) (parts lz kz)) (parts ly ky))
    (map (part lx kx) (range_with_len 0 i))
    → items ≡ roots_of g nx ny nz
unfolding roots_of
roots_whole g nx ny nz gx gy gz lx ly lz kx ky kz i x y z nx' ny' nz' cx cy cz end items is =
    is ∙ rw (end, cx, cy, cz, nx', ny', nz', x, y, z) refl

-- a nonempty range that ends within an axis
pub record IsWithin (nodes : ℕ) (range : ℕ × ℕ) : Type 0 where
  pub some : range.0 < range.1
  pub end : range.1 ≤ nodes

part_within : (nodes n k : ℕ) → 1 ≤ n → n ≤ nodes → k < n → IsWithin nodes (part nodes n k)
part_within nodes n k some few below =
    let step : (k * nodes / n + 1) * n ≡ k * nodes / n * n + n = grind arith in
    let wide : (k + 1) * nodes ≡ k * nodes + nodes = grind arith in
    let last : (k + 1) * nodes ≤ n * nodes = mul-le (k + 1) nodes n nodes (omega arith) (omega arith) in
    let whole : n * nodes / n ≡ nodes = mul-div_cancel_left nodes (omega arith) in
    record {
      some = omega (
        arith,
        le-div (k * nodes / n + 1) ((k + 1) * nodes) n (omega arith)
            (omega (arith, div-mul-le_self (k * nodes) n)),
      );
      end = omega (arith, div_up ((k + 1) * nodes) (n * nodes) n some last, whole);
    }

parts_within : (nodes n : ℕ) → 1 ≤ n → n ≤ nodes → AllByRecursion (IsWithin nodes) (parts nodes n)
parts_within nodes n some few =
    all-map (λ k. k < n) (IsWithin nodes) (part nodes n) (λ k below. part_within nodes n k some few below)
    (range_with_len 0 n) (all-range (λ k. k < n) 0 n (λ k from to. omega arith))

pub all_boxes : (P Q R : ℕ × ℕ → Type 0) (W : NodeBox → Type 0)
    → ((x y z : ℕ × ℕ) → P x → Q y → R z → W (box_of x y z)) → (xs ys zs : List (ℕ × ℕ))
    → AllByRecursion P xs → AllByRecursion Q ys → AllByRecursion R zs → AllByRecursion W (boxes_of xs ys zs)
all_boxes P Q R W each xs ys zs all_x all_y all_z =
    all-flat_map P W (λ x. flat_map (λ y. map (box_of x y) zs) ys)
    (λ x is_x. all-flat_map Q W (λ y. map (box_of x y) zs)
    (λ y is_y. all-map R W (box_of x y) (λ z is_z. each x y z is_x is_y is_z) zs all_z)
    ys all_y)
    xs all_x

roots_inside : (g : GridSize) (kx ky kz : ℕ) → 1 ≤ kx → kx ≤ g.x → 1 ≤ ky → ky ≤ g.y → 1 ≤ kz → kz ≤ g.z
    → AllByRecursion (IsIn g) (boxes_of (parts g.x kx) (parts g.y ky) (parts g.z kz))
roots_inside g kx ky kz some_x few_x some_y few_y some_z few_z =
    all_boxes (IsWithin g.x) (IsWithin g.y) (IsWithin g.z) (IsIn g)
    (λ x y z in_x in_y in_z. record {
      x = in_x.some;
      x_end = in_x.end;
      y = in_y.some;
      y_end = in_y.end;
      z = in_z.some;
      z_end = in_z.end;
    })
    (parts g.x kx) (parts g.y ky) (parts g.z kz)
    (parts_within g.x kx some_x few_x) (parts_within g.y ky some_y few_y) (parts_within g.z kz some_z few_z)

at_inside : (i nodes : ℕ) → i < nodes → at i (0, nodes) ≡ 1
at_inside i nodes below = grind (arith, nat_tests)

roots_once : (g : GridSize) (kx ky kz ix iy iz : ℕ) → 1 ≤ kx → 1 ≤ ky → 1 ≤ kz → IsInside g ix iy iz
    → holders ix iy iz (boxes_of (parts g.x kx) (parts g.y ky) (parts g.z kz)) ≡ 1
roots_once g kx ky kz ix iy iz some_x some_y some_z inside =
    let boxes = boxes_of (parts g.x kx) (parts g.y ky) (parts g.z kz) in
    let x = sum_parts (at ix) (at-adds ix) g.x kx some_x ∙ at_inside ix g.x inside.x in
    let y = sum_parts (at iy) (at-adds iy) g.y ky some_y ∙ at_inside iy g.y inside.y in
    let z = sum_parts (at iz) (at-adds iz) g.z kz some_z ∙ at_inside iz g.z inside.z in
    sum_by-same (λ a. cond (contains a ix iy iz) 1 0) (weigh (at ix) (at iy) (at iz))
    (contains-at ix iy iz) boxes
    ∙ sum_boxes (at ix) (at iy) (at iz) (parts g.x kx) (parts g.y ky) (parts g.z kz)
    ∙ rw (x, y, z) refl

roots_nodes : (g : GridSize) (kx ky kz : ℕ) → 1 ≤ kx → 1 ≤ ky → 1 ≤ kz
    → sum_by node_count_of (boxes_of (parts g.x kx) (parts g.y ky) (parts g.z kz)) ≡ node_count g
roots_nodes g kx ky kz some_x some_y some_z =
    let x : sum_by places (parts g.x kx) ≡ g.x = sum_parts places places-adds g.x kx some_x ∙ omega arith in
    let y : sum_by places (parts g.y ky) ≡ g.y = sum_parts places places-adds g.y ky some_y ∙ omega arith in
    let z : sum_by places (parts g.z kz) ≡ g.z = sum_parts places places-adds g.z kz some_z ∙ omega arith in
    sum_boxes places places places (parts g.x kx) (parts g.y ky) (parts g.z kz)
    ∙ rw (x, y, z) (grind arith)

within : (n nodes : ℕ) → 1 ≤ nodes → (1 ≤ count_within n nodes) × (count_within n nodes ≤ nodes)
within n nodes some = (omega arith, omega arith)

pub roots_of-are : (g : GridSize) (nx ny nz : ℕ) → IsGrid g → AreRoots g (roots_of g nx ny nz)
unfolding roots_of
roots_of-are g nx ny nz grid =
    let x = within nx g.x grid.x_from in
    let y = within ny g.y grid.y_from in
    let z = within nz g.z grid.z_from in
    record {
      inside = roots_inside g (count_within nx g.x) (count_within ny g.y) (count_within nz g.z)
          x.0 x.1 y.0 y.1 z.0 z.1;
      once = λ ix iy iz. roots_once g (count_within nx g.x) (count_within ny g.y) (count_within nz g.z)
          ix iy iz x.0 y.0 z.0;
      nodes = roots_nodes g (count_within nx g.x) (count_within ny g.y) (count_within nz g.z) x.0 y.0 z.0;
    }

pub are_roots : (g : GridSize) (nx ny nz : ℕ) (roots : List NodeBox) → IsGrid g
    → roots ≡ roots_of g nx ny nz → AreRoots g roots
are_roots g nx ny nz roots grid is = rw is (roots_of-are g nx ny nz grid)

pub length-roots_of : (g : GridSize) (nx ny nz : ℕ)
    → length (roots_of g nx ny nz)
    ≡ count_within nx g.x * (count_within ny g.y * count_within nz g.z)
unfolding roots_of
length-roots_of g nx ny nz =
    let length-parts : (nodes n : ℕ) → length (parts nodes n) ≡ n =
    λ nodes n. length-map (range_with_len 0 n) (part nodes n) ∙ length-range_with_len 0 n in
    length-boxes_of (parts g.x (count_within nx g.x)) (parts g.y (count_within ny g.y)) (parts g.z (count_within nz g.z))
    ∙ rw (length-parts g.x (count_within nx g.x), length-parts g.y (count_within ny g.y), length-parts g.z (count_within nz g.z)) refl
