-- The nodes of a box are the runs of its places, and a walk goes through them in order.
use Rattle.std.proofs.Common.{◌≡◌, ◌⊎◌, inl, inr, ℕ, zero, suc, ◌+◌, ◌-◌, ◌*◌, ◌<◌, ◌≤◌, arith, List, [], ◌∷◌, ◌++◌, refl, ap, sym, ◌∙◌, Bool, true, false, cond, filter, append-nil, add-zero}
use Rattle.std.specs.List.{flat_map, range_with_len}
use Rattle.std.proofs.lemmas.Bool.Decides.{nat_tests}
use Rattle.std.proofs.lemmas.List.Concat.{flat_map-append}
use Rattle.node_boxes.specs.declared.node_box.NodeBox.{NodeBox}
use Rattle.node_boxes.specs.Grid.{GridSize, node_count}
use Rattle.node_boxes.specs.GridOrder.{IsInside, all_nodes, node_number}
use Rattle.node_boxes.specs.Boxes.{IsIn, contains, holds}
use Rattle.node_boxes.specs.BoxNodes.{box_nodes}
use Rattle.node_boxes.specs.Inside.BoxWalks.{run_of, runs_from, layers_from, nodes_left}
use Rattle.node_boxes.proofs.Order.{place_of-number}

-- the item alone where the test holds, else nothing
abbrev pub point : {X : Type 0} → Bool → X → List X
point test x = cond test (x ∷ []) []

point_step : {X : Type 0} (test : Bool) (x : X) (xs : List X) → cond test (x ∷ xs) xs ≡ point test x ++ xs
point_step true x xs = refl
point_step false x xs = refl

filter-points : {X : Type 0} (p : X → Bool) (xs : List X) → filter p xs ≡ flat_map (λ x. point (p x) x) xs
filter-points p [] = refl
filter-points p (x ∷ xs) =
    point_step (p x) x (filter p xs) ∙ ap (λ ys. point (p x) x ++ ys) (filter-points p xs)

range-append : (a m n : ℕ) → range_with_len a (m + n) ≡ range_with_len a m ++ range_with_len (a + m) n
range-append a zero n =
    ap (range_with_len a) (omega arith) ∙ ap (λ k. range_with_len k n) (sym (add-zero a))
range-append a (suc m) n =
    let more : suc m + n ≡ suc (m + n) = omega arith in
    let along : (a + 1) + m ≡ a + suc m = omega arith in
    ap (range_with_len a) more
    ∙ ap (λ xs. a ∷ xs) (range-append (a + 1) m n ∙ ap (λ k. range_with_len (a + 1) m ++ range_with_len k n) along)

-- the lists at each number of a range, where two functions agree on it
pub flat-same : (F G : ℕ → List ℕ) (a n : ℕ) → ((k : ℕ) → a ≤ k → k < a + n → F k ≡ G k)
    → flat_map F (range_with_len a n) ≡ flat_map G (range_with_len a n)
flat-same F G a zero same = refl
flat-same F G a (suc n) same =
    ap (λ xs. xs ++ flat_map F (range_with_len (a + 1) n)) (same a (omega arith) (omega arith))
    ∙ ap (λ xs. G a ++ xs) (flat-same F G (a + 1) n (λ k from to. same k (omega arith) (omega arith)))

flat-none : (F : ℕ → List ℕ) (a n : ℕ) → ((k : ℕ) → a ≤ k → k < a + n → F k ≡ [])
    → flat_map F (range_with_len a n) ≡ []
flat-none F a zero none = refl
flat-none F a (suc n) none =
    ap (λ xs. xs ++ flat_map F (range_with_len (a + 1) n)) (none a (omega arith) (omega arith))
    ∙ flat-none F (a + 1) n (λ k from to. none k (omega arith) (omega arith))

-- only the numbers of a part give something
pub flat-part : (F G : ℕ → List ℕ) (n from to : ℕ) → from ≤ to → to ≤ n
    → ((k : ℕ) → k < from → F k ≡ []) → ((k : ℕ) → to ≤ k → k < n → F k ≡ [])
    → ((k : ℕ) → from ≤ k → k < to → F k ≡ G k)
    → flat_map F (range_with_len 0 n) ≡ flat_map G (range_with_len from (to - from))
flat-part F G n from to order within before after same =
    let front : 0 + from ≡ from = omega arith in
    let mid : from + (to - from) ≡ to = omega arith in
    let whole : from + ((to - from) + (n - to)) ≡ n = omega arith in
    let a = range_with_len 0 from in
    let b = range_with_len from (to - from) in
    let d = range_with_len to (n - to) in
    let split : range_with_len 0 n ≡ a ++ (b ++ d) =
    ap (range_with_len 0) (sym whole) ∙ range-append 0 from ((to - from) + (n - to))
    ∙ ap (λ k. a ++ range_with_len k ((to - from) + (n - to))) front
    ∙ ap (λ xs. a ++ xs) (range-append from (to - from) (n - to))
    ∙ ap (λ k. a ++ (b ++ range_with_len k (n - to))) mid in
    ap (flat_map F) split
    ∙ flat_map-append F a (b ++ d)
    ∙ ap (λ xs. xs ++ flat_map F (b ++ d)) (flat-none F 0 from (λ k above below. before k (omega arith)))
    ∙ flat_map-append F b d
    ∙ ap (λ xs. flat_map F b ++ xs) (flat-none F to (n - to) (λ k above below. after k above (omega arith)))
    ∙ append-nil (flat_map F b)
    ∙ flat-same F G from (to - from) (λ k above below. same k above (omega arith))

-- a range of n rows of w, row by row
flat-rows : (F : ℕ → List ℕ) (w a n : ℕ)
    → flat_map F (range_with_len (a * w) (n * w)) ≡ flat_map (λ i. flat_map F (range_with_len (i * w) w)) (range_with_len a n)
flat-rows F w a zero =
    let none : zero * w ≡ 0 = omega arith in
    ap (λ k. flat_map F (range_with_len (a * w) k)) none
flat-rows F w a (suc n) =
    let more : suc n * w ≡ w + n * w = grind arith in
    let along : a * w + w ≡ (a + 1) * w = grind arith in
    let row = range_with_len (a * w) w in
    ap (λ k. flat_map F (range_with_len (a * w) k)) more
    ∙ ap (flat_map F) (range-append (a * w) w (n * w))
    ∙ ap (λ k. flat_map F (row ++ range_with_len k (n * w))) along
    ∙ flat_map-append F row (range_with_len ((a + 1) * w) (n * w))
    ∙ ap (λ xs. flat_map F row ++ xs) (flat-rows F w (a + 1) n)

flat-shift : (F : ℕ → List ℕ) (s a n : ℕ)
    → flat_map F (range_with_len (s + a) n) ≡ flat_map (λ j. F (s + j)) (range_with_len a n)
flat-shift F s a zero = refl
flat-shift F s a (suc n) =
    let along : s + a + 1 ≡ s + (a + 1) = omega arith in
    ap (λ xs. F (s + a) ++ xs)
    (ap (λ k. flat_map F (range_with_len k n)) along ∙ flat-shift F s (a + 1) n)

-- a row of w from its start
flat-row : (F : ℕ → List ℕ) (w i : ℕ)
    → flat_map F (range_with_len (i * w) w) ≡ flat_map (λ j. F (i * w + j)) (range_with_len 0 w)
flat-row F w i =
    ap (λ k. flat_map F (range_with_len k w)) (sym (add-zero (i * w))) ∙ flat-shift F (i * w) 0 w

flat-rows-all : (F : ℕ → List ℕ) (w n : ℕ)
    → flat_map F (range_with_len 0 (n * w))
    ≡ flat_map (λ i. flat_map (λ j. F (i * w + j)) (range_with_len 0 w)) (range_with_len 0 n)
flat-rows-all F w n =
    let start : 0 ≡ 0 * w = omega arith in
    ap (λ k. flat_map F (range_with_len k (n * w))) start
    ∙ flat-rows F w 0 n
    ∙ flat-same (λ i. flat_map F (range_with_len (i * w) w))
    (λ i. flat_map (λ j. F (i * w + j)) (range_with_len 0 w)) 0 n (λ i from to. flat-row F w i)

-- the nodes of a grid, by their places
by_places : (F : ℕ → List ℕ) (g : GridSize)
    → flat_map F (all_nodes (node_count g))
    ≡ flat_map (λ ix. flat_map (λ iy. flat_map (λ iz. F (node_number g ix iy iz)) (range_with_len 0 g.z))
    (range_with_len 0 g.y)) (range_with_len 0 g.x)
by_places F g =
    flat-rows-all F g.z (g.x * g.y)
    ∙ flat-rows-all (λ i. flat_map (λ j. F (i * g.z + j)) (range_with_len 0 g.z)) g.y g.x

node_point : (g : GridSize) (a : NodeBox) → ℕ → List ℕ
node_point g a node = point (holds g a node) node

shifted_run : (base a n : ℕ) → flat_map (λ k. (base + k) ∷ []) (range_with_len a n) ≡ range_with_len (base + a) n
shifted_run base a zero = refl
shifted_run base a (suc n) =
    let along : base + (a + 1) ≡ base + a + 1 = omega arith in
    ap (λ xs. (base + a) ∷ xs) (shifted_run base (a + 1) n ∙ ap (λ k. range_with_len k n) along)

point_place : (g : GridSize) (a : NodeBox) (ix iy iz : ℕ) (test : Bool) → IsInside g ix iy iz
    → contains a ix iy iz ≡ test
    → node_point g a (node_number g ix iy iz) ≡ point test (node_number g ix iy iz)
unfolding node_point
point_place g a ix iy iz test inside is =
    let node = node_number g ix iy iz in
    ap (λ (p : ℕ × ℕ × ℕ). point (contains a p.0 p.1 p.2) node) (place_of-number g ix iy iz inside)
    ∙ ap (λ b. point b node) is

contains_true : (a : NodeBox) (ix iy iz : ℕ) → a.x0 ≤ ix → ix < a.x1 → a.y0 ≤ iy → iy < a.y1
    → a.z0 ≤ iz → iz < a.z1 → contains a ix iy iz ≡ true
contains_true a ix iy iz x_from x_to y_from y_to z_from z_to = grind (arith, nat_tests)

contains_false : (a : NodeBox) (ix iy iz : ℕ)
    → ((ix < a.x0) ⊎ (a.x1 ≤ ix)) ⊎ (((iy < a.y0) ⊎ (a.y1 ≤ iy)) ⊎ ((iz < a.z0) ⊎ (a.z1 ≤ iz)))
    → contains a ix iy iz ≡ false
contains_false a ix iy iz out = grind (arith, nat_tests)

-- the nodes of a box among those with these places on x and y
row_nodes : (g : GridSize) (a : NodeBox) (ix iy : ℕ) → List ℕ
row_nodes g a ix iy = flat_map (λ iz. node_point g a (node_number g ix iy iz)) (range_with_len 0 g.z)

row_none : (g : GridSize) (a : NodeBox) (ix iy : ℕ) → ix < g.x → iy < g.y
    → ((ix < a.x0) ⊎ (a.x1 ≤ ix)) ⊎ ((iy < a.y0) ⊎ (a.y1 ≤ iy)) → row_nodes g a ix iy ≡ []
unfolding row_nodes
row_none g a ix iy in_x in_y out =
    flat-none (λ iz. node_point g a (node_number g ix iy iz)) 0 g.z
    (λ iz from to.
    point_place g a ix iy iz false (record { x = in_x; y = in_y; z = omega arith })
    (contains_false a ix iy iz (elim out [ inl x ↦ inl x | inr y ↦ inr (inl y) ])))

row_run : (g : GridSize) (a : NodeBox) (ix iy : ℕ) → IsIn g a → a.x0 ≤ ix → ix < a.x1 → a.y0 ≤ iy → iy < a.y1
    → row_nodes g a ix iy ≡ run_of g a ix iy
unfolding row_nodes
row_run g a ix iy inside x_from x_to y_from y_to =
    let in_x : ix < g.x = omega (arith, inside.x_end) in
    let in_y : iy < g.y = omega (arith, inside.y_end) in
    let z_end : a.z1 ≤ g.z = inside.z_end in
    let some : a.z0 < a.z1 = inside.z in
    flat-part (λ iz. node_point g a (node_number g ix iy iz)) (λ iz. node_number g ix iy iz ∷ [])
    g.z a.z0 a.z1 (omega arith) z_end
    (λ iz below. point_place g a ix iy iz false (record { x = in_x; y = in_y; z = omega arith })
    (contains_false a ix iy iz (inr (inr (inl below)))))
    (λ iz above below. point_place g a ix iy iz false (record { x = in_x; y = in_y; z = below })
    (contains_false a ix iy iz (inr (inr (inr above)))))
    (λ iz from to. point_place g a ix iy iz true (record { x = in_x; y = in_y; z = omega arith })
    (contains_true a ix iy iz x_from x_to y_from y_to from to))
    ∙ shifted_run ((ix * g.y + iy) * g.z) a.z0 (a.z1 - a.z0)

-- the nodes of a box among those with this place on x
layer_nodes : (g : GridSize) (a : NodeBox) (ix : ℕ) → List ℕ
layer_nodes g a ix = flat_map (row_nodes g a ix) (range_with_len 0 g.y)

layer_none : (g : GridSize) (a : NodeBox) (ix : ℕ) → ix < g.x → (ix < a.x0) ⊎ (a.x1 ≤ ix)
    → layer_nodes g a ix ≡ []
unfolding layer_nodes
layer_none g a ix in_x out =
    flat-none (row_nodes g a ix) 0 g.y (λ iy from to. row_none g a ix iy in_x (omega arith) (inl out))

layer_runs : (g : GridSize) (a : NodeBox) (ix : ℕ) → IsIn g a → a.x0 ≤ ix → ix < a.x1
    → layer_nodes g a ix ≡ runs_from g a ix a.y0
unfolding layer_nodes
layer_runs g a ix inside from to =
    let in_x : ix < g.x = omega (arith, inside.x_end) in
    let y_end : a.y1 ≤ g.y = inside.y_end in
    let some : a.y0 < a.y1 = inside.y in
    flat-part (row_nodes g a ix) (run_of g a ix) g.y a.y0 a.y1 (omega arith) y_end
    (λ iy below. row_none g a ix iy in_x (omega arith) (inr (inl below)))
    (λ iy above below. row_none g a ix iy in_x below (inr (inr above)))
    (λ iy y_from y_to. row_run g a ix iy inside from to y_from y_to)

all_layers : (g : GridSize) (a : NodeBox) → IsIn g a
    → flat_map (layer_nodes g a) (range_with_len 0 g.x) ≡ layers_from g a a.x0
all_layers g a inside =
    let x_end : a.x1 ≤ g.x = inside.x_end in
    let some : a.x0 < a.x1 = inside.x in
    flat-part (layer_nodes g a) (λ ix. runs_from g a ix a.y0) g.x a.x0 a.x1 (omega arith) x_end
    (λ ix below. layer_none g a ix (omega arith) (inl below))
    (λ ix above below. layer_none g a ix below (inr above))
    (λ ix from to. layer_runs g a ix inside from to)

-- the nodes that a box holds are the runs of its layers
pub box_nodes-layers : (g : GridSize) (a : NodeBox) → IsIn g a → box_nodes g a ≡ layers_from g a a.x0
unfolding box_nodes node_point row_nodes layer_nodes
box_nodes-layers g a inside =
    filter-points (holds g a) (all_nodes (node_count g))
    ∙ by_places (node_point g a) g
    ∙ all_layers g a inside

one_more : (a b : ℕ) → a < b → b - a ≡ suc (b - (a + 1))
one_more a b order = omega arith

runs_first : (g : GridSize) (a : NodeBox) (ix iy : ℕ) → iy < a.y1
    → runs_from g a ix iy ≡ run_of g a ix iy ++ runs_from g a ix (iy + 1)
runs_first g a ix iy order = ap (λ n. flat_map (run_of g a ix) (range_with_len iy n)) (one_more iy a.y1 order)

layers_first : (g : GridSize) (a : NodeBox) (ix : ℕ) → ix < a.x1
    → layers_from g a ix ≡ runs_from g a ix a.y0 ++ layers_from g a (ix + 1)
layers_first g a ix order =
    ap (λ n. flat_map (λ i. runs_from g a i a.y0) (range_with_len ix n)) (one_more ix a.x1 order)

run_first : (g : GridSize) (a : NodeBox) (ix iy : ℕ) → a.z0 < a.z1
    → run_of g a ix iy ≡ node_number g ix iy a.z0
    ∷ range_with_len (node_number g ix iy a.z0 + 1)
    (node_number g ix iy a.z0 + (a.z1 - a.z0) - (node_number g ix iy a.z0 + 1))
run_first g a ix iy some =
    let node = node_number g ix iy a.z0 in
    let more : a.z1 - a.z0 ≡ suc (node + (a.z1 - a.z0) - (node + 1)) = omega arith in
    ap (range_with_len node) more

pub walk_start : (g : GridSize) (a : NodeBox) (node : ℕ) → IsIn g a → node ≡ node_number g a.x0 a.y0 a.z0
    → nodes_left g a a.x0 a.y0 node (node + (a.z1 - a.z0)) ≡ box_nodes g a
unfolding nodes_left
walk_start g a node inside is =
    let long : node + (a.z1 - a.z0) - node ≡ a.z1 - a.z0 = omega arith in
    ap (λ n. (range_with_len node n ++ runs_from g a a.x0 (a.y0 + 1)) ++ layers_from g a (a.x0 + 1)) long
    ∙ ap (λ n. (range_with_len n (a.z1 - a.z0) ++ runs_from g a a.x0 (a.y0 + 1)) ++ layers_from g a (a.x0 + 1)) is
    ∙ ap (λ xs. xs ++ layers_from g a (a.x0 + 1)) (sym (runs_first g a a.x0 a.y0 inside.y))
    ∙ sym (layers_first g a a.x0 inside.x)
    ∙ sym (box_nodes-layers g a inside)

pub walk_node : (g : GridSize) (a : NodeBox) (ix iy node end : ℕ) → node < end
    → nodes_left g a ix iy node end ≡ node ∷ nodes_left g a ix iy (node + 1) end
unfolding nodes_left
walk_node g a ix iy node end below =
    ap (λ n. (range_with_len node n ++ runs_from g a ix (iy + 1)) ++ layers_from g a (ix + 1)) (one_more node end below)

-- at the end of a run
run_over : (g : GridSize) (a : NodeBox) (ix iy node end : ℕ) → end ≤ node
    → nodes_left g a ix iy node end ≡ runs_from g a ix (iy + 1) ++ layers_from g a (ix + 1)
unfolding nodes_left
run_over g a ix iy node end over =
    let none : end - node ≡ 0 = omega arith in
    ap (λ n. (range_with_len node n ++ runs_from g a ix (iy + 1)) ++ layers_from g a (ix + 1)) none

next_run : (g : GridSize) (a : NodeBox) (ix iy : ℕ) → iy < a.y1 → a.z0 < a.z1
    → let node = node_number g ix iy a.z0 in
    runs_from g a ix iy ++ layers_from g a (ix + 1)
    ≡ node ∷ nodes_left g a ix iy (node + 1) (node + (a.z1 - a.z0))
unfolding nodes_left
next_run g a ix iy order some =
    ap (λ xs. xs ++ layers_from g a (ix + 1))
    (runs_first g a ix iy order ∙ ap (λ xs. xs ++ runs_from g a ix (iy + 1)) (run_first g a ix iy some))

pub walk_row : (g : GridSize) (a : NodeBox) (ix iy node end next : ℕ) → end ≤ node → iy + 1 < a.y1
    → a.z0 < a.z1 → next ≡ node_number g ix (iy + 1) a.z0
    → nodes_left g a ix iy node end ≡ next ∷ nodes_left g a ix (iy + 1) (next + 1) (next + (a.z1 - a.z0))
walk_row g a ix iy node end next over order some is =
    run_over g a ix iy node end over ∙ next_run g a ix (iy + 1) order some
    ∙ ap (λ n. n ∷ nodes_left g a ix (iy + 1) (n + 1) (n + (a.z1 - a.z0))) (sym is)

-- at the end of a layer
layer_over : (g : GridSize) (a : NodeBox) (ix iy node end : ℕ) → end ≤ node → a.y1 ≤ iy + 1
    → nodes_left g a ix iy node end ≡ layers_from g a (ix + 1)
layer_over g a ix iy node end over last =
    let none : a.y1 - (iy + 1) ≡ 0 = omega arith in
    run_over g a ix iy node end over
    ∙ ap (λ n. flat_map (run_of g a ix) (range_with_len (iy + 1) n) ++ layers_from g a (ix + 1)) none

pub walk_layer : (g : GridSize) (a : NodeBox) (ix iy node end next : ℕ) → end ≤ node → a.y1 ≤ iy + 1
    → ix + 1 < a.x1 → a.y0 < a.y1 → a.z0 < a.z1 → next ≡ node_number g (ix + 1) a.y0 a.z0
    → nodes_left g a ix iy node end ≡ next ∷ nodes_left g a (ix + 1) a.y0 (next + 1) (next + (a.z1 - a.z0))
walk_layer g a ix iy node end next over last order wide some is =
    layer_over g a ix iy node end over last ∙ layers_first g a (ix + 1) order
    ∙ next_run g a (ix + 1) a.y0 wide some
    ∙ ap (λ n. n ∷ nodes_left g a (ix + 1) a.y0 (n + 1) (n + (a.z1 - a.z0))) (sym is)

pub walk_end : (g : GridSize) (a : NodeBox) (ix iy node end : ℕ) → end ≤ node → a.y1 ≤ iy + 1
    → a.x1 ≤ ix + 1 → nodes_left g a ix iy node end ≡ []
walk_end g a ix iy node end over last done =
    let none : a.x1 - (ix + 1) ≡ 0 = omega arith in
    layer_over g a ix iy node end over last
    ∙ ap (λ n. flat_map (λ i. runs_from g a i a.y0) (range_with_len (ix + 1) n)) none
