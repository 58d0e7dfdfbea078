-- The nodes of a box: in order, below the nodes of the grid, those that the box holds, as many as its places.
use Rattle.std.proofs.Common.{◌≡◌, inl, inr, ℕ, zero, suc, ◌-◌, ◌*◌, ◌<◌, arith, List, [], ◌∷◌, length, ap, ◌∙◌, Bool, true, false, cond, filter, All, AllPairs, Contains, get_or}
use Rattle.std.specs.List.{range_with_len}
use Rattle.std.proofs.lemmas.List.Elements.{All-filter, filter_passes, All-from_get_or}
use Rattle.std.proofs.lemmas.List.FromFn.{length-range_with_len, get_or-range_with_len}
use Rattle.std.proofs.lemmas.List.Kept.{AllPairs-filter}
use Rattle.node_boxes.specs.declared.node_box.NodeBox.{NodeBox}
use Rattle.node_boxes.specs.Grid.{GridSize, node_count}
use Rattle.node_boxes.specs.GridOrder.{all_nodes}
use Rattle.node_boxes.specs.Boxes.{IsIn, holds, node_count_of}
use Rattle.node_boxes.specs.BoxNodes.{box_nodes}
use Rattle.node_boxes.specs.Inside.BoxWalks.{run_of, runs_from}
use Rattle.node_boxes.proofs.Lists.{length-even, first_or_rest}
use Rattle.node_boxes.proofs.Walks.{box_nodes-layers}

nodes-below : (n : ℕ) → All (λ node. node < n) (all_nodes n)
nodes-below n = All-from_get_or (λ node. node < n) (all_nodes n) 0
    (λ i below.
    let within : i < n = omega (arith, length-range_with_len 0 n) in
    omega (arith, get_or-range_with_len 0 n i 0 within))

nodes-order : (n : ℕ) → AllPairs ◌<◌ (all_nodes n)
nodes-order n i j d order below =
    let within : j < n = omega (arith, length-range_with_len 0 n) in
    let before : i < n = omega arith in
    omega (arith, get_or-range_with_len 0 n i d before, get_or-range_with_len 0 n j d within)

pub box_nodes-below : (g : GridSize) (a : NodeBox) → All (λ node. node < node_count g) (box_nodes g a)
unfolding box_nodes
box_nodes-below g a =
    All-filter (holds g a) (λ node. node < node_count g) (all_nodes (node_count g)) (nodes-below (node_count g))

pub box_nodes-order : (g : GridSize) (a : NodeBox) → AllPairs ◌<◌ (box_nodes g a)
unfolding box_nodes
box_nodes-order g a = AllPairs-filter ◌<◌ (holds g a) (all_nodes (node_count g)) (nodes-order (node_count g))

pub box_nodes-holds : (g : GridSize) (a : NodeBox) → All (λ node. holds g a node ≡ true) (box_nodes g a)
unfolding box_nodes
box_nodes-holds g a = filter_passes (holds g a) (all_nodes (node_count g))

later : (test : Bool) (y x : ℕ) (xs : List ℕ) → Contains xs x → Contains (cond test (y ∷ xs) xs) x
later true y x xs (k, below, is) = (suc k, omega arith, is)
later false y x xs at = at

kept : (p : ℕ → Bool) (x : ℕ) (xs : List ℕ) → Contains xs x → p x ≡ true → Contains (filter p xs) x
kept p x [] (k, below, is) passes = absurd (omega arith)
kept p x (y ∷ xs) at passes = elim (first_or_rest y xs x at) [
  | inl is ↦
      let here : p y ≡ true = ap p is ∙ passes in
      rw here (zero, omega arith, is)
  | inr after ↦ later (p y) y x (filter p xs) (kept p x xs after passes)
]

pub box_nodes-contains : (g : GridSize) (a : NodeBox) (node : ℕ) → node < node_count g
    → holds g a node ≡ true → Contains (box_nodes g a) node
unfolding box_nodes
box_nodes-contains g a node below passes =
    let long : node < length (all_nodes (node_count g)) = omega (arith, length-range_with_len 0 (node_count g)) in
    let at : get_or (all_nodes (node_count g)) node node ≡ node =
    get_or-range_with_len 0 (node_count g) node node below ∙ omega arith in
    kept (holds g a) node (all_nodes (node_count g)) (node, long, at) passes

pub box_nodes-length : (g : GridSize) (a : NodeBox) → IsIn g a → length (box_nodes g a) ≡ node_count_of a
box_nodes-length g a inside =
    let row : (ix iy : ℕ) → length (run_of g a ix iy) ≡ a.z1 - a.z0 =
    λ ix iy. length-range_with_len _ (a.z1 - a.z0) in
    let layer : (ix : ℕ) → length (runs_from g a ix a.y0) ≡ (a.y1 - a.y0) * (a.z1 - a.z0) =
    λ ix. length-even (run_of g a ix) (a.z1 - a.z0) (row ix) (range_with_len a.y0 (a.y1 - a.y0))
    ∙ ap (λ n. n * (a.z1 - a.z0)) (length-range_with_len a.y0 (a.y1 - a.y0)) in
    ap length (box_nodes-layers g a inside)
    ∙ length-even (λ i. runs_from g a i a.y0) ((a.y1 - a.y0) * (a.z1 - a.z0)) layer (range_with_len a.x0 (a.x1 - a.x0))
    ∙ ap (λ n. n * ((a.y1 - a.y0) * (a.z1 - a.z0))) (length-range_with_len a.x0 (a.x1 - a.x0))
