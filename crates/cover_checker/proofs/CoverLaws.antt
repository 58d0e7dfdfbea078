-- Boxes of which exactly one holds each node: how often nodes are held, and which box holds one.
use Rattle.std.proofs.Common.{◌≡◌, inl, inr, ℕ, zero, suc, ◌+◌, ◌<◌, ◌≤◌, ◌==◌, arith, refl, ap, sym, subst, ◌∙◌, Bool, true, false, cond, not, List, [], ◌∷◌, ◌++◌, length, get_or, filter, take, sum_by, All, Contains, Option, None, Some}
use Rattle.std.specs.List.{enumerate_from, find, position_from, range_with_len}
use Rattle.std.specs.Option.{option_or}
use Rattle.std.specs.Prelude.{option_map}
use Rattle.std.proofs.lemmas.Bool.{cases_Bool, cond-false, cond-true, false_from_ne_true, not-false, or_parts}
use Rattle.std.proofs.lemmas.List.{take_more, take_all}
use Rattle.std.proofs.lemmas.List.Elements.{All-head, All-tail}
use Rattle.std.proofs.lemmas.List.FromFn.{length-range_with_len, get_or-range_with_len}
use Rattle.std.proofs.lemmas.List.Sums.{sum_by-cons, sum_by-le, sum_by_more_le, sum_by_push}
use Rattle.node_boxes.specs.declared.node_box.NodeBox.{NodeBox}
use Rattle.node_boxes.specs.declared.node_box.BoxBound.{BoxBound}
use Rattle.node_boxes.specs.Boxes.{IsIn, contains, holds}
use Rattle.node_boxes.specs.BoxNodes.{box_nodes}
use Rattle.node_boxes.specs.Grid.{GridSize, node_count}
use Rattle.node_boxes.specs.GridOrder.{all_nodes, place_of}
use Rattle.node_boxes.proofs.Lists.{sum_by-map}
use Rattle.node_boxes.proofs.Nodes.{box_nodes-below, box_nodes-contains, box_nodes-holds}
use Rattle.cover_checker.specs.declared.verdict.Verdict.TheVariants.{Outside, Twice, Uncovered}
use Rattle.cover_checker.specs.Covers.{first_of, is_held, is_in, misplaced, placing_fault, uncovered}
use Rattle.cover_checker.specs.Proving.{holders_of}
use Rattle.cover_checker.specs.Inside.Marking.{IsMarked}
use Rattle.cover_checker.specs.Inside.Walks.{nodes_in}
use Rattle.cover_checker.proofs.PlacingSteps.{free_walk, in_from, in_is, mark_held}
use Rattle.cover_checker.proofs.Searches.{any-contains, find-none, no_box}

-- 1 where the box holds the node, and 0 elsewhere
abbrev pub held_by : GridSize → ℕ → BoxBound → ℕ
held_by g node b = cond (holds g b.area node) 1 0

-- how often boxes hold a node
abbrev pub times_held : GridSize → List BoxBound → ℕ → ℕ
times_held g boxes node = sum_by (held_by g node) boxes

pub holders_times : (g : GridSize) (boxes : List BoxBound) (node : ℕ) → holders_of g boxes node ≡ times_held g boxes node
holders_times g boxes node =
    let place = place_of g node in
    sum_by-map (λ a. cond (contains a place.0 place.1 place.2) 1 0) (λ (b : BoxBound). b.area) boxes

-- boxes hold a node never or at least once
pub times_never : (g : GridSize) (boxes : List BoxBound) (node : ℕ) → is_held g boxes node ≡ false → times_held g boxes node ≡ 0
times_never g [] node free = refl
times_never g (b ∷ boxes) node free =
    let parts = or_parts (holds g b.area node) (is_held g boxes node) free in
    let here : held_by g node b ≡ 0 = cond-false {A = ℕ} (holds g b.area node) 1 0 parts.0 in
    omega (arith, sum_by-cons (held_by g node) b boxes, here, times_never g boxes node parts.1)

pub times_once : (g : GridSize) (boxes : List BoxBound) (node : ℕ) → is_held g boxes node ≡ true → 1 ≤ times_held g boxes node
times_once g [] node held = cc
times_once g (b ∷ boxes) node held = elim (cases_Bool (holds g b.area node)) [
  | inl here ↦ omega (arith, sum_by-cons (held_by g node) b boxes, cond-true {A = ℕ} (holds g b.area node) 1 0 here)
  | inr free ↦
      let rest : is_held g boxes node ≡ true = rw free at held in
      omega (arith, sum_by-cons (held_by g node) b boxes, times_once g boxes node rest)
]

pub never_held : (g : GridSize) (boxes : List BoxBound) (node : ℕ) → times_held g boxes node ≡ 0 → is_held g boxes node ≡ false
never_held g boxes node none = false_from_ne_true (is_held g boxes node) (λ held. absurd (omega (arith, times_once g boxes node held)))

-- a box that holds a node
pub holder : (g : GridSize) (boxes : List BoxBound) (node : ℕ) → 1 ≤ times_held g boxes node
    → (b : BoxBound) × Contains boxes b × (holds g b.area node ≡ true)
holder g [] node some = absurd (let none : times_held g [] node ≡ 0 = refl in omega arith)
holder g (b ∷ boxes) node some = elim (cases_Bool (holds g b.area node)) [
  | inl here ↦ (b, (0, omega arith, refl), here)
  | inr free ↦
      let rest = holder g boxes node (omega (arith, sum_by-cons (held_by g node) b boxes, cond-false {A = ℕ} (holds g b.area node) 1 0 free)) in
      let at = rest.1 in
      (rest.0, (suc at.0, omega (arith, at.1), at.2), rest.2)
]

-- what holds of each element holds of one of the list
pub all-at : {X : Type 0} (P : X → Type 0) (xs : List X) (x : X) → All P xs → Contains xs x → P x
all-at P xs x all (k, below, is) = subst P is (all k x below)

-- an element that fails at each place isn't found
pub find-fails : {X : Type 0} (p : X → Bool) (xs : List X) → All (λ x. p x ≡ false) xs → find p xs ≡ None
find-fails p [] fails = refl
find-fails p (x ∷ xs) fails =
    cond-false (p x) (Some x) (find p xs) (All-head (λ y. p y ≡ false) x xs fails)
    ∙ find-fails p xs (All-tail (λ y. p y ≡ false) x xs fails)

-- where no item has an answer there is no first one, and the other way round
pub first_of-none : {A B : Type 0} (f : A → Option B) (xs : List A) → All (λ x. f x ≡ None) xs → first_of f xs ≡ None
first_of-none f [] none = refl
first_of-none f (x ∷ xs) none =
    ap (λ o. option_or o (first_of f xs)) (All-head (λ y. f y ≡ None) x xs none) ∙ first_of-none f xs (All-tail (λ y. f y ≡ None) x xs none)

pub or-none : {B : Type 0} (o p : Option B) → option_or o p ≡ None → (o ≡ None) × (p ≡ None)
or-none None p none = (refl, none)
or-none (Some x) p none = cc

-- no fault at each place of what is enumerated
pub enumerated-none : {A B : Type 0} (f : ℕ × A → Option B) (xs : List A) (from k : ℕ) (d : A) → first_of f (enumerate_from from xs) ≡ None → k < length xs
    → f (from + k, get_or xs k d) ≡ None
enumerated-none f [] from k d none below = absurd (omega arith)
enumerated-none f (x ∷ xs) from zero d none below =
    let first : from + 0 ≡ from = omega arith in
    ap (λ (n : ℕ). f (n, x)) first ∙ (or-none (f (from, x)) (first_of f (enumerate_from (from + 1) xs)) none).0
enumerated-none f (x ∷ xs) from (suc k) d none below =
    let next : from + suc k ≡ (from + 1) + k = omega arith in
    ap (λ (n : ℕ). f (n, get_or xs k d)) next
    ∙ enumerated-none f xs (from + 1) k d (or-none (f (from, x)) (first_of f (enumerate_from (from + 1) xs)) none).1 (omega arith)

pub none-enumerated : {A B : Type 0} (f : ℕ × A → Option B) (xs : List A) (from : ℕ) → ((k : ℕ) (d : A) → k < length xs → f (from + k, get_or xs k d) ≡ None)
    → first_of f (enumerate_from from xs) ≡ None
none-enumerated f [] from none = refl
none-enumerated f (x ∷ xs) from none =
    let first : from + 0 ≡ from = omega arith in
    let here : f (from, x) ≡ None = ap (λ (n : ℕ). f (n, x)) (sym first) ∙ none 0 x (omega arith) in
    let later : (k : ℕ) (d : _) → k < length xs → f ((from + 1) + k, get_or xs k d) ≡ None =
    λ k d below. let next : from + suc k ≡ (from + 1) + k = omega arith in ap (λ (n : ℕ). f (n, get_or xs k d)) (sym next) ∙ none (suc k) d (omega arith) in
    ap (λ o. option_or o (first_of f (enumerate_from (from + 1) xs))) here ∙ none-enumerated f xs (from + 1) later

-- a box without a fault
record IsWell (g : GridSize) (before : List BoxBound) (a : NodeBox) : Type 0 where
  inside : IsIn g a
  free : find (is_held g before) (box_nodes g a) ≡ None

pub map-none : {A B : Type 0} (f : A → B) (o : Option A) → option_map f o ≡ None → o ≡ None
map-none f None none = refl
map-none f (Some x) none = cc

well_from : (g : GridSize) (boxes : List BoxBound) (place : ℕ) (b : BoxBound) → placing_fault g boxes (place, b) ≡ None → IsWell g (take place boxes) b.area
well_from g boxes place b none = elim (cases_Bool (is_in g b.area)) [
  | inl inside ↦
      let found : option_map Twice (find (is_held g (take place boxes)) (box_nodes g b.area)) ≡ None = rw inside at none in
      record { inside = in_is g b.area inside; free = map-none Twice (find (is_held g (take place boxes)) (box_nodes g b.area)) found }
  | inr out ↦ absurd (let bad : Some (Outside place) ≡ None = rw out at none in cc)
]

module _ (g : GridSize) (boxes : List BoxBound) where
  -- each box of a cover that isn't misplaced
  placed_well : misplaced g boxes ≡ None → (k : ℕ) (d : BoxBound) → k < length boxes → IsWell g (take k boxes) (get_or boxes k d).area
  unfolding misplaced
  placed_well none k d below =
      let fault : placing_fault g boxes (k, get_or boxes k d) ≡ None =
      let first : 0 + k ≡ k = omega arith in
      ap (λ (n : ℕ). placing_fault g boxes (n, get_or boxes k d)) (sym first) ∙ enumerated-none (placing_fault g boxes) boxes 0 k d none below in
      well_from g boxes k (get_or boxes k d) fault

  pub placed_inside : misplaced g boxes ≡ None → All (λ b. IsIn g b.area) boxes
  placed_inside none k d below = (placed_well none k d below).inside

  -- so no node is held twice
  taken_once : misplaced g boxes ≡ None → (node : ℕ) → node < node_count g → (i : ℕ) → i ≤ length boxes → times_held g (take i boxes) node ≤ 1
  taken_once none node in_grid zero within = omega arith
  taken_once none node in_grid (suc i) within =
      let more : take (suc i) boxes ≡ take i boxes ++ get_or boxes i no_box ∷ [] =
      let next : suc i ≡ i + 1 = omega arith in ap (λ (n : ℕ). take n boxes) next ∙ take_more boxes i no_box (omega arith) in
      let before = taken_once none node in_grid i (omega arith) in
      let sum : times_held g (take (suc i) boxes) node ≡ times_held g (take i boxes) node + held_by g node (get_or boxes i no_box) =
      ap (sum_by (held_by g node)) more ∙ sum_by_push (held_by g node) (take i boxes) (get_or boxes i no_box) in
      elim (cases_Bool (holds g (get_or boxes i no_box).area node)) [
        | inl here ↦
            let well = placed_well none i no_box (omega arith) in
            let free = find-none (is_held g (take i boxes)) (box_nodes g (get_or boxes i no_box).area) node well.free
            (box_nodes-contains g (get_or boxes i no_box).area node in_grid here) in
            omega (arith, sum, times_never g (take i boxes) node free, cond-true {A = ℕ} (holds g (get_or boxes i no_box).area node) 1 0 here)
        | inr out ↦ omega (arith, sum, before, cond-false {A = ℕ} (holds g (get_or boxes i no_box).area node) 1 0 out)
      ]

  pub placed_once : misplaced g boxes ≡ None → (node : ℕ) → node < node_count g → times_held g boxes node ≤ 1
  placed_once none node in_grid =
      subst (λ (bs : List BoxBound). times_held g bs node ≤ 1) (take_all (length boxes) boxes (omega arith)) (taken_once none node in_grid (length boxes) (omega arith))

  -- where no node is uncovered each is held
  pub covered_once : uncovered g boxes ≡ None → (node : ℕ) → node < node_count g → 1 ≤ times_held g boxes node
  unfolding uncovered
  covered_once none node in_grid =
      let found = map-none Uncovered (find (λ n. not (is_held g boxes n)) (all_nodes (node_count g))) none in
      let long : node < length (all_nodes (node_count g)) = omega (arith, length-range_with_len 0 (node_count g)) in
      let at : get_or (all_nodes (node_count g)) node node ≡ node = get_or-range_with_len 0 (node_count g) node node in_grid ∙ omega arith in
      let held = find-none (λ n. not (is_held g boxes n)) (all_nodes (node_count g)) node found (node, long, at) in
      times_once g boxes node (not-false (is_held g boxes node) held)

  -- boxes in the grid that hold no node twice aren't misplaced
  pub well_placed : All (λ b. IsIn g b.area) boxes → ((node : ℕ) → node < node_count g → times_held g boxes node ≤ 1) → misplaced g boxes ≡ None
  unfolding misplaced
  well_placed inside once =
      none-enumerated (placing_fault g boxes) boxes 0
      (λ k d below.
      let first : 0 + k ≡ k = omega arith in
      let a = (get_or boxes k d).area in
      let free : find (is_held g (take k boxes)) (box_nodes g a) ≡ None =
      find-fails (is_held g (take k boxes)) (box_nodes g a)
      (λ i e within.
      let node = get_or (box_nodes g a) i e in
      let in_grid : node < node_count g = box_nodes-below g a i e within in
      let here : held_by g node (get_or boxes k d) ≡ 1 = cond-true {A = ℕ} (holds g a node) 1 0 (box_nodes-holds g a i e within) in
      never_held g (take k boxes) node (omega (arith, sum_by_more_le (held_by g node) boxes k d below, once node in_grid, here))) in
      let lies = in_from g a (inside k d below) in
      ap (λ (n : ℕ). placing_fault g boxes (n, get_or boxes k d)) first ∙ rw (lies, free) refl)

  pub well_covered : ((node : ℕ) → node < node_count g → 1 ≤ times_held g boxes node) → uncovered g boxes ≡ None
  unfolding uncovered
  well_covered once =
      ap (option_map Uncovered) (find-fails (λ n. not (is_held g boxes n)) (all_nodes (node_count g))
      (λ i d within.
      let long : i < node_count g = omega (arith, length-range_with_len 0 (node_count g)) in
      let is : get_or (all_nodes (node_count g)) i d ≡ i = get_or-range_with_len 0 (node_count g) i d long ∙ omega arith in
      let b = holder g boxes i (once i long) in
      ap (λ n. not (is_held g boxes n)) is ∙ ap not (any-contains (λ c. holds g c.area i) boxes b.0 b.1 b.2)))

-- how many pass
length-filter : {X : Type 0} (p : X → Bool) (xs : List X) → length (filter p xs) ≡ sum_by (λ x. cond (p x) 1 0) xs
length-filter p [] = refl
length-filter p (x ∷ xs) = elim (cases_Bool (p x)) [
  | inl hit ↦
      let here : length (filter p (x ∷ xs)) ≡ suc (length (filter p xs)) = rw hit refl in
      omega (arith, here, sum_by-cons (λ y. cond (p y) 1 0) x xs, cond-true {A = ℕ} (p x) 1 0 hit, length-filter p xs)
  | inr miss ↦
      let here : length (filter p (x ∷ xs)) ≡ length (filter p xs) = rw miss refl in
      omega (arith, here, sum_by-cons (λ y. cond (p y) 1 0) x xs, cond-false {A = ℕ} (p x) 1 0 miss, length-filter p xs)
]

sum_by-both : {X : Type 0} (f h : X → ℕ) (xs : List X) → sum_by (λ x. f x + h x) xs ≡ sum_by f xs + sum_by h xs
sum_by-both f h [] = refl
sum_by-both f h (x ∷ xs) = omega (arith, sum_by-cons (λ y. f y + h y) x xs, sum_by-cons f x xs, sum_by-cons h x xs, sum_by-both f h xs)

sum_by-agree : {X : Type 0} (f h : X → ℕ) → ((x : X) → f x ≡ h x) → (xs : List X) → sum_by f xs ≡ sum_by h xs
sum_by-agree f h same [] = refl
sum_by-agree f h same (x ∷ xs) = omega (arith, sum_by-cons f x xs, sum_by-cons h x xs, same x, sum_by-agree f h same xs)

sum_by-nothing : {X : Type 0} (xs : List X) → sum_by (λ (x : X). 0) xs ≡ 0
sum_by-nothing [] = refl
sum_by-nothing (x ∷ xs) = omega (arith, sum_by-cons (λ y. 0) x xs, sum_by-nothing xs)

-- the nodes of all boxes are counted once for each box that holds them
nodes_held : (g : GridSize) (boxes : List BoxBound) → nodes_in g boxes ≡ sum_by (times_held g boxes) (all_nodes (node_count g))
unfolding box_nodes
nodes_held g [] = sym (sum_by-nothing (all_nodes (node_count g)))
nodes_held g (b ∷ boxes) =
    let nodes = all_nodes (node_count g) in
    let apart : sum_by (times_held g (b ∷ boxes)) nodes ≡ sum_by (λ node. held_by g node b + times_held g boxes node) nodes =
    sum_by-agree (times_held g (b ∷ boxes)) (λ node. held_by g node b + times_held g boxes node) (λ node. sum_by-cons (held_by g node) b boxes) nodes in
    omega (
      arith,
      sum_by-cons (λ c. length (box_nodes g c.area)) b boxes,
      length-filter (holds g b.area) nodes,
      apart,
      sum_by-both (λ node. held_by g node b) (times_held g boxes) nodes,
      nodes_held g boxes,
    )

-- so they are at most the nodes of the grid
pub nodes_few : (g : GridSize) (boxes : List BoxBound) → misplaced g boxes ≡ None → nodes_in g boxes ≤ node_count g
nodes_few g boxes none =
    let nodes = all_nodes (node_count g) in
    let once : All (λ node. times_held g boxes node ≤ 1) nodes =
    λ i d within.
    let long : i < node_count g = omega (arith, length-range_with_len 0 (node_count g)) in
    let is : get_or nodes i d ≡ i = get_or-range_with_len 0 (node_count g) i d long ∙ omega arith in
    subst (λ (node : ℕ). times_held g boxes node ≤ 1) (sym is) (placed_once g boxes none i long) in
    omega (arith, nodes_held g boxes, sum_by-le (times_held g boxes) 1 nodes once, length-range_with_len 0 (node_count g))

not_not : (t : Bool) → t ≡ not (not t)
not_not true = refl
not_not false = refl

-- the first mark that is 0 is that of the least node that no box holds
pub zero_uncovered : (g : GridSize) (boxes : List BoxBound) (marks : List ℕ) → length marks ≡ node_count g → IsMarked g boxes marks
    → option_map Uncovered (position_from (λ mark. mark == 0) 0 marks) ≡ uncovered g boxes
unfolding uncovered
zero_uncovered g boxes marks long marked =
    let test : (j : ℕ) → j < length marks → (get_or marks j 0 == 0) ≡ not (is_held g boxes (0 + j)) =
    λ j below.
    let first : 0 + j ≡ j = omega arith in
    not_not (get_or marks j 0 == 0) ∙ ap not (ap (λ m. not (m == 0)) (marked j (omega (arith, below, long))) ∙ mark_held 1 g boxes j (omega arith))
    ∙ ap (λ n. not (is_held g boxes n)) (sym first) in
    ap (option_map Uncovered) (free_walk (λ node. not (is_held g boxes node)) 0 marks test
    ∙ ap (λ n. find (λ node. not (is_held g boxes node)) (range_with_len 0 n)) long)
