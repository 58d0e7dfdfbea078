-- What is joined of the children of a box is joined of the box.
use Rattle.std.proofs.Common.{◌≡◌, ℕ, ◌≤◌, min, max, arith, List, [], ◌∷◌, ◌++◌, map, refl, ap, sym, ◌∙◌, Bool, true, false, cond, ◌||◌, filter, sum_by}
use Rattle.std.specs.List.{list_any}
use Rattle.std.proofs.lemmas.List.Sums.{sum_by-cons}
use Rattle.node_boxes.specs.declared.node_box.NodeBox.{NodeBox}
use Rattle.node_boxes.specs.Grid.{GridSize, node_count}
use Rattle.node_boxes.specs.GridOrder.{all_nodes, place_of}
use Rattle.node_boxes.specs.Boxes.{IsNonempty, holds}
use Rattle.node_boxes.specs.Children.{children_of}
use Rattle.node_boxes.specs.Roots.{holders}
use Rattle.node_boxes.specs.BoxNodes.{box_nodes}
use Rattle.node_boxes.proofs.ChildBoxes.{children_once}
use Rattle.minmax_pyramid.specs.Inside.Joins.{joined, lowest, highest, lowest_of, highest_of}

-- a number can be put in once or twice, in any order
pub record Joins (op : ℕ → ℕ → ℕ) (end : ℕ) : Type 0 where
  pub none : op end end ≡ end
  pub both : (t a r : ℕ) → op (op t a) (op t r) ≡ op t (op a r)
  pub first : (t a r : ℕ) → op (op t a) r ≡ op t (op a r)
  pub second : (t a r : ℕ) → op a (op t r) ≡ op t (op a r)
  pub last : (t : ℕ) → op t end ≡ op end t

pub min-joins : Joins min 4294967295
min-joins = record {
  none = refl;
  both = λ t a r. omega arith;
  first = λ t a r. omega arith;
  second = λ t a r. omega arith;
  last = λ t. omega arith;
}

pub max-joins : Joins max 0
max-joins = record {
  none = refl;
  both = λ t a r. omega arith;
  first = λ t a r. omega arith;
  second = λ t a r. omega arith;
  last = λ t. omega arith;
}

-- `t` joined where the test holds
put : (ℕ → ℕ → ℕ) → Bool → ℕ → ℕ → ℕ
put op test t n = cond test (op t n) n

put_step : (op : ℕ → ℕ → ℕ) (end : ℕ) → Joins op end → (p q : Bool) (t a r : ℕ)
    → op (put op p t a) (put op q t r) ≡ put op (p || q) t (op a r)
unfolding put
put_step op end is true true t a r = is.both t a r
put_step op end is true false t a r = is.first t a r
put_step op end is false true t a r = is.second t a r
put_step op end is false false t a r = refl

joined_put : (op : ℕ → ℕ → ℕ) (end : ℕ) → Joins op end → (q : NodeBox → Bool) (value : NodeBox → ℕ) (t : ℕ)
    → (boxes : List NodeBox)
    → joined op end (map (λ c. put op (q c) t (value c)) boxes)
    ≡ put op (list_any q boxes) t (joined op end (map value boxes))
unfolding put
joined_put op end is q value t [] = refl
joined_put op end is q value t (c ∷ cs) =
    ap (λ n. op (put op (q c) t (value c)) n) (joined_put op end is q value t cs)
    ∙ put_step op end is (q c) (list_any q cs) t (value c) (joined op end (map value cs))

joined_cond : (op : ℕ → ℕ → ℕ) (end : ℕ) (time : ℕ → ℕ) (test : Bool) (x : ℕ) (xs : List ℕ)
    → joined op end (map time (cond test (x ∷ xs) xs)) ≡ put op test (time x) (joined op end (map time xs))
unfolding put
joined_cond op end time true x xs = refl
joined_cond op end time false x xs = refl

joined_none : (op : ℕ → ℕ → ℕ) (end : ℕ) → Joins op end → (boxes : List NodeBox)
    → end ≡ joined op end (map (λ c. end) boxes)
joined_none op end is [] = refl
joined_none op end is (c ∷ cs) = sym is.none ∙ ap (op end) (joined_none op end is cs)

joined_same : (op : ℕ → ℕ → ℕ) (end : ℕ) (f g : NodeBox → ℕ) → ((c : NodeBox) → f c ≡ g c) → (boxes : List NodeBox)
    → joined op end (map f boxes) ≡ joined op end (map g boxes)
joined_same op end f g same [] = refl
joined_same op end f g same (c ∷ cs) =
    ap (λ n. op n (joined op end (map f cs))) (same c) ∙ ap (op (g c)) (joined_same op end f g same cs)

-- what passes `p` passes for one of the boxes or several
joined_parts : (op : ℕ → ℕ → ℕ) (end : ℕ) → Joins op end → (time : ℕ → ℕ) (p : ℕ → Bool) (q : NodeBox → ℕ → Bool)
    → (boxes : List NodeBox) → ((x : ℕ) → list_any (λ c. q c x) boxes ≡ p x) → (xs : List ℕ)
    → joined op end (map time (filter p xs)) ≡ joined op end (map (λ c. joined op end (map time (filter (q c) xs))) boxes)
joined_parts op end is time p q boxes any [] = joined_none op end is boxes
joined_parts op end is time p q boxes any (x ∷ xs) =
    joined_cond op end time (p x) x (filter p xs)
    ∙ ap (λ b. put op b (time x) (joined op end (map time (filter p xs)))) (sym (any x))
    ∙ ap (put op (list_any (λ c. q c x) boxes) (time x)) (joined_parts op end is time p q boxes any xs)
    ∙ sym (joined_put op end is (λ c. q c x) (λ c. joined op end (map time (filter (q c) xs))) (time x) boxes)
    ∙ joined_same op end (λ c. put op (q c x) (time x) (joined op end (map time (filter (q c) xs))))
    (λ c. joined op end (map time (cond (q c x) (x ∷ filter (q c) xs) (filter (q c) xs))))
    (λ c. sym (joined_cond op end time (q c x) x (filter (q c) xs))) boxes

bit : Bool → ℕ
bit b = cond b 1 0

bit_same : (p q : Bool) (n : ℕ) → n ≡ bit p → (q ≡ true → 1 ≤ n) → (q ≡ false → n ≡ 0) → q ≡ p
unfolding bit
bit_same true true n is some none = refl
bit_same false false n is some none = refl
bit_same true false n is some none = absurd (omega (arith, none refl))
bit_same false true n is some none = absurd (omega (arith, some refl))

counted_step : (q : NodeBox → Bool) (c : NodeBox) (cs : List NodeBox) (here : Bool) → q c ≡ here
    → (list_any q cs ≡ true → 1 ≤ sum_by (λ c. cond (q c) 1 0) cs)
    × (list_any q cs ≡ false → sum_by (λ c. cond (q c) 1 0) cs ≡ 0)
    → ((here || list_any q cs) ≡ true → 1 ≤ sum_by (λ c. cond (q c) 1 0) (c ∷ cs))
    × ((here || list_any q cs) ≡ false → sum_by (λ c. cond (q c) 1 0) (c ∷ cs) ≡ 0)
counted_step q c cs true is rest =
    let one : cond {A = ℕ} (q c) 1 0 ≡ 1 = rw is refl in
    (λ yes. omega (arith, sum_by-cons (λ c. cond (q c) 1 0) c cs), λ no. absurd (cc))
counted_step q c cs false is rest =
    let none : cond {A = ℕ} (q c) 1 0 ≡ 0 = rw is refl in (
      λ yes. omega (arith, sum_by-cons (λ c. cond (q c) 1 0) c cs, rest.0 yes),
      λ no. omega (arith, sum_by-cons (λ c. cond (q c) 1 0) c cs, rest.1 no),
    )

any_counted : (q : NodeBox → Bool) (boxes : List NodeBox)
    → (list_any q boxes ≡ true → 1 ≤ sum_by (λ c. cond (q c) 1 0) boxes)
    × (list_any q boxes ≡ false → sum_by (λ c. cond (q c) 1 0) boxes ≡ 0)
any_counted q [] = (λ no. absurd (cc), λ yes. refl)
any_counted q (c ∷ cs) = counted_step q c cs (q c) refl (any_counted q cs)

-- a box holds what one of its children holds
pub any_child : (g : GridSize) (a : NodeBox) (node : ℕ) → IsNonempty a
    → list_any (λ c. holds g c node) (children_of a) ≡ holds g a node
unfolding bit
any_child g a node some =
    let place = place_of g node in
    let counts = any_counted (λ c. holds g c node) (children_of a) in
    bit_same (holds g a node) (list_any (λ c. holds g c node) (children_of a))
    (holders place.0 place.1 place.2 (children_of a))
    (children_once a place.0 place.1 place.2 some) counts.0 counts.1

pub lowest-children : (g : GridSize) (time : ℕ → ℕ) (a : NodeBox) → IsNonempty a
    → lowest_of g time a ≡ lowest (map (lowest_of g time) (children_of a))
unfolding lowest_of box_nodes
lowest-children g time a some =
    joined_parts min 4294967295 min-joins time (holds g a) (holds g) (children_of a)
    (λ node. any_child g a node some) (all_nodes (node_count g))

pub highest-children : (g : GridSize) (time : ℕ → ℕ) (a : NodeBox) → IsNonempty a
    → highest_of g time a ≡ highest (map (highest_of g time) (children_of a))
unfolding highest_of box_nodes
highest-children g time a some =
    joined_parts max 0 max-joins time (holds g a) (holds g) (children_of a)
    (λ node. any_child g a node some) (all_nodes (node_count g))

-- one more number
pub joined_push : (op : ℕ → ℕ → ℕ) (end : ℕ) → Joins op end → (ns : List ℕ) (n : ℕ)
    → joined op end (ns ++ n ∷ []) ≡ op (joined op end ns) n
joined_push op end is [] n = is.last n
joined_push op end is (m ∷ ns) n =
    ap (op m) (joined_push op end is ns n) ∙ sym (is.first m (joined op end ns) n)
