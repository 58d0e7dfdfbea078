-- Tests over lists: what is found, whether any passes, and what that says of one element.
use Rattle.std.proofs.Common.{◌≡◌, inl, inr, ℕ, zero, suc, ◌+◌, ◌<◌, ◌≤◌, ◌==◌, arith, refl, ap, sym, ◌∙◌, Bool, true, false, cond, List, [], ◌∷◌, length, get_or, All, AllPairs, Contains, Option, None, Some, drop}
use Rattle.std.specs.List.{enumerate_from, find, list_any}
use Rattle.std.specs.Option.{option_or}
use Rattle.std.proofs.lemmas.Bool.{cases_Bool, eq-eqb, eqb-true, false_from_ne_true}
use Rattle.std.proofs.lemmas.List.{at_drop_more}
use Rattle.std.proofs.lemmas.List.Elements.{All-head, All-tail}
use Rattle.std.proofs.lemmas.List.Folds.{list_any_at, list_any_none}
use Rattle.node_boxes.specs.declared.node_box.NodeBox.{NodeBox}
use Rattle.node_boxes.specs.declared.node_box.BoxBound.{BoxBound}
use Rattle.node_boxes.specs.Boxes.{holds}
use Rattle.node_boxes.specs.BoxNodes.{box_nodes}
use Rattle.node_boxes.specs.Grid.{GridSize, node_count}
use Rattle.node_boxes.proofs.Lists.{first_or_rest}
use Rattle.node_boxes.proofs.Nodes.{box_nodes-contains, box_nodes-holds}
use Rattle.cover_checker.specs.Covers.{first_of}

-- what stands for a box past the end of a list
abbrev pub no_box : BoxBound
no_box = record { area = record { x0 = 0; x1 = 0; y0 = 0; y1 = 0; z0 = 0; z1 = 0 }; bound = 0 }

-- tests that agree find the same
pub find-same : {X : Type 0} (p q : X → Bool) (xs : List X) → All (λ x. p x ≡ q x) xs → find p xs ≡ find q xs
find-same p q [] same = refl
find-same p q (x ∷ xs) same =
    ap (λ b. cond b (Some x) (find p xs)) (All-head (λ y. p y ≡ q y) x xs same)
    ∙ ap (cond (q x) (Some x)) (find-same p q xs (All-tail (λ y. p y ≡ q y) x xs same))

-- where nothing is found no element passes
pub find-none : {X : Type 0} (p : X → Bool) (xs : List X) (x : X) → find p xs ≡ None → Contains xs x → p x ≡ false
find-none p [] x none (k, below, is) = absurd (omega arith)
find-none p (y ∷ ys) x none at = elim (cases_Bool (p y)) [
  | inl hit ↦ absurd (let bad : Some y ≡ None = rw hit at none in cc)
  | inr miss ↦
      let rest : find p ys ≡ None = rw miss at none in
      elim (first_or_rest y ys x at) [
        | inl is ↦ ap p (sym is) ∙ miss
        | inr after ↦ find-none p ys x rest after
      ]
]

-- an element that passes is enough for any
pub any-contains : {X : Type 0} (p : X → Bool) (xs : List X) (x : X) → Contains xs x → p x ≡ true → list_any p xs ≡ true
any-contains p xs x (k, below, is) passes = list_any_at p xs k x below (ap p is ∙ passes)

-- a node is among those of a box where the box holds it
pub box_nodes-any : (g : GridSize) (a : NodeBox) (k : ℕ) → k < node_count g → list_any (λ node. node == k) (box_nodes g a) ≡ holds g a k
box_nodes-any g a k below = elim (cases_Bool (holds g a k)) [
  | inl held ↦ any-contains (λ node. node == k) (box_nodes g a) k (box_nodes-contains g a k below held) (eq-eqb k k refl) ∙ sym held
  | inr free ↦
      list_any_none (λ node. node == k) (box_nodes g a)
      (λ i d within. false_from_ne_true (get_or (box_nodes g a) i d == k)
      (λ same.
      let is : get_or (box_nodes g a) i d ≡ k = eqb-true (get_or (box_nodes g a) i d) k same in
      let bad : true ≡ false = sym (box_nodes-holds g a i d within) ∙ ap (holds g a) is ∙ free in cc))
      ∙ sym free
]

-- numbers that rise
pub pairs-head : (x : ℕ) (xs : List ℕ) → AllPairs ◌<◌ (x ∷ xs) → All (λ y. x < y) xs
pairs-head x xs order k d below = order 0 (suc k) d (omega arith) (omega arith)

pub pairs-tail : (x : ℕ) (xs : List ℕ) → AllPairs ◌<◌ (x ∷ xs) → AllPairs ◌<◌ xs
pairs-tail x xs order i j d before below = order (suc i) (suc j) d (omega arith) (omega arith)

-- the first answer for what is left of a list
pub first_of-more : {A B : Type 0} (f : ℕ × A → Option B) (xs : List A) (i : ℕ) (d : A) → i < length xs
    → first_of f (enumerate_from i (drop i xs)) ≡ option_or (f (i, get_or xs i d)) (first_of f (enumerate_from (i + 1) (drop (i + 1) xs)))
first_of-more f xs i d below = at_drop_more (λ ys. first_of f (enumerate_from i ys)) xs i d below

pub nonzero : (n : ℕ) → 1 ≤ n → (n == 0) ≡ false
nonzero zero some = absurd (omega arith)
nonzero (suc n) some = false_from_ne_true (suc n == 0) (λ same. absurd (let is : suc n ≡ 0 = eqb-true (suc n) 0 same in omega arith))
