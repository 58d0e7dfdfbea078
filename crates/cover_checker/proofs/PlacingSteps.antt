-- The steps of the passes that mark nodes.
use Rattle.std.proofs.Common.{◌≡◌, inl, inr, ℕ, suc, ◌+◌, ◌<◌, ◌≤◌, ◌==◌, arith, refl, ap, sym, ◌∙◌, Bool, true, false, cond, not, List, [], ◌∷◌, ◌++◌, length, get_or, set, All, AllPairs, Option, None, Some, subst, take, get_or-set_other}
use Rattle.std.specs.List.{find, list_any, position_from, range_with_len}
use Rattle.std.specs.Option.{option_or}
use Rattle.std.proofs.lemmas.Bool.{cases_Bool, cond-false, cond-true, eq-eqb, eqb-true, false_from_ne_true, or_parts}
use Rattle.std.proofs.lemmas.Bool.Decides.{nat_tests}
use Rattle.std.proofs.lemmas.List.{get_or-set_same}
use Rattle.node_boxes.specs.declared.node_box.NodeBox.{NodeBox}
use Rattle.node_boxes.specs.declared.node_box.BoxBound.{BoxBound}
use Rattle.node_boxes.specs.Boxes.{IsIn, holds}
use Rattle.node_boxes.specs.BoxNodes.{box_nodes}
use Rattle.node_boxes.specs.Grid.{GridSize, node_count}
use Rattle.node_boxes.proofs.Nodes.{box_nodes-below, box_nodes-contains}
use Rattle.cover_checker.specs.declared.verdict.Verdict.{Verdict}
use Rattle.cover_checker.specs.declared.verdict.Verdict.TheVariants.{Outside, Twice}
use Rattle.cover_checker.specs.Covers.{is_held, is_in, placing_fault}
use Rattle.cover_checker.specs.Inside.Marking.{IsMarked, mark_from}
use Rattle.cover_checker.proofs.Searches.{box_nodes-any, find-none, find-same, nonzero, pairs-head}

-- a node is marked
abbrev pub is_marked : List ℕ → ℕ → Bool
is_marked marks node = not (get_or marks node 0 == 0)

-- a node that isn't marked is marked, and the later nodes are as before
marked-later : (marks : List ℕ) (node mark : ℕ) (rest : List ℕ) → All (λ later. node < later) rest
    → All (λ later. is_marked (set marks node mark) later ≡ is_marked marks later) rest
marked-later marks node mark rest later k d below =
    let after : node < get_or rest k d = later k d below in
    ap (λ m. not (m == 0)) (get_or-set_other marks node (get_or rest k d) mark 0 (λ same. absurd (omega arith)))

pub find_step : (marks : List ℕ) (node mark : ℕ) (rest : List ℕ) → get_or marks node 0 ≡ 0 → AllPairs ◌<◌ (node ∷ rest)
    → find (is_marked (set marks node mark)) rest ≡ find (is_marked marks) (node ∷ rest)
find_step marks node mark rest free order =
    let miss : is_marked marks node ≡ false = ap (λ m. not (m == 0)) free in
    find-same (is_marked (set marks node mark)) (is_marked marks) rest (marked-later marks node mark rest (pairs-head node rest order))
    ∙ sym (cond-false (is_marked marks node) (Some node) (find (is_marked marks) rest) miss)

same-cond : {X : Type 0} (t : Bool) (x : X) → cond t x x ≡ x
same-cond true x = refl
same-cond false x = refl

-- the mark of a node once some are marked
abbrev pub mark_after : List ℕ → ℕ → List ℕ → ℕ → ℕ
mark_after nodes mark marks k = cond (list_any (λ node. node == k) nodes) mark (get_or marks k 0)

pub mark_step : (marks : List ℕ) (node mark : ℕ) (rest : List ℕ) (k : ℕ) → node < length marks
    → mark_after rest mark (set marks node mark) k ≡ mark_after (node ∷ rest) mark marks k
mark_step marks node mark rest k within = elim (cases_Bool (node == k)) [
  | inl here ↦
      let is : node ≡ k = eqb-true node k here in
      let written : get_or (set marks node mark) k 0 ≡ mark = subst (λ j. get_or (set marks node mark) j 0 ≡ mark) is (get_or-set_same marks node mark 0 within) in
      rw (here, written) (same-cond (list_any (λ n. n == k) rest) mark)
  | inr other ↦
      let kept : get_or (set marks node mark) k 0 ≡ get_or marks k 0 =
      get_or-set_other marks node k mark 0 (λ same. absurd (let bad : (node == k) ≡ true = eq-eqb node k (sym same) in let no : true ≡ false = sym bad ∙ other in cc)) in
      rw (other, kept) refl
]

-- marks and what is held
pub mark_held : (k : ℕ) (g : GridSize) (boxes : List BoxBound) (node : ℕ) → 1 ≤ k → not (mark_from k g boxes node == 0) ≡ is_held g boxes node
mark_held k g [] node some = refl
mark_held k g (b ∷ boxes) node some = elim (cases_Bool (holds g b.area node)) [
  | inl held ↦ rw held (ap not (nonzero k some))
  | inr free ↦ rw free (mark_held (k + 1) g boxes node (omega arith))
]

-- the mark by one more box
mark_push_held : (k : ℕ) (g : GridSize) (boxes : List BoxBound) (b : BoxBound) (node : ℕ) → is_held g boxes node ≡ false → holds g b.area node ≡ true
    → mark_from k g (boxes ++ b ∷ []) node ≡ k + length boxes
mark_push_held k g [] b node free held = cond-true (holds g b.area node) k 0 held ∙ omega arith
mark_push_held k g (c ∷ boxes) b node free held =
    let parts = or_parts (holds g c.area node) (is_held g boxes node) free in
    cond-false (holds g c.area node) k (mark_from (k + 1) g (boxes ++ b ∷ []) node) parts.0
    ∙ mark_push_held (k + 1) g boxes b node parts.1 held ∙ omega arith

mark_push_free : (k : ℕ) (g : GridSize) (boxes : List BoxBound) (b : BoxBound) (node : ℕ) → holds g b.area node ≡ false
    → mark_from k g (boxes ++ b ∷ []) node ≡ mark_from k g boxes node
mark_push_free k g [] b node free = cond-false (holds g b.area node) k 0 free
mark_push_free k g (c ∷ boxes) b node free = ap (cond (holds g c.area node) k) (mark_push_free (k + 1) g boxes b node free)

-- once the nodes of one more box are marked
pub marked_more : (g : GridSize) (boxes : List BoxBound) (b : BoxBound) (marks new : List ℕ) (mark : ℕ) → length marks ≡ node_count g → mark ≡ length boxes + 1
    → IsMarked g boxes marks → find (is_held g boxes) (box_nodes g b.area) ≡ None
    → ((k : ℕ) → k < length marks → get_or new k 0 ≡ mark_after (box_nodes g b.area) mark marks k)
    → IsMarked g (boxes ++ b ∷ []) new
marked_more g boxes b marks new mark long mark_is before none written node below =
    let within : node < length marks = omega (arith, long) in
    let any = box_nodes-any g b.area node below in
    elim (cases_Bool (holds g b.area node)) [
      | inl held ↦
          let free = find-none (is_held g boxes) (box_nodes g b.area) node none (box_nodes-contains g b.area node below held) in
          written node within ∙ cond-true (list_any (λ n. n == node) (box_nodes g b.area)) mark (get_or marks node 0) (any ∙ held)
          ∙ mark_is ∙ omega arith ∙ sym (mark_push_held 1 g boxes b node free held)
      | inr out ↦
          written node within ∙ cond-false (list_any (λ n. n == node) (box_nodes g b.area)) mark (get_or marks node 0) (any ∙ out)
          ∙ before node below ∙ sym (mark_push_free 1 g boxes b node out)
    ]

-- what is found among the nodes of a box
pub found_held : (g : GridSize) (boxes : List BoxBound) (b : BoxBound) (marks : List ℕ) → IsMarked g boxes marks
    → find (is_marked marks) (box_nodes g b.area) ≡ find (is_held g boxes) (box_nodes g b.area)
found_held g boxes b marks marked = find-same (is_marked marks) (is_held g boxes) (box_nodes g b.area)
    (λ k d below.
    let node = get_or (box_nodes g b.area) k d in
    let inside : node < node_count g = box_nodes-below g b.area k d below in
    ap (λ m. not (m == 0)) (marked node inside) ∙ mark_held 1 g boxes node (omega arith))

-- no node is marked at the start
pub marked_none : (g : GridSize) (marks : List ℕ) → ((node : ℕ) → node < node_count g → get_or marks node 0 ≡ 0) → IsMarked g [] marks
marked_none g marks zero_all node below = zero_all node below

-- the test and the fact that a box lies in the grid
pub in_from : (g : GridSize) (a : NodeBox) → IsIn g a → is_in g a ≡ true
in_from g a inside =
    let x = inside.x in
    let x_end = inside.x_end in
    let y = inside.y in
    let y_end = inside.y_end in
    let z = inside.z in
    let z_end = inside.z_end in
    grind (arith, nat_tests)

pub in_is : (g : GridSize) (a : NodeBox) → is_in g a ≡ true → IsIn g a
in_is g a passes = record {
  x = grind (arith, nat_tests);
  x_end = grind (arith, nat_tests);
  y = grind (arith, nat_tests);
  y_end = grind (arith, nat_tests);
  z = grind (arith, nat_tests);
  z_end = grind (arith, nat_tests);
}

pub in_not : (g : GridSize) (a : NodeBox) → (IsIn g a → ⊥) → is_in g a ≡ false
in_not g a out = false_from_ne_true (is_in g a) (λ passes. out (in_is g a passes))

-- the fault of a box
module _ (g : GridSize) (boxes : List BoxBound) (place : ℕ) (b : BoxBound) (rest : Option Verdict) where
  pub fault_outside : is_in g b.area ≡ false → option_or (placing_fault g boxes (place, b)) rest ≡ Some (Outside place)
  fault_outside out = rw out refl

  pub fault_twice : (node : ℕ) → is_in g b.area ≡ true → find (is_held g (take place boxes)) (box_nodes g b.area) ≡ Some node
      → option_or (placing_fault g boxes (place, b)) rest ≡ Some (Twice node)
  fault_twice node inside found = rw (inside, found) refl

  pub fault_none : is_in g b.area ≡ true → find (is_held g (take place boxes)) (box_nodes g b.area) ≡ None
      → option_or (placing_fault g boxes (place, b)) rest ≡ rest
  fault_none inside found = rw (inside, found) refl

-- the first mark that is 0
pub free_walk : (test : ℕ → Bool) (from : ℕ) (marks : List ℕ) → ((j : ℕ) → j < length marks → (get_or marks j 0 == 0) ≡ test (from + j))
    → position_from (λ mark. mark == 0) from marks ≡ find test (range_with_len from (length marks))
free_walk test from [] same = refl
free_walk test from (mark ∷ marks) same =
    let first : from + 0 ≡ from = omega arith in
    let here : (mark == 0) ≡ test from = same 0 (omega arith) ∙ ap test first in
    let later : (j : ℕ) → j < length marks → (get_or marks j 0 == 0) ≡ test ((from + 1) + j) =
    λ j below. let next : from + suc j ≡ (from + 1) + j = omega arith in same (suc j) (omega arith) ∙ ap test next in
    ap (λ t. cond t (Some from) (position_from (λ m. m == 0) (from + 1) marks)) here
    ∙ ap (cond (test from) (Some from)) (free_walk test (from + 1) marks later)
