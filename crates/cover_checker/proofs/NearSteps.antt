-- The walk over all marks beside the printed near list.
use Rattle.std.proofs.Common.{◌≡◌, inl, inr, ℕ, suc, ◌+◌, ◌-◌, ◌<◌, ◌≤◌, ◌==◌, arith, refl, ap, sym, ◌∙◌, true, false, cond, List, [], ◌∷◌, length, get_or, drop, Option, None, Some}
use Rattle.std.specs.List.{find, cons_option}
use Rattle.std.specs.Option.{option_map_or}
use Rattle.std.specs.Prelude.{option_map, slice_get}
use Rattle.std.proofs.lemmas.Bool.{cases_Bool, cases_lt, cond-false, cond-true}
use Rattle.std.proofs.lemmas.List.{at_drop_more, drop_all}
use Rattle.std.proofs.lemmas.Option.{slice_get-get_or, slice_get_past}
use Rattle.node_boxes.specs.declared.node_box.BoxBound.{BoxBound}
use Rattle.node_boxes.specs.Boxes.{holds}
use Rattle.node_boxes.specs.Grid.{GridSize}
use Rattle.cover_checker.specs.Findings.{first_difference, same_entry}
use Rattle.cover_checker.specs.Inside.Marking.{mark_from}
use Rattle.cover_checker.specs.Inside.Walks.{has_entry, near_bound, near_walk}
use Rattle.cover_checker.proofs.Searches.{nonzero}

-- one more node is or isn't near
module _ (boxes : List BoxBound) (least node : ℕ) (marks : List ℕ) (below : node < length marks) where
  pub walk_some : (bound : ℕ) → Some bound ≡ near_bound boxes least (get_or marks node 0)
      → near_walk boxes least node (drop node marks) ≡ (node, bound) ∷ near_walk boxes least (node + 1) (drop (node + 1) marks)
  walk_some bound is =
      at_drop_more (near_walk boxes least node) marks node 0 below
      ∙ ap (λ (o : Option ℕ). cons_option (option_map (λ b. (node, b)) o) (near_walk boxes least (node + 1) (drop (node + 1) marks))) (sym is)

  pub walk_none : None ≡ near_bound boxes least (get_or marks node 0)
      → near_walk boxes least node (drop node marks) ≡ near_walk boxes least (node + 1) (drop (node + 1) marks)
  walk_none is =
      at_drop_more (near_walk boxes least node) marks node 0 below
      ∙ ap (λ (o : Option ℕ). cons_option (option_map (λ b. (node, b)) o) (near_walk boxes least (node + 1) (drop (node + 1) marks))) (sym is)

no_entry : ℕ × ℕ
no_entry = (0, 0)

-- the printed list at a place
module _ (near : List (ℕ × ℕ)) (at : ℕ) (entry : ℕ × ℕ) (entries : List (ℕ × ℕ)) where
  at_entry : at < length near → has_entry near at entry ≡ same_entry (get_or near at no_entry) entry
  at_entry below = ap (λ (o : Option (ℕ × ℕ)). option_map_or (λ printed. same_entry printed entry) o false) (slice_get-get_or near at no_entry below)

  past_entry : length near ≤ at → has_entry near at entry ≡ false
  past_entry past = ap (λ (o : Option (ℕ × ℕ)). option_map_or (λ printed. same_entry printed entry) o false) (slice_get_past near at past)

  pub differs_here : has_entry near at entry ≡ false → first_difference at (drop at near) (entry ∷ entries) ≡ Some at
  differs_here other = elim (cases_lt at (length near)) [
    | inl below ↦
        at_drop_more (λ xs. first_difference at xs (entry ∷ entries)) near at no_entry below
        ∙ cond-false (same_entry (get_or near at no_entry) entry) (first_difference (at + 1) (drop (at + 1) near) entries) (Some at) (sym (at_entry below) ∙ other)
    | inr past ↦ ap (λ xs. first_difference at xs (entry ∷ entries)) (drop_all at near past)
  ]

  pub entry_within : has_entry near at entry ≡ true → at < length near
  entry_within has = elim (cases_lt at (length near)) [
    | inl below ↦ below
    | inr past ↦ absurd (let bad : true ≡ false = sym has ∙ past_entry past in cc)
  ]

  pub agrees_here : has_entry near at entry ≡ true
      → first_difference at (drop at near) (entry ∷ entries) ≡ first_difference (at + 1) (drop (at + 1) near) entries
  agrees_here has =
      let below = entry_within has in
      at_drop_more (λ xs. first_difference at xs (entry ∷ entries)) near at no_entry below
      ∙ cond-true (same_entry (get_or near at no_entry) entry) (first_difference (at + 1) (drop (at + 1) near) entries) (Some at) (sym (at_entry below) ∙ has)

-- after all nodes
module _ (near : List (ℕ × ℕ)) (at : ℕ) where
  pub more_printed : at < length near → first_difference at (drop at near) [] ≡ Some at
  more_printed below = at_drop_more (λ xs. first_difference at xs []) near at no_entry below

  pub none_printed : length near ≤ at → first_difference at (drop at near) [] ≡ None
  none_printed past = ap (λ xs. first_difference at xs []) (drop_all at near past)

-- a mark is 0 or the place of a box from `k` on
mark_low : (k : ℕ) (g : GridSize) (boxes : List BoxBound) (node : ℕ) → 1 ≤ k → (mark_from k g boxes node == 0) ≡ false → k ≤ mark_from k g boxes node
mark_low k g [] node some marked = cc
mark_low k g (b ∷ boxes) node some marked = elim (cases_Bool (holds g b.area node)) [
  | inl held ↦ let is : mark_from k g (b ∷ boxes) node ≡ k = cond-true (holds g b.area node) k (mark_from (k + 1) g boxes node) held in omega (arith, is)
  | inr free ↦
      let is : mark_from k g (b ∷ boxes) node ≡ mark_from (k + 1) g boxes node = cond-false (holds g b.area node) k (mark_from (k + 1) g boxes node) free in
      let later = mark_low (k + 1) g boxes node (omega arith) (sym (ap (λ m. m == 0) is) ∙ marked) in
      omega (arith, is, later)
]

-- a place in boxes after a first one
get_later : (b : BoxBound) (boxes : List BoxBound) (mark k : ℕ) → k + 1 ≤ mark → slice_get (b ∷ boxes) (mark - k) ≡ slice_get boxes (mark - (k + 1))
get_later b boxes mark k most =
    let next : mark - k ≡ suc (mark - (k + 1)) = omega arith in
    ap (slice_get (b ∷ boxes)) next

mark_later : (k : ℕ) (g : GridSize) (b : BoxBound) (boxes : List BoxBound) (node : ℕ) → 1 ≤ k
    → cond (mark_from (k + 1) g boxes node == 0) None (slice_get boxes (mark_from (k + 1) g boxes node - (k + 1))) ≡ find (λ c. holds g c.area node) boxes
    → cond (mark_from (k + 1) g boxes node == 0) None (slice_get (b ∷ boxes) (mark_from (k + 1) g boxes node - k)) ≡ find (λ c. holds g c.area node) boxes
mark_later k g b boxes node some before =
    let mark = mark_from (k + 1) g boxes node in
    elim (cases_Bool (mark == 0)) [
      | inl none ↦
          cond-true (mark == 0) None (slice_get (b ∷ boxes) (mark - k)) none
          ∙ sym (cond-true (mark == 0) None (slice_get boxes (mark - (k + 1))) none) ∙ before
      | inr marked ↦
          cond-false (mark == 0) None (slice_get (b ∷ boxes) (mark - k)) marked
          ∙ get_later b boxes mark k (mark_low (k + 1) g boxes node (omega arith) marked)
          ∙ sym (cond-false (mark == 0) None (slice_get boxes (mark - (k + 1))) marked) ∙ before
    ]

-- the box of a mark is the first that holds the node
pub mark_find : (k : ℕ) (g : GridSize) (boxes : List BoxBound) (node : ℕ) → 1 ≤ k
    → cond (mark_from k g boxes node == 0) None (slice_get boxes (mark_from k g boxes node - k)) ≡ find (λ b. holds g b.area node) boxes
mark_find k g [] node some = refl
mark_find k g (b ∷ boxes) node some = elim (cases_Bool (holds g b.area node)) [
  | inl held ↦
      let here : k - k ≡ 0 = omega arith in
      rw (held, nonzero k some, here) refl
  | inr free ↦ rw free (mark_later k g b boxes node some (mark_find (k + 1) g boxes node (omega arith)))
]
