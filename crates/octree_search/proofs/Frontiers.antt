-- The boxes that were met and those of them that wait, in the course of a search.
use Rattle.std.proofs.Common.{◌≡◌, ◌≢◌, inl, inr, ℕ, zero, suc, ◌+◌, ◌-◌, ◌≤◌, ◌<◌, arith, false, List, [], ◌∷◌, ◌++◌, length, map, get_or, refl, ap, sym, ◌∙◌, subst, Contains, Option, Some, None, All}
use Rattle.std.specs.Prelude.{◌||◌, nat_lt, MatchOption}
use Rattle.std.specs.List.{AllByRecursion}
use Rattle.std.specs.List.Sorted.{IsPermutation}
use Rattle.std.proofs.Math.Seq.{get_or-append_right}
use Rattle.std.proofs.lemmas.Bool.{cases_lt, cases_eq}
use Rattle.std.proofs.lemmas.List.{length-append, length-map, get_or_append_left}
use Rattle.std.proofs.lemmas.List.Elements.{Contains-append_right, Contains-append_left, All-from_recursion, recursion_from_All}
use Rattle.std.proofs.lemmas.List.Sorted.{All-permutation, Contains-permutation}
use Rattle.node_boxes.specs.declared.node_box.NodeBox.{NodeBox}
use Rattle.node_boxes.specs.Boxes.{is_single}
use Rattle.node_boxes.specs.Octree.{IsOctreeBox}
use Rattle.node_boxes.proofs.Lists.{all-append, first_or_rest}
use Rattle.octree_search.specs.declared.arena.Met.{Met}
use Rattle.octree_search.specs.declared.queue.Waiting.{Waiting}
use Rattle.octree_search.specs.Cover.{threshold_of, stops}
use Rattle.octree_search.specs.Arena.{areas_met, fresh, waiting, IsLinked, IsOpened}
use Rattle.octree_search.specs.Inside.Meeting.{best_with, best_after, waits}
use Rattle.octree_search.proofs.Choices.{by_test, neither}
use Rattle.octree_search.proofs.Arenas.{linked_more, areas_more}
use Rattle.octree_search.proofs.Meetings.{waits_have, wait_not, wait_so}

-- the state of a box that was met: it waits where it has to be opened, or its children stand there
abbrev pub IsState : List NodeBox → List Waiting → (NodeBox → ℕ) → ℕ → ℕ → NodeBox → Option ℕ → Type 0
IsState areas queue bound t place a first = MatchOption first
    (stops bound t a ≡ false → Contains queue (waiting bound place a))
    (λ k. (stops bound t a ≡ false) × IsLinked areas a k)

pub record IsEntry (roots : List NodeBox) (bound : NodeBox → ℕ) (t : ℕ) (areas : List NodeBox) (queue : List Waiting) (place : ℕ) (m : Met) : Type 0 where
  pub tree : IsOctreeBox roots m.area
  pub bound_is : m.bound ≡ bound m.area
  pub state : IsState areas queue bound t place m.area m.first_child

-- a box that waits is one that was met
pub record IsQueued (roots : List NodeBox) (bound : NodeBox → ℕ) (areas : List NodeBox) (w : Waiting) : Type 0 where
  pub tree : IsOctreeBox roots w.area
  pub bound_is : w.bound ≡ bound w.area
  pub several : is_single w.area ≡ false
  pub within : w.place < length areas
  pub there : (d : NodeBox) → get_or areas w.place d ≡ w.area

pub record IsFrontier (roots : List NodeBox) (bound : NodeBox → ℕ) (t : ℕ) (met : List Met) (queue : List Waiting) : Type 0 where
  pub entries : (i : ℕ) (d : Met) → i < length met → IsEntry roots bound t (areas_met met) queue i (get_or met i d)
  pub queued : All (IsQueued roots bound (areas_met met)) queue

-- a state moves by its cases
pub state_map : (o : Option ℕ) (A B : Type 0) (P Q : ℕ → Type 0) → (A → B) → ((k : ℕ) → P k → Q k) → MatchOption o A P → MatchOption o B Q
state_map None A B P Q f g h = f h
state_map (Some k) A B P Q f g h = g k h

-- the same boxes may wait in another order
pub frontier_permuted : (roots : List NodeBox) (bound : NodeBox → ℕ) (t : ℕ) (met : List Met) (queue now : List Waiting) → IsPermutation queue now
    → IsFrontier roots bound t met queue → IsFrontier roots bound t met now
frontier_permuted roots bound t met queue now swaps f = record {
  entries = λ i d below. let entry = f.entries i d below in record {
    tree = entry.tree;
    bound_is = entry.bound_is;
    state = state_map (get_or met i d).first_child _ _ _ _
        (λ has open'. Contains-permutation queue now (waiting bound i (get_or met i d).area) swaps (has open')) (λ k linked. linked) entry.state;
  };
  queued = All-permutation (IsQueued roots bound (areas_met met)) queue now swaps f.queued;
}

-- boxes that wait stand where they were met
pub waits_queued : (roots : List NodeBox) (margin : ℕ) (bound : NodeBox → ℕ) (areas : List NodeBox) (cs : List NodeBox) (best from : ℕ)
    → AllByRecursion (IsOctreeBox roots) cs → from + length cs ≤ length areas
    → ((j : ℕ) (d : NodeBox) → j < length cs → get_or areas (from + j) d ≡ get_or cs j d)
    → AllByRecursion (IsQueued roots bound areas) (waits margin bound best from cs)
waits_queued roots margin bound areas [] best from trees within there = tt
waits_queued roots margin bound areas (a ∷ cs) best from (tree, trees) within there =
    let step : from + 1 + length cs ≤ length areas = omega (arith, within) in
    let rest : AllByRecursion (IsQueued roots bound areas) (waits margin bound (best_with bound best a) (from + 1) cs) =
    waits_queued roots margin bound areas cs (best_with bound best a) (from + 1) trees step (λ j d below.
    let here : from + suc j ≡ from + 1 + j = omega arith in
    ap (λ place. get_or areas place d) (sym here) ∙ there (suc j) d (omega (arith, below))) in
    elim (by_test (is_single a || nat_lt (bound a) (threshold_of margin best))) [
      | inl stop ↦ subst (λ front. AllByRecursion (IsQueued roots bound areas) (front ++ waits margin bound (best_with bound best a) (from + 1) cs))
          (sym (wait_not margin bound best from a stop)) rest
      | inr go ↦ subst (λ front. AllByRecursion (IsQueued roots bound areas) (front ++ waits margin bound (best_with bound best a) (from + 1) cs))
          (sym (wait_so margin bound best from a go)) (
            record {
              tree = tree;
              bound_is = refl;
              several = (neither (is_single a) (nat_lt (bound a) (threshold_of margin best)) go).0;
              within = omega (arith, within);
              there = λ d. let here : from ≡ from + 0 = omega arith in ap (λ place. get_or areas place d) here ∙ there 0 d (omega arith);
            },
            rest,
          )
    ]

-- more boxes are met
pub frontier_more : (roots : List NodeBox) (margin : ℕ) (bound : NodeBox → ℕ) (t : ℕ) (met : List Met) (queue : List Waiting) (cs : List NodeBox) (best : ℕ)
    → AllByRecursion (IsOctreeBox roots) cs → threshold_of margin (best_after bound best cs) ≤ t
    → IsFrontier roots bound t met queue
    → IsFrontier roots bound t (met ++ map (fresh bound) cs) (waits margin bound best (length met) cs ++ queue)
frontier_more roots margin bound t met queue cs best trees low f = record {
  entries = λ i d below. elim (cases_lt i (length met)) [
    | inl old ↦ old_entry i d old
    | inr new ↦ new_entry i d new (omega (arith, below, length-append {A = Met} met (map (fresh bound) cs), length-map cs (fresh bound)))
  ];
  queued = All-from_recursion (IsQueued roots bound (areas_met (met ++ map (fresh bound) cs))) (waits margin bound best (length met) cs ++ queue)
      (all-append (IsQueued roots bound (areas_met (met ++ map (fresh bound) cs))) (waits margin bound best (length met) cs) queue
      (subst (λ areas. AllByRecursion (IsQueued roots bound areas) (waits margin bound best (length met) cs)) (sym (areas_more bound met cs))
      (waits_queued roots margin bound (areas_met met ++ cs) cs best (length met) trees
      (omega (arith, length-append {A = NodeBox} (areas_met met) cs, length-map met (λ (m : Met). m.area)))
      (λ j d below. after j d below)))
      (recursion_from_All (IsQueued roots bound (areas_met (met ++ map (fresh bound) cs))) queue (λ k w below. old_queued w k below)));
}
  where
    after : (j : ℕ) (d : NodeBox) → j < length cs → get_or (areas_met met ++ cs) (length met + j) d ≡ get_or cs j d
    after j d below =
        let long : length (areas_met met) ≡ length met = length-map met (λ (m : Met). m.area) in
        let left : length met + j - length (areas_met met) ≡ j = omega (arith, long) in
        get_or-append_right (areas_met met) cs (length met + j) d (omega (arith, long)) ∙ ap (λ k. get_or cs k d) left

    old_queued : (w : Waiting) (k : ℕ) → k < length queue → IsQueued roots bound (areas_met (met ++ map (fresh bound) cs)) (get_or queue k w)
    old_queued w k below =
        let was = f.queued k w below in
        subst (λ areas. IsQueued roots bound areas (get_or queue k w)) (sym (areas_more bound met cs)) (record {
          tree = was.tree;
          bound_is = was.bound_is;
          several = was.several;
          within = omega (arith, was.within, length-append {A = NodeBox} (areas_met met) cs);
          there = λ d. get_or_append_left (areas_met met) cs d (get_or queue k w).place was.within ∙ was.there d;
        })

    old_entry : (i : ℕ) (d : Met) → i < length met
        → IsEntry roots bound t (areas_met (met ++ map (fresh bound) cs)) (waits margin bound best (length met) cs ++ queue) i (get_or (met ++ map (fresh bound) cs) i d)
    old_entry i d old =
        let was = f.entries i d old in
        subst (IsEntry roots bound t (areas_met (met ++ map (fresh bound) cs)) (waits margin bound best (length met) cs ++ queue) i)
        (sym (get_or_append_left met (map (fresh bound) cs) d i old)) (record {
          tree = was.tree;
          bound_is = was.bound_is;
          state = state_map (get_or met i d).first_child _ _ _ _
              (λ has open'. Contains-append_right (waits margin bound best (length met) cs) queue (waiting bound i (get_or met i d).area) (has open'))
              (λ k linked. (linked.0, subst (λ areas. IsLinked areas (get_or met i d).area k) (sym (areas_more bound met cs)) (linked_more (areas_met met) cs (get_or met i d).area k linked.1)))
              was.state;
        })

    new_entry : (i : ℕ) (d : Met) → length met ≤ i → i < length met + length cs
        → IsEntry roots bound t (areas_met (met ++ map (fresh bound) cs)) (waits margin bound best (length met) cs ++ queue) i (get_or (met ++ map (fresh bound) cs) i d)
    new_entry i d from below =
        let j : ℕ = i - length met in
        let within : j < length cs = omega (arith, from, below) in
        let place : length met + j ≡ i = omega (arith, from) in
        let is : get_or (met ++ map (fresh bound) cs) i d ≡ fresh bound (get_or cs j d.area) =
        get_or-append_right met (map (fresh bound) cs) i d from ∙ fresh_at cs j d within in
        subst (IsEntry roots bound t (areas_met (met ++ map (fresh bound) cs)) (waits margin bound best (length met) cs ++ queue) i) (sym is) (record {
          tree = All-from_recursion (IsOctreeBox roots) cs trees j d.area within;
          bound_is = refl;
          state = λ open'. subst (λ k. Contains (waits margin bound best (length met) cs ++ queue) (waiting bound k (get_or cs j d.area))) place
              (Contains-append_left (waits margin bound best (length met) cs) queue (waiting bound (length met + j) (get_or cs j d.area))
              (waits_have margin bound t cs best (length met) j d.area within low open'));
        })
      where
        fresh_at : (cs : List NodeBox) (j : ℕ) (d : Met) → j < length cs → get_or (map (fresh bound) cs) j d ≡ fresh bound (get_or cs j d.area)
        fresh_at [] j d below = absurd (omega (arith, below))
        fresh_at (c ∷ cs) zero d below = refl
        fresh_at (c ∷ cs) (suc j) d below = fresh_at cs j d (omega (arith, below))

-- a box that waited is opened
pub frontier_opened : (roots : List NodeBox) (bound : NodeBox → ℕ) (t : ℕ) (met : List Met) (top : Waiting) (queue : List Waiting) (first : ℕ) (new : List Met)
    → IsFrontier roots bound t met (top ∷ queue) → IsOpened met top.place first new → stops bound t top.area ≡ false
    → IsLinked (areas_met met) top.area first → IsFrontier roots bound t new queue
frontier_opened roots bound t met top queue first new f o open' linked = record {
  entries = λ i d below. elim (cases_eq i top.place) [
    | inl here ↦ opened_entry i d here (omega (arith, below, o.same_length))
    | inr other ↦ other_entry i d other (omega (arith, below, o.same_length))
  ];
  queued = λ k w below. subst (λ areas. IsQueued roots bound areas (get_or queue k w)) (sym o.same_areas) (f.queued (suc k) w (omega (arith, below)));
}
  where
    opened_entry : (i : ℕ) (d : Met) → i ≡ top.place → i < length met → IsEntry roots bound t (areas_met new) queue i (get_or new i d)
    opened_entry i d here below =
        let was = f.entries i d below in
        let top_is = f.queued 0 top (omega arith) in
        let area : (get_or met i d).area ≡ top.area =
        area_at met i d below ∙ ap (λ k. get_or (areas_met met) k d.area) here ∙ top_is.there d.area in
        let is : get_or new i d ≡ record (get_or met i d) { first_child = Some first } =
        ap (λ k. get_or new k d) here ∙ o.here d ∙ ap (λ k. record (get_or met k d) { first_child = Some first }) (sym here) in
        subst (IsEntry roots bound t (areas_met new) queue i) (sym is) (record {
          tree = was.tree;
          bound_is = was.bound_is;
          state = (
            subst (λ a. stops bound t a ≡ false) (sym area) open',
            subst (λ a. IsLinked (areas_met new) a first) (sym area) (subst (λ areas. IsLinked areas top.area first) (sym o.same_areas) linked),
          );
        })
      where
        area_at : (met : List Met) (i : ℕ) (d : Met) → i < length met → (get_or met i d).area ≡ get_or (areas_met met) i d.area
        area_at [] i d below = absurd (omega (arith, below))
        area_at (m ∷ met) zero d below = refl
        area_at (m ∷ met) (suc i) d below = area_at met i d (omega (arith, below))

    other_entry : (i : ℕ) (d : Met) → i ≢ top.place → i < length met → IsEntry roots bound t (areas_met new) queue i (get_or new i d)
    other_entry i d other below =
        let was = f.entries i d below in
        subst (IsEntry roots bound t (areas_met new) queue i) (sym (o.others i d other)) (record {
          tree = was.tree;
          bound_is = was.bound_is;
          state = state_map (get_or met i d).first_child _ _ _ _
              (λ has go. elim (first_or_rest top queue (waiting bound i (get_or met i d).area) (has go)) [
                | inl same ↦ absurd (other (sym (ap (λ (w : Waiting). w.place) same)))
                | inr rest ↦ rest
              ])
              (λ k linked'. (linked'.0, subst (λ areas. IsLinked areas (get_or met i d).area k) (sym o.same_areas) linked'.1))
              was.state;
        })
