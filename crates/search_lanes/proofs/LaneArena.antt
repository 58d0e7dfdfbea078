-- The boxes that were met and those of them that are open or held, as boxes are met, moved and opened.
use Rattle.std.proofs.Common.{◌≡◌, ◌≢◌, inl, inr, ℕ, zero, suc, ◌+◌, ◌-◌, ◌≤◌, ◌<◌, arith, false, List, [], ◌∷◌, ◌++◌, length, map, get_or, refl, ap, sym, ◌∙◌, subst, Contains, Some}
use Rattle.std.specs.List.{AllByRecursion}
use Rattle.std.specs.List.Sorted.{IsPermutation}
use Rattle.std.proofs.Math.Seq.{get_or-append_right}
use Rattle.std.proofs.lemmas.Bool.{cases_lt, cases_eq}
use Rattle.std.proofs.lemmas.List.{length-append, length-map, get_or_append_left}
use Rattle.std.proofs.lemmas.List.Elements.{Contains-append_right, Contains-append_left, All-from_recursion, recursion_from_All}
use Rattle.std.proofs.lemmas.List.Sorted.{All-permutation, Contains-permutation}
use Rattle.node_boxes.specs.declared.node_box.NodeBox.{NodeBox}
use Rattle.node_boxes.specs.Boxes.{is_single}
use Rattle.node_boxes.specs.Children.{children_of}
use Rattle.node_boxes.specs.Octree.{IsOctreeBox}
use Rattle.node_boxes.proofs.Lists.{all-append, first_or_rest}
use Rattle.octree_search.specs.declared.arena.Met.{Met}
use Rattle.octree_search.specs.declared.queue.Waiting.{Waiting}
use Rattle.octree_search.specs.Arena.{areas_met, fresh, waiting, IsLinked, IsOpened}
use Rattle.octree_search.proofs.Arenas.{linked_more, areas_more}
use Rattle.octree_search.proofs.Frontiers.{state_map}
use Rattle.octree_search.proofs.Walking.{area_at}
use Rattle.search_lanes.specs.Inside.Bags.{entry_of, IsSeen, IsPlaced, IsArena}
use Rattle.search_lanes.specs.Inside.Slots.{waits_from}

-- the same boxes may stand in another order
pub arena_permuted : (roots : List NodeBox) (met : List Met) (boxes now : List Waiting) → IsPermutation boxes now
    → IsArena roots met boxes → IsArena roots met now
arena_permuted roots met boxes now swaps f = record {
  entries = λ i d below. let entry = f.entries i d below in record {
    tree = entry.tree;
    state = state_map (get_or met i d).first_child _ _ _ _
        (λ has. Contains-permutation boxes now (entry_of i (get_or met i d)) swaps has) (λ k linked. linked) entry.state;
  };
  queued = All-permutation (IsPlaced roots (areas_met met)) boxes now swaps f.queued;
}

-- boxes that were just met stand where they were met
pub waits_placed : (roots : List NodeBox) (bound : NodeBox → ℕ) (areas : List NodeBox) (cs : List NodeBox) (from : ℕ)
    → AllByRecursion (IsOctreeBox roots) cs → from + length cs ≤ length areas
    → ((j : ℕ) (d : NodeBox) → j < length cs → get_or areas (from + j) d ≡ get_or cs j d)
    → AllByRecursion (IsPlaced roots areas) (waits_from bound from cs)
waits_placed roots bound areas [] from trees within there = tt
waits_placed roots bound areas (a ∷ cs) from (tree, trees) within there = (
  record {
    tree = tree;
    within = omega (arith, within);
    there = λ d. let here : from ≡ from + 0 = omega arith in ap (λ place. get_or areas place d) here ∙ there 0 d (omega arith);
  },
  waits_placed roots bound areas cs (from + 1) trees (omega (arith, within)) (λ j d below.
      let here : from + suc j ≡ from + 1 + j = omega arith in
      ap (λ place. get_or areas place d) (sym here) ∙ there (suc j) d (omega (arith, below))),
)

-- and each of them is there
pub waits_have : (bound : NodeBox → ℕ) (cs : List NodeBox) (from j : ℕ) (d : NodeBox) → j < length cs
    → Contains (waits_from bound from cs) (waiting bound (from + j) (get_or cs j d))
waits_have bound [] from j d below = absurd (omega (arith, below))
waits_have bound (a ∷ cs) from zero d below =
    let here : from ≡ from + 0 = omega arith in (0, omega arith, ap (λ place. waiting bound place a) here)
waits_have bound (a ∷ cs) from (suc j) d below =
    let here : from + 1 + j ≡ from + suc j = omega arith in
    Contains-append_right (waiting bound from a ∷ []) (waits_from bound (from + 1) cs) (waiting bound (from + suc j) (get_or cs j d))
    (subst (λ place. Contains (waits_from bound (from + 1) cs) (waiting bound place (get_or cs j d))) here
    (waits_have bound cs (from + 1) j d (omega (arith, below))))

-- what was met of each of some boxes
pub fresh_at : (bound : NodeBox → ℕ) (cs : List NodeBox) (j : ℕ) (d : Met) → j < length cs
    → get_or (map (fresh bound) cs) j d ≡ fresh bound (get_or cs j d.area)
fresh_at bound [] j d below = absurd (omega (arith, below))
fresh_at bound (c ∷ cs) zero d below = refl
fresh_at bound (c ∷ cs) (suc j) d below = fresh_at bound cs j d (omega (arith, below))

-- more boxes are met
pub arena_more : (roots : List NodeBox) (bound : NodeBox → ℕ) (met : List Met) (boxes : List Waiting) (cs : List NodeBox)
    → AllByRecursion (IsOctreeBox roots) cs → IsArena roots met boxes
    → IsArena roots (met ++ map (fresh bound) cs) (waits_from bound (length met) cs ++ boxes)
arena_more roots bound met boxes cs trees f = record {
  entries = λ i d below. elim (cases_lt i (length met)) [
    | inl old ↦ old_entry i d old
    | inr new ↦ new_entry i d new (omega (arith, below, length-append {A = Met} met (map (fresh bound) cs), length-map cs (fresh bound)))
  ];
  queued = All-from_recursion (IsPlaced roots (areas_met (met ++ map (fresh bound) cs))) (waits_from bound (length met) cs ++ boxes)
      (all-append (IsPlaced roots (areas_met (met ++ map (fresh bound) cs))) (waits_from bound (length met) cs) boxes
      (subst (λ areas. AllByRecursion (IsPlaced roots areas) (waits_from bound (length met) cs)) (sym (areas_more bound met cs))
      (waits_placed roots bound (areas_met met ++ cs) cs (length met) trees
      (omega (arith, length-append {A = NodeBox} (areas_met met) cs, length-map met (λ (m : Met). m.area)))
      (λ j d below. after j d below)))
      (recursion_from_All (IsPlaced roots (areas_met (met ++ map (fresh bound) cs))) boxes (λ k w below. old_placed w k below)));
}
  where
    after : (j : ℕ) (d : NodeBox) → j < length cs → get_or (areas_met met ++ cs) (length met + j) d ≡ get_or cs j d
    after j d below =
        let long : length (areas_met met) ≡ length met = length-map met (λ (m : Met). m.area) in
        let left : length met + j - length (areas_met met) ≡ j = omega (arith, long) in
        get_or-append_right (areas_met met) cs (length met + j) d (omega (arith, long)) ∙ ap (λ k. get_or cs k d) left

    old_placed : (w : Waiting) (k : ℕ) → k < length boxes → IsPlaced roots (areas_met (met ++ map (fresh bound) cs)) (get_or boxes k w)
    old_placed w k below =
        let was = f.queued k w below in
        subst (λ areas. IsPlaced roots areas (get_or boxes k w)) (sym (areas_more bound met cs)) (record {
          tree = was.tree;
          within = omega (arith, was.within, length-append {A = NodeBox} (areas_met met) cs);
          there = λ d. get_or_append_left (areas_met met) cs d (get_or boxes k w).place was.within ∙ was.there d;
        })

    old_entry : (i : ℕ) (d : Met) → i < length met
        → IsSeen roots (areas_met (met ++ map (fresh bound) cs)) (waits_from bound (length met) cs ++ boxes) i (get_or (met ++ map (fresh bound) cs) i d)
    old_entry i d old =
        let was = f.entries i d old in
        subst (IsSeen roots (areas_met (met ++ map (fresh bound) cs)) (waits_from bound (length met) cs ++ boxes) i)
        (sym (get_or_append_left met (map (fresh bound) cs) d i old)) (record {
          tree = was.tree;
          state = state_map (get_or met i d).first_child _ _ _ _
              (λ has. Contains-append_right (waits_from bound (length met) cs) boxes (entry_of i (get_or met i d)) has)
              (λ k linked. (linked.0, linked.1, subst (λ areas. IsLinked areas (get_or met i d).area k) (sym (areas_more bound met cs)) (linked_more (areas_met met) cs (get_or met i d).area k linked.2)))
              was.state;
        })

    new_entry : (i : ℕ) (d : Met) → length met ≤ i → i < length met + length cs
        → IsSeen roots (areas_met (met ++ map (fresh bound) cs)) (waits_from bound (length met) cs ++ boxes) i (get_or (met ++ map (fresh bound) cs) i d)
    new_entry i d from below =
        let j : ℕ = i - length met in
        let within : j < length cs = omega (arith, from, below) in
        let place : length met + j ≡ i = omega (arith, from) in
        let is : get_or (met ++ map (fresh bound) cs) i d ≡ fresh bound (get_or cs j d.area) =
        get_or-append_right met (map (fresh bound) cs) i d from ∙ fresh_at bound cs j d within in
        subst (IsSeen roots (areas_met (met ++ map (fresh bound) cs)) (waits_from bound (length met) cs ++ boxes) i) (sym is) (record {
          tree = All-from_recursion (IsOctreeBox roots) cs trees j d.area within;
          state = subst (λ k. Contains (waits_from bound (length met) cs ++ boxes) (waiting bound k (get_or cs j d.area))) place
              (Contains-append_left (waits_from bound (length met) cs) boxes (waiting bound (length met + j) (get_or cs j d.area))
              (waits_have bound cs (length met) j d.area within));
        })

-- a box that was open or held is opened
pub arena_opened : (roots : List NodeBox) (met : List Met) (top : Waiting) (boxes : List Waiting) (first : ℕ) (new : List Met)
    → IsArena roots met (top ∷ boxes) → IsOpened met top.place first new → is_single top.area ≡ false
    → 1 ≤ length (children_of top.area) → IsLinked (areas_met met) top.area first → IsArena roots new boxes
arena_opened roots met top boxes first new f o several some linked = record {
  entries = λ i d below. elim (cases_eq i top.place) [
    | inl here ↦ opened_entry i d here (omega (arith, below, o.same_length))
    | inr other ↦ other_entry i d other (omega (arith, below, o.same_length))
  ];
  queued = λ k w below. subst (λ areas. IsPlaced roots areas (get_or boxes k w)) (sym o.same_areas) (f.queued (suc k) w (omega (arith, below)));
}
  where
    opened_entry : (i : ℕ) (d : Met) → i ≡ top.place → i < length met → IsSeen roots (areas_met new) boxes i (get_or new i d)
    opened_entry i d here below =
        let was = f.entries i d below in
        let top_is = f.queued 0 top (omega arith) in
        let area : (get_or met i d).area ≡ top.area =
        area_at met i d below ∙ ap (λ k. get_or (areas_met met) k d.area) here ∙ top_is.there d.area in
        let is : get_or new i d ≡ record (get_or met i d) { first_child = Some first } =
        ap (λ k. get_or new k d) here ∙ o.here d ∙ ap (λ k. record (get_or met k d) { first_child = Some first }) (sym here) in
        subst (IsSeen roots (areas_met new) boxes i) (sym is) (record {
          tree = was.tree;
          state = (
            subst (λ a. is_single a ≡ false) (sym area) several,
            subst (λ a. 1 ≤ length (children_of a)) (sym area) some,
            subst (λ a. IsLinked (areas_met new) a first) (sym area) (subst (λ areas. IsLinked areas top.area first) (sym o.same_areas) linked),
          );
        })

    other_entry : (i : ℕ) (d : Met) → i ≢ top.place → i < length met → IsSeen roots (areas_met new) boxes i (get_or new i d)
    other_entry i d other below =
        let was = f.entries i d below in
        subst (IsSeen roots (areas_met new) boxes i) (sym (o.others i d other)) (record {
          tree = was.tree;
          state = state_map (get_or met i d).first_child _ _ _ _
              (λ has. elim (first_or_rest top boxes (entry_of i (get_or met i d)) has) [
                | inl same ↦ absurd (other (sym (ap (λ (w : Waiting). w.place) same)))
                | inr rest ↦ rest
              ])
              (λ k linked'. (linked'.0, linked'.1, subst (λ areas. IsLinked areas (get_or met i d).area k) (sym o.same_areas) linked'.2))
              was.state;
        })
