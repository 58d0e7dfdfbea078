-- Open and held boxes as a bag: moved, and one of them opened.
use Rattle.std.proofs.Common.{◌≡◌, inl, inr, ℕ, ◌+◌, ◌-◌, ◌≤◌, ◌<◌, arith, false, cond, List, [], ◌∷◌, ◌++◌, length, map, take, drop, get_or, refl, ap, sym, ◌∙◌, subst, sum_by, Option, Some, None}
use Rattle.std.specs.Prelude.{MatchOption}
use Rattle.std.specs.List.Sorted.{IsPermutation}
use Rattle.std.proofs.Math.Seq.{take-length, drop-append_seam, get_or-append_right}
use Rattle.std.proofs.lemmas.Bool.{cases_eq, cases_lt}
use Rattle.std.proofs.lemmas.List.{length-append, length-map, length-take, take-append-le, get_or_append_left}
use Rattle.std.proofs.lemmas.List.Sorted.{IsPermutation-middle, sum_by-IsPermutation}
use Rattle.std.proofs.lemmas.List.Sums.{sum_by-cons, sum_by-append}
use Rattle.node_boxes.specs.declared.node_box.NodeBox.{NodeBox}
use Rattle.node_boxes.specs.Grid.{GridSize}
use Rattle.node_boxes.specs.Boxes.{IsNonempty, contains, is_single}
use Rattle.node_boxes.specs.Children.{children_of}
use Rattle.node_boxes.specs.Roots.{AreRoots, holders}
use Rattle.node_boxes.proofs.ChildBoxes.{children_count, children_once}
use Rattle.node_boxes.proofs.OctreeBoxes.{octree_inside, in_nonempty}
use Rattle.octree_search.specs.declared.arena.Met.{Met}
use Rattle.octree_search.specs.declared.queue.Waiting.{Waiting}
use Rattle.octree_search.specs.Cover.{below, stops}
use Rattle.octree_search.specs.Arena.{areas_met, fresh, IsLinked, IsOpened}
use Rattle.octree_search.proofs.Arenas.{areas_more}
use Rattle.octree_search.proofs.Covers.{below_open}
use Rattle.octree_search.proofs.Goes.{sum_ones}
use Rattle.octree_search.proofs.Scores.{octree_children}
use Rattle.octree_search.proofs.Walking.{area_at}
use Rattle.search_lanes.specs.Inside.Bags.{holds_place, left_below, AllOpened, IsBagOf}
use Rattle.search_lanes.specs.Inside.Slots.{waits_from}
use Rattle.search_lanes.proofs.LaneArena.{arena_permuted, arena_more, arena_opened, fresh_at}

-- the number of holders of a node among boxes that were just met
pub waits_held : (bound : NodeBox → ℕ) (ix iy iz : ℕ) (cs : List NodeBox) (from : ℕ)
    → sum_by (holds_place ix iy iz) (waits_from bound from cs) ≡ holders ix iy iz cs
waits_held bound ix iy iz [] from = refl
waits_held bound ix iy iz (a ∷ cs) from =
    sum_by-cons (holds_place ix iy iz) (record { bound = bound a; place = from; area = a }) (waits_from bound (from + 1) cs)
    ∙ ap (λ n. cond {A = ℕ} (contains a ix iy iz) 1 0 + n) (waits_held bound ix iy iz cs (from + 1))
    ∙ sym (sum_by-cons (λ c. cond {A = ℕ} (contains c ix iy iz) 1 0) a cs)

-- the boxes that will be met below them
pub waits_left : (bound judge : NodeBox → ℕ) (t : ℕ) (cs : List NodeBox) (from : ℕ)
    → sum_by (left_below judge t) (waits_from bound from cs) ≡ sum_by (below judge t) cs
waits_left bound judge t [] from = refl
waits_left bound judge t (a ∷ cs) from =
    sum_by-cons (left_below judge t) (record { bound = bound a; place = from; area = a }) (waits_from bound (from + 1) cs)
    ∙ ap (λ n. below judge t a + n) (waits_left bound judge t cs (from + 1))
    ∙ sym (sum_by-cons (below judge t) a cs)

-- what a box that was opened has
pub match_map : (o : Option ℕ) (P Q : Type 0) → (P → Q) → MatchOption o (Unit {0}) (λ _. P) → MatchOption o (Unit {0}) (λ _. Q)
match_map None P Q f has = tt
match_map (Some k) P Q f has = f has

match_given : (o : Option ℕ) (P : Type 0) → P → MatchOption o (Unit {0}) (λ _. P)
match_given None P p = tt
match_given (Some k) P p = p

-- where a box was opened, what holds of all opened boxes holds of it, and of those that were opened before
pub opened_also : (P : NodeBox → Type 0) (met more : List Met) (top : Waiting) (first : ℕ) (new : List Met)
    → IsOpened (met ++ more) top.place first new → top.place < length met
    → ((d : NodeBox) → get_or (areas_met met) top.place d ≡ top.area) → AllOpened P new → P top.area
opened_also P met more top first new o within there all =
    let d : Met = record { area = top.area; bound = 0; first_child = None } in
    let old : get_or (met ++ more) top.place d ≡ get_or met top.place d = get_or_append_left met more d top.place within in
    let is : get_or new top.place d ≡ record (get_or met top.place d) { first_child = Some first } =
    o.here d ∙ ap (λ (m : Met). record m { first_child = Some first }) old in
    let area : (get_or met top.place d).area ≡ top.area = area_at met top.place d within ∙ there top.area in
    let has : MatchOption (get_or new top.place d).first_child (Unit {0}) (λ _. P (get_or new top.place d).area) =
    all top.place d (omega (arith, within, o.same_length, length-append {A = Met} met more)) in
    let held : P (get_or met top.place d).area =
    subst (λ (m : Met). MatchOption m.first_child (Unit {0}) (λ _. P m.area)) is has in
    subst P area held

pub opened_before : (P : NodeBox → Type 0) (met more : List Met) (top : Waiting) (first : ℕ) (new : List Met)
    → IsOpened (met ++ more) top.place first new → top.place < length met
    → ((d : NodeBox) → get_or (areas_met met) top.place d ≡ top.area) → AllOpened P new → AllOpened P met
opened_before P met more top first new o within there all i d below' = elim (cases_eq i top.place) [
  | inl here ↦
      let area : (get_or met i d).area ≡ top.area =
      area_at met i d below' ∙ ap (λ k. get_or (areas_met met) k d.area) here ∙ there d.area in
      match_given (get_or met i d).first_child (P (get_or met i d).area)
      (subst P (sym area) (opened_also P met more top first new o within there all))
  | inr other ↦
      let is : get_or new i d ≡ get_or met i d = o.others i d other ∙ get_or_append_left met more d i below' in
      subst (λ (m : Met). MatchOption m.first_child (Unit {0}) (λ _. P m.area)) is
      (all i d (omega (arith, below', o.same_length, length-append {A = Met} met more)))
]

-- and the other way: what holds of all boxes that were opened before, and of the one that is opened, holds of all
pub opened_after : (P : NodeBox → Type 0) (met : List Met) (bound : NodeBox → ℕ) (cs : List NodeBox) (top : Waiting) (first : ℕ) (new : List Met)
    → IsOpened (met ++ map (fresh bound) cs) top.place first new → top.place < length (areas_met met)
    → ((d : NodeBox) → get_or (areas_met met) top.place d ≡ top.area) → AllOpened P met → P top.area → AllOpened P new
opened_after P met bound cs top first new o within there all here i d below' = elim (cases_eq i top.place) [
  | inl same ↦
      let long : i < length met = omega (arith, same, within, length-map met (λ (m : Met). m.area)) in
      let is : get_or new i d ≡ record (get_or (met ++ map (fresh bound) cs) i d) { first_child = Some first } =
      ap (λ k. get_or new k d) same ∙ o.here d ∙ ap (λ k. record (get_or (met ++ map (fresh bound) cs) k d) { first_child = Some first }) (sym same) in
      let area : (get_or (met ++ map (fresh bound) cs) i d).area ≡ top.area =
      ap (λ (m : Met). m.area) (get_or_append_left met (map (fresh bound) cs) d i long) ∙ area_at met i d long
      ∙ ap (λ k. get_or (areas_met met) k d.area) same ∙ there d.area in
      subst (λ (m : Met). MatchOption m.first_child (Unit {0}) (λ _. P m.area)) (sym is) (subst P (sym area) here)
  | inr other ↦ subst (λ (m : Met). MatchOption m.first_child (Unit {0}) (λ _. P m.area)) (sym (o.others i d other))
      (elim (cases_lt i (length met)) [
        | inl old ↦ subst (λ (m : Met). MatchOption m.first_child (Unit {0}) (λ _. P m.area)) (sym (get_or_append_left met (map (fresh bound) cs) d i old)) (all i d old)
        | inr more ↦
            let within' : i - length met < length cs =
            omega (arith, more, below', o.same_length, length-append {A = Met} met (map (fresh bound) cs), length-map cs (fresh bound)) in
            let is : get_or (met ++ map (fresh bound) cs) i d ≡ fresh bound (get_or cs (i - length met) d.area) =
            get_or-append_right met (map (fresh bound) cs) i d more ∙ fresh_at bound cs (i - length met) d within' in
            subst (λ (m : Met). MatchOption m.first_child (Unit {0}) (λ _. P m.area)) (sym is) tt
      ])
]

module _ (g : GridSize) (roots : List NodeBox) (budget : ℕ) where
  -- the same boxes in another order
  pub bag_moved : (met : List Met) (boxes now : List Waiting) → IsPermutation boxes now → IsBagOf g roots budget met boxes
      → IsBagOf g roots budget met now
  bag_moved met boxes now swaps bag = record {
    within = bag.within;
    arena = arena_permuted roots met boxes now swaps bag.arena;
    once = λ ix iy iz inside some.
        sum_by-IsPermutation (holds_place ix iy iz) boxes now swaps ∙ bag.once ix iy iz inside some;
    first = bag.first;
    count = λ judge t some opened'.
        let same = sum_by-IsPermutation (left_below judge t) boxes now swaps in
        let was = bag.count judge t some opened' in
        omega (arith, same, was);
  }

  -- a box was opened, and its children were met
  pub bag_opened : (bound : NodeBox → ℕ) (met : List Met) (top : Waiting) (rest : List Waiting) (new : List Met)
      → AreRoots g roots → is_single top.area ≡ false → length met + length (children_of top.area) ≤ budget
      → IsOpened (met ++ map (fresh bound) (children_of top.area)) top.place (length met) new
      → IsBagOf g roots budget met (top ∷ rest)
      → IsBagOf g roots budget new (waits_from bound (length met) (children_of top.area) ++ rest)
  bag_opened bound met top rest new are several few o bag =
      let children : List NodeBox = children_of top.area in
      let more : List Waiting = waits_from bound (length met) children in
      let top_is = bag.arena.queued 0 top (omega arith) in
      let some : IsNonempty top.area = in_nonempty g top.area (octree_inside g roots top.area are top_is.tree) in
      let two = children_count top.area (record { nonempty = some; several = several }) in
      let some_children : 1 ≤ length children = omega (arith, two.0) in
      let trees = octree_children roots top.area top_is.tree several children (λ b at. at) in
      let long : length (areas_met met) ≡ length met = length-map met (λ (m : Met). m.area) in
      let within : top.place < length met = omega (arith, top_is.within, long) in
      let areas : areas_met (met ++ map (fresh bound) children) ≡ areas_met met ++ children = areas_more bound met children in
      let seam : drop (length met) (areas_met met ++ children) ≡ children =
      ap (λ k. drop k (areas_met met ++ children)) (sym long) ∙ drop-append_seam (areas_met met) children in
      let linked : IsLinked (areas_met (met ++ map (fresh bound) children)) top.area (length met) =
      ap (λ all. take (length children) (drop (length met) all)) areas ∙ ap (λ all. take (length children) all) seam ∙ take-length children in
      let in_front = arena_permuted roots (met ++ map (fresh bound) children) (more ++ top ∷ rest) (top ∷ (more ++ rest))
      (IsPermutation-middle more top rest) (arena_more roots bound met (top ∷ rest) children trees bag.arena) in
      let many : length new ≡ length met + length children =
      omega (arith, o.same_length, length-append {A = Met} met (map (fresh bound) children), length-map children (fresh bound)) in
      let began : 0 < length met = omega (arith, within) in
      record {
        within = omega (arith, many, few);
        arena = arena_opened roots (met ++ map (fresh bound) children) top (more ++ rest) (length met) new in_front o several some_children linked;
        once = λ ix iy iz inside _.
            let was = bag.once ix iy iz inside began in
            let parted = sum_by-append (holds_place ix iy iz) more rest in
            let held = waits_held bound ix iy iz children (length met) in
            let one = children_once top.area ix iy iz some in
            let front = sum_by-cons (holds_place ix iy iz) top rest in
            omega (arith, was, parted, held, one, front);
        first = λ _.
            let is = bag.first began in
            let few' : length (take (length roots) (areas_met met)) ≡ length roots = ap length is in
            let long' : length roots ≤ length (areas_met met) = omega (arith, few', length-take (length roots) (areas_met met)) in
            ap (λ all. take (length roots) all) (o.same_areas ∙ areas) ∙ take-append-le (length roots) (areas_met met) children long' ∙ is;
        count = λ judge t _ all.
            let opens = opened_also (λ a. stops judge t a ≡ false) met (map (fresh bound) children) top (length met) new o within top_is.there all in
            let before = opened_before (λ a. stops judge t a ≡ false) met (map (fresh bound) children) top (length met) new o within top_is.there all in
            let was = bag.count judge t began before in
            let below_top = below_open judge t top.area some opens in
            omega (
              arith,
              was,
              below_top,
              many,
              sum_by-append (left_below judge t) more rest,
              sum_by-cons (left_below judge t) top rest,
              waits_left bound judge t children (length met),
              sum_ones (below judge t) children,
            );
      }
