-- How a search goes on: what holds before and after each box that is opened, and when it ends.
use Rattle.std.proofs.Common.{◌≡◌, inl, inr, ℕ, zero, suc, ◌+◌, ◌≤◌, ◌<◌, arith, true, false, List, [], ◌∷◌, ◌++◌, length, map, take, drop, get_or, max, refl, ap, sym, ◌∙◌, subst, sum_by, Contains, All}
use Rattle.std.specs.Prelude.{nat_lt}
use Rattle.std.specs.List.{AllByRecursion}
use Rattle.std.specs.List.Sorted.{IsPermutation}
use Rattle.std.proofs.Math.Seq.{take-length, drop-append_seam}
use Rattle.std.proofs.lemmas.Bool.{cases_lt}
use Rattle.std.proofs.lemmas.Bool.Decides.{nat_tests}
use Rattle.std.proofs.lemmas.List.{length-append, length-map, length-take, take-append-le}
use Rattle.std.proofs.lemmas.List.Elements.{All-from_recursion, recursion_from_All}
use Rattle.std.proofs.lemmas.List.Sorted.{All-permutation, IsPermutation-sym, IsPermutation-middle, sum_by-IsPermutation}
use Rattle.std.proofs.lemmas.List.Sums.{sum_by-cons, sum_by-append}
use Rattle.node_boxes.specs.declared.node_box.NodeBox.{NodeBox}
use Rattle.node_boxes.specs.Grid.{GridSize}
use Rattle.node_boxes.specs.Boxes.{IsNonempty, IsSplittable, is_single}
use Rattle.node_boxes.specs.Children.{children_of}
use Rattle.node_boxes.specs.Roots.{AreRoots}
use Rattle.node_boxes.specs.Octree.{IsOctreeBox, Root}
use Rattle.node_boxes.proofs.OctreeBoxes.{octree_inside, in_nonempty}
use Rattle.edt_score.specs.Judging.{BoundsFall}
use Rattle.octree_search.specs.declared.arena.Met.{Met}
use Rattle.octree_search.specs.declared.queue.Waiting.{Waiting}
use Rattle.octree_search.specs.Cover.{threshold_of, stops, below}
use Rattle.octree_search.specs.Near.{best_of}
use Rattle.octree_search.specs.Outcomes.{event_threshold, event_met}
use Rattle.octree_search.specs.Arena.{areas_met, fresh, waiting, IsLinked, IsOpened, IsExplored}
use Rattle.octree_search.specs.Inside.Meeting.{best_after, waits}
use Rattle.octree_search.proofs.Choices.{by_test, neither, or_second}
use Rattle.octree_search.proofs.Arenas.{areas_more}
use Rattle.octree_search.proofs.Covers.{below_open, below_stop}
use Rattle.octree_search.proofs.Frontiers.{IsQueued, IsFrontier, frontier_permuted, frontier_more, frontier_opened, state_map}
use Rattle.octree_search.proofs.Meetings.{best_after-le, best_after-up, left_waits, few_waits, waits_under}
use Rattle.octree_search.proofs.Scores.{IsUnder, best_below, dominated, octree_children, under_children}
use Rattle.octree_search.proofs.Thresholds.{threshold_some, threshold_up, threshold_le}

-- no node of a box that waits scores more than u
abbrev pub IsWaitUnder : (NodeBox → ℕ) → ℕ → Waiting → Type 0
IsWaitUnder bound u w = IsUnder bound w.area u

-- how many boxes will be met below a box that waits
abbrev pub left_of : (NodeBox → ℕ) → ℕ → Waiting → ℕ
left_of bound t w = below bound t w.area

-- and that number with the box itself
abbrev pub work_of : (NodeBox → ℕ) → ℕ → Waiting → ℕ
work_of bound t w = 1 + below bound t w.area

pub record Goes (g : GridSize) (roots : List NodeBox) (bound : NodeBox → ℕ) (margin : ℕ) (met : List Met) (queue : List Waiting) (best : ℕ) : Type 0 where
  pub frontier : IsFrontier roots bound (event_threshold g bound margin) met queue
  pub best_low : best ≤ best_of g bound
  pub caps : (u : ℕ) → best ≤ u → All (IsWaitUnder bound u) queue → best_of g bound ≤ u
  pub count : length met + sum_by (left_of bound (event_threshold g bound margin)) queue ≡ event_met g roots bound margin
  pub first : take (length roots) (areas_met met) ≡ roots

-- each root is an octree box
pub root_trees : (roots : List NodeBox) (areas : List NodeBox) → ((b : NodeBox) → Contains areas b → Contains roots b)
    → AllByRecursion (IsOctreeBox roots) areas
root_trees roots [] within = tt
root_trees roots (a ∷ areas) within =
    (Root a (within a (0, omega arith, refl)), root_trees roots areas (λ b (k, below', is). within b (suc k, omega arith, is)))

-- a sum of numbers that are all one more
pub sum_ones : {X : Type 0} (f : X → ℕ) (xs : List X) → sum_by (λ x. 1 + f x) xs ≡ length xs + sum_by f xs
sum_ones f [] = refl
sum_ones f (x ∷ xs) = omega (arith, sum_by-cons (λ y. 1 + f y) x xs, sum_by-cons f x xs, sum_ones f xs)

-- a sum of zeros
pub sum_zeros : {X : Type 0} (f : X → ℕ) (xs : List X) → AllByRecursion (λ x. f x ≡ 0) xs → sum_by f xs ≡ 0
sum_zeros f [] all = refl
sum_zeros f (x ∷ xs) (here, all) = omega (arith, sum_by-cons f x xs, here, sum_zeros f xs all)

-- what holds of all that wait holds of the first ones and of the others
pub front_under : (bound : NodeBox → ℕ) (u : ℕ) (front back : List Waiting) → All (IsWaitUnder bound u) (front ++ back) → AllByRecursion (IsWaitUnder bound u) front
front_under bound u [] back all = tt
front_under bound u (w ∷ front) back all = (all 0 w (omega arith), front_under bound u front back (λ k d below'. all (suc k) d (omega (arith, below'))))

pub back_under : (bound : NodeBox → ℕ) (u : ℕ) (front back : List Waiting) → All (IsWaitUnder bound u) (front ++ back) → AllByRecursion (IsWaitUnder bound u) back
back_under bound u [] back all = recursion_from_All (IsWaitUnder bound u) back all
back_under bound u (w ∷ front) back all = back_under bound u front back (λ k d below'. all (suc k) d (omega (arith, below')))

module _ (g : GridSize) (roots : List NodeBox) (bound : NodeBox → ℕ) (margin : ℕ) (are : AreRoots g roots) (falls : BoundsFall g roots bound) where
  -- the threshold of a best score that is known
  known_low : (areas : List NodeBox) (best : ℕ) → best ≤ best_of g bound → AllByRecursion (IsOctreeBox roots) areas
      → threshold_of margin (best_after bound best areas) ≤ event_threshold g bound margin
  known_low areas best low trees = threshold_up margin (best_after bound best areas) (best_of g bound) (best_after-le margin g roots bound are areas best low trees)

  -- after the roots were met
  pub goes_start : (met : List Met) (queue : List Waiting) (best : ℕ) → met ≡ map (fresh bound) roots
      → IsPermutation (waits margin bound 0 0 roots ++ []) queue → best ≡ best_after bound 0 roots → Goes g roots bound margin met queue best
  goes_start met queue best met_is swaps best_is =
      let trees = root_trees roots roots (λ b at. at) in
      let low : best_after bound 0 roots ≤ best_of g bound = best_after-le margin g roots bound are roots 0 (omega arith) trees in
      subst (λ b. Goes g roots bound margin met queue b) (sym best_is) (subst (λ m. Goes g roots bound margin m queue (best_after bound 0 roots)) (sym met_is) (record {
        frontier = frontier_permuted roots bound (event_threshold g bound margin) (map (fresh bound) roots) (waits margin bound 0 0 roots ++ []) queue swaps
            (frontier_more roots margin bound (event_threshold g bound margin) [] [] roots 0 trees (known_low roots 0 (omega arith) trees) (record {
              entries = λ i d below'. absurd (omega (arith, below'));
              queued = λ k d below'. absurd (omega (arith, below'));
            }));
        best_low = low;
        caps = λ u above under. best_below g roots bound u are
            (waits_under margin g roots bound are falls roots 0 0 u trees above (front_under bound u (waits margin bound 0 0 roots) []
            (All-permutation (IsWaitUnder bound u) queue (waits margin bound 0 0 roots ++ []) (IsPermutation-sym (waits margin bound 0 0 roots ++ []) queue swaps) under)));
        count =
            let moved = sum_by-IsPermutation (left_of bound (event_threshold g bound margin)) (waits margin bound 0 0 roots ++ []) queue swaps in
            let parted = sum_by-append (left_of bound (event_threshold g bound margin)) (waits margin bound 0 0 roots) [] in
            let left = left_waits margin bound (event_threshold g bound margin) roots 0 0 (known_low roots 0 (omega arith) trees) in
            omega (arith, moved, parted, left, length-map roots (fresh bound), sum_ones (below bound (event_threshold g bound margin)) roots);
        first = let areas : areas_met (map (fresh bound) roots) ≡ roots = areas_more bound [] roots in rw areas (take-length roots);
      }))

  -- after a box that waited was opened
  pub goes_opened : (met : List Met) (queue rest : List Waiting) (best : ℕ) (top : Waiting) (new : List Met) (now : List Waiting) (better : ℕ)
      → Goes g roots bound margin met queue best → IsPermutation queue (top ∷ rest) → stops bound (event_threshold g bound margin) top.area ≡ false
      → IsOpened (met ++ map (fresh bound) (children_of top.area)) top.place (length met) new
      → IsPermutation (waits margin bound best (length met) (children_of top.area) ++ rest) now
      → better ≡ best_after bound best (children_of top.area)
      → Goes g roots bound margin new now better
  goes_opened met queue rest best top new now better goes pops open' opened swaps better_is =
      let threshold : ℕ = event_threshold g bound margin in
      let children : List NodeBox = children_of top.area in
      let more : List Waiting = waits margin bound best (length met) children in
      let popped = frontier_permuted roots bound threshold met queue (top ∷ rest) pops goes.frontier in
      let top_is = popped.queued 0 top (omega arith) in
      let some : IsNonempty top.area = in_nonempty g top.area (octree_inside g roots top.area are top_is.tree) in
      let trees = octree_children roots top.area top_is.tree top_is.several children (λ b at. at) in
      let low = best_after-le margin g roots bound are children best goes.best_low trees in
      let known = known_low children best goes.best_low trees in
      let long : length (areas_met met) ≡ length met = length-map met (λ (m : Met). m.area) in
      let areas : areas_met (met ++ map (fresh bound) children) ≡ areas_met met ++ children = areas_more bound met children in
      let seam : drop (length met) (areas_met met ++ children) ≡ children =
      ap (λ k. drop k (areas_met met ++ children)) (sym long) ∙ drop-append_seam (areas_met met) children in
      let linked : IsLinked (areas_met (met ++ map (fresh bound) children)) top.area (length met) =
      ap (λ all. take (length children) (drop (length met) all)) areas ∙ ap (λ all. take (length children) all) seam ∙ take-length children in
      let waiting_more = frontier_more roots margin bound threshold met (top ∷ rest) children best trees known popped in
      let in_front = frontier_permuted roots bound threshold (met ++ map (fresh bound) children) (more ++ top ∷ rest) (top ∷ (more ++ rest))
      (IsPermutation-middle more top rest) waiting_more in
      let below_top : below bound threshold top.area ≡ sum_by (λ c. 1 + below bound threshold c) children = below_open bound threshold top.area some open' in
      subst (λ b. Goes g roots bound margin new now b) (sym better_is) (record {
        frontier = frontier_permuted roots bound threshold new (more ++ rest) now swaps
            (frontier_opened roots bound threshold (met ++ map (fresh bound) children) top (more ++ rest) (length met) new in_front opened open' linked);
        best_low = low;
        caps = λ u above under.
            let all = All-permutation (IsWaitUnder bound u) now (more ++ rest) (IsPermutation-sym (more ++ rest) now swaps) under in
            let known_under = waits_under margin g roots bound are falls children best (length met) u trees above (front_under bound u more rest all) in
            let top_under : IsUnder bound top.area u = under_children bound top.area u some known_under in
            let up : best ≤ u = omega (arith, above, best_after-up margin bound best children) in
            goes.caps u up (All-permutation (IsWaitUnder bound u) (top ∷ rest) queue (IsPermutation-sym queue (top ∷ rest) pops)
            (All-from_recursion (IsWaitUnder bound u) (top ∷ rest) (top_under, back_under bound u more rest all)));
        count =
            let before = sum_by-IsPermutation (left_of bound threshold) queue (top ∷ rest) pops in
            let after = sum_by-IsPermutation (left_of bound threshold) (more ++ rest) now swaps in
            let parted = sum_by-append (left_of bound threshold) more rest in
            let left = left_waits margin bound threshold children best (length met) known in
            omega (
              arith,
              goes.count,
              before,
              after,
              parted,
              left,
              below_top,
              sum_by-cons (left_of bound threshold) top rest,
              opened.same_length,
              length-append {A = Met} met (map (fresh bound) children),
              length-map children (fresh bound),
              sum_ones (below bound threshold) children,
            );
        first =
            let many : length (take (length roots) (areas_met met)) ≡ length roots = ap length goes.first in
            let within : length roots ≤ length (areas_met met) = omega (arith, many, length-take (length roots) (areas_met met)) in
            ap (λ all. take (length roots) all) (opened.same_areas ∙ areas) ∙ take-append-le (length roots) (areas_met met) children within ∙ goes.first;
      })

  -- what is left to do gets less with each box that is opened
  pub work_less : (met : List Met) (queue rest : List Waiting) (best : ℕ) (top : Waiting) (now : List Waiting)
      → Goes g roots bound margin met queue best → IsPermutation queue (top ∷ rest) → stops bound (event_threshold g bound margin) top.area ≡ false
      → IsPermutation (waits margin bound best (length met) (children_of top.area) ++ rest) now
      → sum_by (work_of bound (event_threshold g bound margin)) now < sum_by (work_of bound (event_threshold g bound margin)) queue
  work_less met queue rest best top now goes pops open' swaps =
      let threshold : ℕ = event_threshold g bound margin in
      let children : List NodeBox = children_of top.area in
      let more : List Waiting = waits margin bound best (length met) children in
      let popped = frontier_permuted roots bound threshold met queue (top ∷ rest) pops goes.frontier in
      let top_is = popped.queued 0 top (omega arith) in
      let some : IsNonempty top.area = in_nonempty g top.area (octree_inside g roots top.area are top_is.tree) in
      let trees = octree_children roots top.area top_is.tree top_is.several children (λ b at. at) in
      let known = known_low children best goes.best_low trees in
      let below_top : below bound threshold top.area ≡ sum_by (λ c. 1 + below bound threshold c) children = below_open bound threshold top.area some open' in
      omega (
        arith,
        below_top,
        sum_by-IsPermutation (work_of bound threshold) queue (top ∷ rest) pops,
        sum_by-IsPermutation (work_of bound threshold) (more ++ rest) now swaps,
        sum_by-append (work_of bound threshold) more rest,
        sum_by-cons (work_of bound threshold) top rest,
        sum_ones (left_of bound threshold) more,
        sum_ones (below bound threshold) children,
        left_waits margin bound threshold children best (length met) known,
        few_waits margin bound children best (length met),
      )

  -- a box has to be opened where its bound reaches the threshold of the greater of its bound and the best score known
  pub opens : (met : List Met) (queue rest : List Waiting) (best : ℕ) (top : Waiting) → Goes g roots bound margin met queue best
      → IsPermutation queue (top ∷ rest) → All (λ (w : Waiting). w.bound ≤ top.bound) rest
      → threshold_of margin (max best top.bound) ≤ top.bound → stops bound (event_threshold g bound margin) top.area ≡ false
  opens met queue rest best top goes pops greatest high =
      let popped = frontier_permuted roots bound (event_threshold g bound margin) met queue (top ∷ rest) pops goes.frontier in
      let top_is = popped.queued 0 top (omega arith) in
      let capped : best_of g bound ≤ max best top.bound =
      goes.caps (max best top.bound) (omega arith) (All-permutation (IsWaitUnder bound (max best top.bound)) (top ∷ rest) queue (IsPermutation-sym queue (top ∷ rest) pops)
      (λ k d below' ix iy iz at.
      let is = popped.queued k d below' in
      let under = dominated g roots bound are falls (get_or (top ∷ rest) k d).area is.tree ix iy iz at in
      let less : (get_or (top ∷ rest) k d).bound ≤ top.bound = all_below top rest greatest k d below' in
      omega (arith, under, is.bound_is, less))) in
      let up = threshold_up margin (best_of g bound) (max best top.bound) capped in
      stops_not top.area top_is.several (omega (arith, up, high, top_is.bound_is))
    where
      all_below : (top : Waiting) (rest : List Waiting) → All (λ (w : Waiting). w.bound ≤ top.bound) rest
          → (k : ℕ) (d : Waiting) → k < length (top ∷ rest) → (get_or (top ∷ rest) k d).bound ≤ top.bound
      all_below top rest greatest zero d below' = omega arith
      all_below top rest greatest (suc k) d below' = greatest k d (omega (arith, below'))

      stops_not : (a : NodeBox) → is_single a ≡ false → event_threshold g bound margin ≤ bound a → stops bound (event_threshold g bound margin) a ≡ false
      stops_not a several high =
          let far : nat_lt (bound a) (event_threshold g bound margin) ≡ false = grind (arith, nat_tests) in rw (several, far) refl

  -- a box that waits and can't hold a better or a near node
  pub record IsLow (best : ℕ) (w : Waiting) : Type 0 where
    pub under : w.bound ≤ best
    pub below_threshold : w.bound < threshold_of margin best

  -- the search ends where all that wait are so
  pub goes_ends : (met : List Met) (queue : List Waiting) (best : ℕ) → Goes g roots bound margin met queue best → All (IsLow best) queue
      → IsExplored g roots bound margin met best
  goes_ends met queue best goes low =
      let capped : best_of g bound ≤ best =
      goes.caps best (omega arith) (λ k d below' ix iy iz at.
      let is = goes.frontier.queued k d below' in
      let under = dominated g roots bound are falls (get_or queue k d).area is.tree ix iy iz at in
      let less = low k d below' in omega (arith, under, is.bound_is, less.under)) in
      let best_is : best ≡ best_of g bound = omega (arith, capped, goes.best_low) in
      let stop : (k : ℕ) (d : Waiting) → k < length queue → stops bound (event_threshold g bound margin) (get_or queue k d).area ≡ true = λ k d below'.
      let is = goes.frontier.queued k d below' in
      let less = low k d below' in
      stops_low (get_or queue k d).area (subst (λ n. n < event_threshold g bound margin) is.bound_is (subst (λ b. (get_or queue k d).bound < threshold_of margin b) best_is less.below_threshold)) in
      record {
        best_is = best_is;
        tree = λ i d below'. let entry = goes.frontier.entries i d below' in record {
          area = in_nonempty g (get_or met i d).area (octree_inside g roots (get_or met i d).area are entry.tree);
          linked = state_map (get_or met i d).first_child _ _ _ _ (λ _. tt)
              (λ k linked. ((neither (is_single (get_or met i d).area) _ linked.0).0, linked.1)) entry.state;
        };
        settled = λ i d below'. let entry = goes.frontier.entries i d below' in
            state_map (get_or met i d).first_child _ _ _ _
            (λ has. (entry.bound_is, settled_by i (get_or met i d).area has stop)) (λ k linked. linked.0) entry.state;
        count =
            let none = sum_zeros (left_of bound (event_threshold g bound margin)) queue
            (recursion_from_All (λ w. left_of bound (event_threshold g bound margin) w ≡ 0) queue
            (λ k d below'. below_stop bound (event_threshold g bound margin) (get_or queue k d).area (stop k d below'))) in
            omega (arith, goes.count, none);
        first = goes.first;
      }
    where
      stops_low : (a : NodeBox) → bound a < event_threshold g bound margin → stops bound (event_threshold g bound margin) a ≡ true
      stops_low a less = or_second (is_single a) (nat_lt (bound a) (event_threshold g bound margin)) (grind (arith, nat_tests))

      settled_by : (i : ℕ) (a : NodeBox) → (stops bound (event_threshold g bound margin) a ≡ false → Contains queue (waiting bound i a))
          → ((k : ℕ) (d : Waiting) → k < length queue → stops bound (event_threshold g bound margin) (get_or queue k d).area ≡ true)
          → stops bound (event_threshold g bound margin) a ≡ true
      settled_by i a has stop = elim (by_test (stops bound (event_threshold g bound margin) a)) [
        | inl is ↦ is
        | inr go ↦
            let at = has go in
            let same : get_or queue at.0 (waiting bound i a) ≡ waiting bound i a = at.2 in
            subst (λ (w : Waiting). stops bound (event_threshold g bound margin) w.area ≡ true) same (stop at.0 (waiting bound i a) at.1)
      ]

  -- all that wait are low where none has a greater bound than one that is below the threshold of the greater of its bound and the best score
  pub all_low : (rest : List Waiting) (best : ℕ) (top : Waiting) → All (λ (w : Waiting). w.bound ≤ top.bound) rest
      → top.bound < threshold_of margin (max best top.bound) → All (IsLow best) (top ∷ rest)
  all_low rest best top greatest closed k d below' = low_by (get_or (top ∷ rest) k d) (all_within k d below')
    where
      all_within : (k : ℕ) (d : Waiting) → k < length (top ∷ rest) → (get_or (top ∷ rest) k d).bound ≤ top.bound
      all_within zero d below' = omega arith
      all_within (suc k) d below' = greatest k d (omega (arith, below'))

      low_by : (w : Waiting) → w.bound ≤ top.bound → IsLow best w
      low_by w within = elim (cases_lt top.bound best) [
        | inl less ↦
            let most : max best top.bound ≡ best = omega (arith, less) in
            let under : top.bound < threshold_of margin best = subst (λ b. top.bound < threshold_of margin b) most closed in
            record { under = omega (arith, within, less); below_threshold = omega (arith, within, under) }
        | inr more ↦
            let most : max best top.bound ≡ top.bound = omega (arith, more) in
            let under : top.bound < threshold_of margin top.bound = subst (λ b. top.bound < threshold_of margin b) most closed in
            let none : top.bound ≡ 0 = omega (arith, under, threshold_le margin top.bound) in
            record { under = omega (arith, within, none); below_threshold = omega (arith, within, none, threshold_some margin best) }
      ]

  -- more boxes are met than the budget allows where the children of a box that has to be opened are too many
  pub past_budget : (met : List Met) (queue rest : List Waiting) (best budget : ℕ) (top : Waiting) → Goes g roots bound margin met queue best
      → IsPermutation queue (top ∷ rest) → stops bound (event_threshold g bound margin) top.area ≡ false
      → budget < length met + length (children_of top.area) → budget < event_met g roots bound margin
  past_budget met queue rest best budget top goes pops open' past =
      let threshold : ℕ = event_threshold g bound margin in
      let popped = frontier_permuted roots bound threshold met queue (top ∷ rest) pops goes.frontier in
      let top_is = popped.queued 0 top (omega arith) in
      let some : IsNonempty top.area = in_nonempty g top.area (octree_inside g roots top.area are top_is.tree) in
      let below_top : below bound threshold top.area ≡ sum_by (λ c. 1 + below bound threshold c) (children_of top.area) = below_open bound threshold top.area some open' in
      omega (
        arith,
        past,
        goes.count,
        below_top,
        sum_by-IsPermutation (left_of bound threshold) queue (top ∷ rest) pops,
        sum_by-cons (left_of bound threshold) top rest,
        sum_ones (below bound threshold) (children_of top.area),
      )

  -- the first box that waits, when it is taken out
  pub top_queued : (met : List Met) (queue rest : List Waiting) (best : ℕ) (top : Waiting) → Goes g roots bound margin met queue best
      → IsPermutation queue (top ∷ rest) → IsQueued roots bound (areas_met met) top
  top_queued met queue rest best top goes pops =
      (frontier_permuted roots bound (event_threshold g bound margin) met queue (top ∷ rest) pops goes.frontier).queued 0 top (omega arith)

  pub top_splittable : (met : List Met) (queue rest : List Waiting) (best : ℕ) (top : Waiting) → Goes g roots bound margin met queue best
      → IsPermutation queue (top ∷ rest) → IsSplittable top.area
  top_splittable met queue rest best top goes pops =
      let is = top_queued met queue rest best top goes pops in
      record { nonempty = in_nonempty g top.area (octree_inside g roots top.area are is.tree); several = is.several }

  pub top_within : (met : List Met) (queue rest : List Waiting) (best : ℕ) (top : Waiting) → Goes g roots bound margin met queue best
      → IsPermutation queue (top ∷ rest) → top.place < length met
  top_within met queue rest best top goes pops =
      let is = top_queued met queue rest best top goes pops in omega (arith, is.within, length-map met (λ (m : Met). m.area))

  -- the search ends at a box that is low, and else opens it
  pub ends_low : (met : List Met) (queue rest : List Waiting) (best : ℕ) (top : Waiting) → Goes g roots bound margin met queue best
      → IsPermutation queue (top ∷ rest) → All (λ (w : Waiting). w.bound ≤ top.bound) rest
      → nat_lt top.bound (threshold_of margin (max best top.bound)) ≡ true → IsExplored g roots bound margin met best
  ends_low met queue rest best top goes pops greatest low =
      let closed : top.bound < threshold_of margin (max best top.bound) = grind (arith, nat_tests) in
      goes_ends met queue best goes (All-permutation (IsLow best) (top ∷ rest) queue (IsPermutation-sym queue (top ∷ rest) pops)
      (all_low rest best top greatest closed))

  pub opens_high : (met : List Met) (queue rest : List Waiting) (best : ℕ) (top : Waiting) → Goes g roots bound margin met queue best
      → IsPermutation queue (top ∷ rest) → All (λ (w : Waiting). w.bound ≤ top.bound) rest
      → nat_lt top.bound (threshold_of margin (max best top.bound)) ≡ false → stops bound (event_threshold g bound margin) top.area ≡ false
  opens_high met queue rest best top goes pops greatest high =
      let open' : threshold_of margin (max best top.bound) ≤ top.bound = grind (arith, nat_tests) in
      opens met queue rest best top goes pops greatest open'

  -- or where none waits
  pub ends_empty : (met : List Met) (queue : List Waiting) (best : ℕ) → Goes g roots bound margin met queue best → queue ≡ []
      → IsExplored g roots bound margin met best
  ends_empty met queue best goes empty =
      goes_ends met queue best goes (subst (All (IsLow best)) (sym empty) (λ k d below'. absurd (omega (arith, below'))))

-- or where the roots are
pub past_roots : (g : GridSize) (roots : List NodeBox) (bound : NodeBox → ℕ) (margin budget : ℕ) → budget < length roots
    → budget < event_met g roots bound margin
past_roots g roots bound margin budget past = omega (arith, past, sum_ones (below bound (event_threshold g bound margin)) roots)
