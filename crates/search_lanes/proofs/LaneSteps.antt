-- What each kind of event makes of lanes: the state, what always holds, and that a judge still fits.
use Rattle.std.proofs.Common.{◌≡◌, ◌≢◌, inl, inr, ℕ, ◌+◌, ◌≤◌, ◌<◌, arith, Bool, true, false, not, List, [], ◌∷◌, ◌++◌, length, map, ap, sym, ◌∙◌, subst, All, refl}
use Rattle.std.specs.Prelude.{if◌then◌else◌, ◌==◌, nat_lt, Option, Some, None, set, slice_get, option_and_then, option_map, max}
use Rattle.std.specs.List.{AllByRecursion, remove}
use Rattle.std.specs.List.Sorted.{IsPermutation}
use Rattle.std.proofs.lemmas.Bool.Decides.{nat_tests}
use Rattle.std.proofs.lemmas.List.{append-nil, length-append, length-map, map-append, map-set}
use Rattle.std.proofs.lemmas.Option.{slice_get-map}
use Rattle.node_boxes.specs.declared.node_box.NodeBox.{NodeBox}
use Rattle.node_boxes.specs.declared.node_box.BoxBound.{BoxBound}
use Rattle.node_boxes.specs.Boxes.{IsSplittable}
use Rattle.node_boxes.specs.Children.{children_of}
use Rattle.node_boxes.specs.Grid.{GridSize}
use Rattle.node_boxes.specs.Octree.{IsOctreeBox}
use Rattle.node_boxes.proofs.OctreeBoxes.{octree_inside, in_nonempty}
use Rattle.edt_score.specs.Judging.{BoundsFall}
use Rattle.octree_search.specs.declared.arena.Met.{Met}
use Rattle.octree_search.specs.declared.queue.Waiting.{Waiting}
use Rattle.octree_search.specs.Arena.{fresh, IsOpened}
use Rattle.octree_search.specs.Cover.{threshold_of}
use Rattle.octree_search.specs.Outcomes.{bounded}
use Rattle.octree_search.proofs.Choices.{both_ways, by_test}
use Rattle.search_lanes.specs.declared.lane_slots.Slot.{Slot}
use Rattle.search_lanes.specs.declared.lane_slots.Slot.TheVariants.{Free, Busy, Dead}
use Rattle.search_lanes.specs.Lanes.{Lane, Idle, Held, Gone, LaneState, boxes_of, finish_box, lose_lane, take_box, upper_of}
use Rattle.search_lanes.specs.LaneViews.{Fits, IsOpenedBox, LanesView}
use Rattle.search_lanes.specs.Inside.Bags.{IsBagOf}
use Rattle.search_lanes.specs.Inside.Moves.{finished, lost, taken}
use Rattle.search_lanes.specs.Inside.Slots.{boxed, busy, busy_in, greatest_bound, is_low, lane_of, state_of, view_of, waits_from}
use Rattle.search_lanes.specs.Inside.Whole.{ByBox, IsWhole}
use Rattle.search_lanes.proofs.LaneBags.{bag_moved, bag_opened}
use Rattle.search_lanes.proofs.LaneBoxes.{children_move, done_moves, lose_moves, take_moves}
use Rattle.search_lanes.proofs.LaneFits.{IsJudged, children_fall, fits_judged, judged_fits, judged_moved, judged_opened}
use Rattle.search_lanes.proofs.OpenedBoxes.{all_at}
use Rattle.search_lanes.proofs.LaneOver.{all_under, falls_same, greatest_append, greatest_permuted, ready_box, ready_still, upper_falls, upper_stays}
use Rattle.search_lanes.proofs.LaneSlots.{all_set, held_there, map_remove, ready_is, waits_boxed}

-- a step that is known of what is kept is one of what is seen
pub stepped : (next : LanesView → Option LaneState) (kept seen new : LanesView) → kept ≡ seen → next kept ≡ Some new.state
    → new ≡ record kept { state = new.state } → (next seen ≡ Some new.state) × (new ≡ record seen { state = new.state })
stepped next kept seen new same step rest =
    subst (λ (v : LanesView). (next v ≡ Some new.state) × (new ≡ record v { state = new.state })) same (step, rest)

-- and one that is refused
pub refused : (next : LanesView → Option LaneState) (kept seen new : LanesView) → kept ≡ seen → (state : LaneState) → next kept ≡ Some state
    → new ≡ kept → ((other : LaneState) × (next seen ≡ Some other)) × (new ≡ seen)
refused next kept seen new same state step is =
    subst (λ (v : LanesView). ((other : LaneState) × (next v ≡ Some other)) × (new ≡ v)) same ((state, step), is)

-- a judge that is the same but for its count fits where the other does
pub fits_same : (h now : GridSize) (rs rs' : List NodeBox) (bound bound' : NodeBox → ℕ) (v : LanesView) → now ≡ h → rs' ≡ rs → bound' ≡ bound
    → Fits h rs bound v → Fits now rs' bound' v
fits_same h now rs rs' bound bound' v same_grid same_roots same_bounds fits = record {
  same_grid = same_grid ∙ fits.same_grid;
  same_roots = same_roots ∙ fits.same_roots;
  bounds = subst (λ b. AllByRecursion (λ (leaf : BoxBound). leaf.bound ≡ b leaf.area) (boxes_of v.state)) (sym same_bounds) fits.bounds;
  opened = subst (λ (b : NodeBox → ℕ). (a : NodeBox) → IsOpenedBox v a → threshold_of v.margin (upper_of v.state) ≤ b a) (sym same_bounds) fits.opened;
}

-- a judge's bounds fall in the octree of the lanes that it fits
pub falls_there : (h : GridSize) (rs : List NodeBox) (bound : NodeBox → ℕ) (v : LanesView) → BoundsFall h rs bound → Fits h rs bound v
    → BoundsFall v.grid v.roots bound
falls_there h rs bound v falls fits =
    falls_same v.grid h v.roots rs bound fits.same_grid fits.same_roots falls

-- the greatest bound, where it was found anew
pub upper_found : (bound upper m open' held' : ℕ) (boxes : List Waiting) (slots : List Slot) → bound ≡ upper → m ≡ max open' held'
    → open' ≡ greatest_bound boxes → held' ≡ greatest_bound (busy slots)
    → m ≡ (if bound == upper then greatest_bound (boxes ++ busy slots) else upper)
upper_found bound upper m open' held' boxes slots same is open_is held_is =
    let test : (bound == upper) ≡ true = grind (arith, nat_tests) in
    let found : m ≡ greatest_bound (boxes ++ busy slots) = omega (arith, is, open_is, held_is, greatest_append boxes (busy slots)) in
    found ∙ sym (ap (λ b. if b then greatest_bound (boxes ++ busy slots) else upper) test)

-- the lane of a slot
lane_at : (slots : List Slot) (lane : ℕ) (slot : Slot) → slice_get slots lane ≡ Some slot → slice_get (map lane_of slots) lane ≡ Some (lane_of slot)
lane_at slots lane slot is = slice_get-map lane_of slots lane ∙ ap (option_map lane_of) is

module _ (ws : List Waiting) (slots : List Slot) (n : ℕ) (over : Bool) (lane : ℕ) where
  -- a lane takes a ready box
  module _ (margin upper place : ℕ) (top : Waiting) (upper_is : upper ≡ greatest_bound (ws ++ busy slots)) (free : slice_get slots lane ≡ Some Free)
      (there : slice_get ws place ≡ Some top) where
    take_at : taken margin (state_of ws slots n over) lane place ≡ (if not (is_low margin upper top)
        then Some (record (state_of ws slots n over) { waiting = remove (map boxed ws) place; lanes = set (map lane_of slots) lane (Held (boxed top)) }) else None)
    take_at =
        ap (λ o. option_and_then (λ (l : Lane). option_and_then (take_box margin (state_of ws slots n over) lane place l) (slice_get (map boxed ws) place)) o)
        (lane_at slots lane Free free)
        ∙ ap (λ o. option_and_then (take_box margin (state_of ws slots n over) lane place Idle) o) (slice_get-map boxed ws place ∙ ap (option_map boxed) there)
        ∙ ap (λ b. if b then Some (record (state_of ws slots n over) { waiting = remove (map boxed ws) place; lanes = set (map lane_of slots) lane (Held (boxed top)) }) else None)
        (ready_is margin upper ws slots n over top upper_is)

    pub took : is_low margin upper top ≡ false
        → taken margin (state_of ws slots n over) lane place ≡ Some (state_of (remove ws place) (set slots lane (Busy top)) n over)
    took high =
        take_at
        ∙ ap (λ b. if not b then Some (record (state_of ws slots n over) { waiting = remove (map boxed ws) place; lanes = set (map lane_of slots) lane (Held (boxed top)) }) else None) high
        ∙ ap (λ bs. Some (record (state_of ws slots n over) { waiting = bs; lanes = set (map lane_of slots) lane (Held (boxed top)) })) (sym (map_remove boxed ws place))
        ∙ ap (λ ls. Some (record (state_of ws slots n over) { waiting = map boxed (remove ws place); lanes = ls })) (sym (map-set lane_of slots lane (Busy top)))

    -- and none that isn't
    pub took_none : is_low margin upper top ≡ true → taken margin (state_of ws slots n over) lane place ≡ None
    took_none low =
        take_at
        ∙ ap (λ b. if not b then Some (record (state_of ws slots n over) { waiting = remove (map boxed ws) place; lanes = set (map lane_of slots) lane (Held (boxed top)) }) else None) low

  -- a lane is lost, with its box or without one
  pub lost_held : (w : Waiting) → slice_get slots lane ≡ Some (Busy w)
      → lost (state_of ws slots n over) lane ≡ Some (state_of (ws ++ w ∷ []) (set slots lane Dead) n over)
  lost_held w is =
      ap (λ o. option_and_then (lose_lane (state_of ws slots n over) lane) o) (lane_at slots lane (Busy w) is)
      ∙ ap (λ bs. Some (record (state_of ws slots n over) { waiting = bs; lanes = set (map lane_of slots) lane Gone })) (sym (map-append boxed ws (w ∷ [])))
      ∙ ap (λ ls. Some (record (state_of ws slots n over) { waiting = map boxed (ws ++ w ∷ []); lanes = ls })) (sym (map-set lane_of slots lane Dead))

  pub lost_free : slice_get slots lane ≡ Some Free → lost (state_of ws slots n over) lane ≡ Some (state_of ws (set slots lane Dead) n over)
  lost_free is =
      ap (λ o. option_and_then (lose_lane (state_of ws slots n over) lane) o) (lane_at slots lane Free is)
      ∙ ap (λ bs. Some (record (state_of ws slots n over) { waiting = bs; lanes = set (map lane_of slots) lane Gone })) (append-nil (map boxed ws))
      ∙ ap (λ ls. Some (record (state_of ws slots n over) { waiting = map boxed ws; lanes = ls })) (sym (map-set lane_of slots lane Dead))

  -- a lane is done with its box
  module _ (bound : NodeBox → ℕ) (budget : ℕ) (w : Waiting) (is : slice_get slots lane ≡ Some (Busy w)) where
    finish_at : finished bound budget (state_of ws slots n over) lane ≡ finish_box bound budget (state_of ws slots n over) lane (Held (boxed w))
    finish_at = ap (λ o. option_and_then (finish_box bound budget (state_of ws slots n over) lane) o) (lane_at slots lane (Busy w) is)

    -- the state after its children were met
    abbrev after_open : LaneState
    after_open = record {
      waiting = map boxed ws ++ map (bounded bound) (children_of w.area);
      lanes = set (map lane_of slots) lane Idle;
      met = n + length (children_of w.area);
      over = over;
    }

    pub finish_over : budget < n + length (children_of w.area) → finished bound budget (state_of ws slots n over) lane ≡ Some (state_of ws slots n true)
    finish_over past =
        let over' : nat_lt budget (n + length (children_of w.area)) ≡ true = grind (arith, nat_tests) in
        finish_at ∙ ap (λ b. if b then Some (state_of ws slots n true) else Some after_open) over'

    pub finish_open : (from m : ℕ) → n + length (children_of w.area) ≤ budget → m ≡ n + length (children_of w.area)
        → finished bound budget (state_of ws slots n over) lane
        ≡ Some (state_of (ws ++ waits_from bound from (children_of w.area)) (set slots lane Free) m over)
    finish_open from m few many =
        let within : nat_lt budget (n + length (children_of w.area)) ≡ false = grind (arith, nat_tests) in
        finish_at ∙ ap (λ b. if b then Some (state_of ws slots n true) else Some after_open) within
        ∙ ap (λ bs. Some (record after_open { waiting = bs }))
        (ap (λ rest. map boxed ws ++ rest) (sym (waits_boxed bound (children_of w.area) from)) ∙ sym (map-append boxed ws (waits_from bound from (children_of w.area))))
        ∙ ap (λ ls. Some (record after_open { waiting = map boxed (ws ++ waits_from bound from (children_of w.area)); lanes = ls })) (sym (map-set lane_of slots lane Free))
        ∙ ap (λ k. Some (state_of (ws ++ waits_from bound from (children_of w.area)) (set slots lane Free) k over)) (sym many)

module _ (g : GridSize) (roots : List NodeBox) (margin budget : ℕ) (met : List Met) (ws : List Waiting) (slots : List Slot) (upper : ℕ) (over : Bool)
    (whole : IsWhole g roots margin budget met ws slots upper over) (going : over ≡ false) where
  -- boxes move, and the boxes of lanes were ready
  whole_moved : (now : List Waiting) (later : List Slot) → IsPermutation (ws ++ busy slots) (now ++ busy later)
      → All (λ w. is_low margin upper w ≡ false) (busy later) → IsWhole g roots margin budget met now later upper over
  whole_moved now later swaps ready = record {
    are = whole.are;
    margin_is = whole.margin_is;
    bag = bag_moved g roots budget met (ws ++ busy slots) (now ++ busy later) swaps whole.bag;
    upper_is = whole.upper_is ∙ greatest_permuted (ws ++ busy slots) (now ++ busy later) swaps;
    started = whole.started;
    ready = ready;
    past = λ is. absurd (both_ways over is going);
  }

  -- and a judge still fits
  fits_moved : (now : List Waiting) (later : List Slot) → IsPermutation (ws ++ busy slots) (now ++ busy later)
      → (h : GridSize) (rs : List NodeBox) (bound : NodeBox → ℕ) → Fits h rs bound (view_of g roots margin budget ws slots (length met) over)
      → Fits h rs bound (view_of g roots margin budget now later (length met) over)
  fits_moved now later swaps h rs bound fits =
      judged_fits g roots margin budget met now later over whole.are (bag_moved g roots budget met (ws ++ busy slots) (now ++ busy later) swaps whole.bag)
      h rs bound fits.same_grid fits.same_roots
      (judged_moved bound margin met (ws ++ busy slots) (now ++ busy later) swaps
      (fits_judged g roots margin budget met ws slots over whole.are whole.bag h rs bound fits))

  -- a lane takes a ready box
  pub take_whole : (lane place : ℕ) (top : Waiting) → slice_get ws place ≡ Some top → slice_get slots lane ≡ Some Free
      → is_low margin upper top ≡ false → IsWhole g roots margin budget met (remove ws place) (set slots lane (Busy top)) upper over
  take_whole lane place top there free high =
      whole_moved (remove ws place) (set slots lane (Busy top)) (take_moves busy_in ws slots lane place top Free (Busy top) there free refl refl)
      (all_set (λ w. is_low margin upper w ≡ false) slots lane Free (Busy top) free (high, tt) whole.ready)

  pub take_fits : (lane place : ℕ) (top : Waiting) → slice_get ws place ≡ Some top → slice_get slots lane ≡ Some Free
      → (h : GridSize) (rs : List NodeBox) (bound : NodeBox → ℕ) → Fits h rs bound (view_of g roots margin budget ws slots (length met) over)
      → Fits h rs bound (view_of g roots margin budget (remove ws place) (set slots lane (Busy top)) (length met) over)
  take_fits lane place top there free = fits_moved (remove ws place) (set slots lane (Busy top)) (take_moves busy_in ws slots lane place top Free (Busy top) there free refl refl)

  -- a lane is lost
  pub lose_whole : (now : List Waiting) (lane : ℕ) (old : Slot) → slice_get slots lane ≡ Some old → now ≡ ws ++ busy_in old
      → IsWhole g roots margin budget met now (set slots lane Dead) upper over
  lose_whole now lane old is now_is =
      whole_moved now (set slots lane Dead)
      (subst (λ bs. IsPermutation (ws ++ busy slots) (bs ++ busy (set slots lane Dead))) (sym now_is) (lose_moves busy_in ws slots lane old Dead is refl))
      (all_set (λ w. is_low margin upper w ≡ false) slots lane old Dead is tt whole.ready)

  pub lose_fits : (now : List Waiting) (lane : ℕ) (old : Slot) → slice_get slots lane ≡ Some old → now ≡ ws ++ busy_in old
      → (h : GridSize) (rs : List NodeBox) (bound : NodeBox → ℕ) → Fits h rs bound (view_of g roots margin budget ws slots (length met) over)
      → Fits h rs bound (view_of g roots margin budget now (set slots lane Dead) (length met) over)
  lose_fits now lane old is now_is =
      fits_moved now (set slots lane Dead)
      (subst (λ bs. IsPermutation (ws ++ busy slots) (bs ++ busy (set slots lane Dead))) (sym now_is) (lose_moves busy_in ws slots lane old Dead is refl))

  -- a lane is done with its box
  module _ (lane : ℕ) (w : Waiting) (is : slice_get slots lane ≡ Some (Busy w)) where
    -- it was ready
    held_ready : is_low margin upper w ≡ false
    held_ready = all_at (λ v. is_low margin upper v ≡ false) (busy slots) w whole.ready (held_there slots lane w is)

    -- it is one of the boxes that weren't opened
    bag_held : IsBagOf g roots budget met (w ∷ (ws ++ busy (set slots lane Free)))
    bag_held = bag_moved g roots budget met (ws ++ busy slots) (w ∷ (ws ++ busy (set slots lane Free))) (done_moves busy_in ws slots lane w (Busy w) Free is refl refl) whole.bag

    pub held_tree : IsOctreeBox roots w.area
    held_tree = (bag_held.arena.queued 0 w (omega arith)).tree

    pub held_within : w.place < length met
    held_within = omega (arith, (bag_held.arena.queued 0 w (omega arith)).within, length-map met (λ (m : Met). m.area))

    pub held_splittable : IsSplittable w.area
    held_splittable = record {
      nonempty = in_nonempty g w.area (octree_inside g roots w.area whole.are held_tree);
      several = (ready_box margin upper w held_ready).several;
    }

    -- where its children pass the budget, the run is over
    pub over_whole : budget < length met + length (children_of w.area) → IsWhole g roots margin budget met ws slots upper true
    over_whole past = record {
      are = whole.are;
      margin_is = whole.margin_is;
      bag = whole.bag;
      upper_is = whole.upper_is;
      started = λ e. absurd cc;
      ready = whole.ready;
      past = λ _. ByBox w (held_there slots lane w is) past;
    }

    pub over_fits : (h : GridSize) (rs : List NodeBox) (bound : NodeBox → ℕ) → Fits h rs bound (view_of g roots margin budget ws slots (length met) over)
        → Fits h rs bound (view_of g roots margin budget ws slots (length met) true)
    over_fits h rs bound fits =
        judged_fits g roots margin budget met ws slots true whole.are whole.bag h rs bound fits.same_grid fits.same_roots
        (fits_judged g roots margin budget met ws slots over whole.are whole.bag h rs bound fits)

    -- else it was opened, by a judge that fits
    module _ (h : GridSize) (rs : List NodeBox) (bound : NodeBox → ℕ) (falls : BoundsFall g roots bound)
        (fits : Fits h rs bound (view_of g roots margin budget ws slots (length met) over)) (new : List Met) (later : List Waiting)
        (few : length met + length (children_of w.area) ≤ budget)
        (o : IsOpened (met ++ map (fresh bound) (children_of w.area)) w.place (length met) new)
        (later_is : later ≡ ws ++ waits_from bound (length met) (children_of w.area)) where
      abbrev rest : List Waiting
      rest = ws ++ busy (set slots lane Free)

      abbrev more : List Waiting
      more = waits_from bound (length met) (children_of w.area)

      judged : IsJudged bound margin met (w ∷ rest)
      judged = judged_moved bound margin met (ws ++ busy slots) (w ∷ rest) (done_moves busy_in ws slots lane w (Busy w) Free is refl refl)
          (fits_judged g roots margin budget met ws slots over whole.are whole.bag h rs bound fits)

      upper_was : upper ≡ greatest_bound (w ∷ rest)
      upper_was = whole.upper_is ∙ greatest_permuted (ws ++ busy slots) (w ∷ rest) (done_moves busy_in ws slots lane w (Busy w) Free is refl refl)

      fall : AllByRecursion (λ c. bound c ≤ w.bound) (children_of w.area)
      fall = children_fall g roots margin budget bound whole.are falls met w rest upper bag_held held_ready judged

      swaps : IsPermutation (more ++ rest) (later ++ busy (set slots lane Free))
      swaps = subst (λ bs. IsPermutation (more ++ rest) (bs ++ busy (set slots lane Free))) (sym later_is) (children_move ws more (busy (set slots lane Free)))

      bag_new : IsBagOf g roots budget new (later ++ busy (set slots lane Free))
      bag_new = bag_moved g roots budget new (more ++ rest) (later ++ busy (set slots lane Free)) swaps
          (bag_opened g roots budget bound met w rest new whole.are (ready_box margin upper w held_ready).several few o bag_held)

      pub many : length new ≡ length met + length (children_of w.area)
      many = omega (arith, o.same_length, length-append {A = Met} met (map (fresh bound) (children_of w.area)), length-map (children_of w.area) (fresh bound))

      -- the greatest bound is found anew only where the box had it
      upper_now : (now : ℕ) → now ≡ (if w.bound == upper then greatest_bound (later ++ busy (set slots lane Free)) else upper)
          → now ≡ greatest_bound (later ++ busy (set slots lane Free))
      upper_now now now_is = elim (by_test (w.bound == upper)) [
        | inl same ↦ now_is ∙ ap (λ b. if b then greatest_bound (later ++ busy (set slots lane Free)) else upper) same
        | inr other ↦
            let kept : now ≡ upper = now_is ∙ ap (λ b. if b then greatest_bound (later ++ busy (set slots lane Free)) else upper) other in
            let apart : w.bound ≢ upper = grind (arith, nat_tests) in
            let within : w.bound ≤ greatest_bound (w ∷ rest) = (all_under (w ∷ rest) (greatest_bound (w ∷ rest)) (omega arith)).0 in
            let less : w.bound < greatest_bound (w ∷ rest) = grind (arith, upper_was) in
            kept ∙ upper_was ∙ sym (upper_stays bound w rest (children_of w.area) (length met) fall less)
            ∙ greatest_permuted (more ++ rest) (later ++ busy (set slots lane Free)) swaps
      ]

      pub opened_whole : (now : ℕ) → now ≡ (if w.bound == upper then greatest_bound (later ++ busy (set slots lane Free)) else upper)
          → IsWhole g roots margin budget new later (set slots lane Free) now over
      opened_whole now now_is =
          let upper_is = upper_now now now_is in
          let down = upper_falls bound w rest (children_of w.area) (length met) fall in
          let same = greatest_permuted (more ++ rest) (later ++ busy (set slots lane Free)) swaps in
          let fell : now ≤ upper = omega (arith, upper_is, down, same, upper_was) in
          record {
            are = whole.are;
            margin_is = whole.margin_is;
            bag = bag_new;
            upper_is = upper_is;
            started = λ _. omega (arith, many, held_within);
            ready = ready_still margin upper now (busy (set slots lane Free)) fell
                (all_set (λ v. is_low margin upper v ≡ false) slots lane (Busy w) Free is tt whole.ready);
            past = λ e. absurd (both_ways over e going);
          }

      pub opened_fits : Fits h rs bound (view_of g roots margin budget later (set slots lane Free) (length new) over)
      opened_fits =
          judged_fits g roots margin budget new later (set slots lane Free) over whole.are bag_new h rs bound fits.same_grid fits.same_roots
          (judged_moved bound margin new (more ++ rest) (later ++ busy (set slots lane Free)) swaps
          (judged_opened g roots margin budget bound whole.are falls met w rest new bag_held
          (subst (λ u. is_low margin u w ≡ false) upper_was held_ready) o judged))
