-- Every event keeps what is known of lanes, whatever the order of events.
use Rattle.std.proofs.Common.{◌≡◌, inl, inr, ℕ, zero, suc, ◌+◌, ◌≤◌, ◌<◌, arith, Bool, true, false, List, [], ◌∷◌, ◌++◌, length, map, refl, ap, sym, ◌∙◌, subst}
use Rattle.std.specs.Prelude.{◌||◌, ◌&&◌, not, nat_lt, Option, Some, None, option_and_then, replicate, set, slice_get}
use Rattle.std.specs.List.{AllByRecursion, remove}
use Rattle.std.proofs.lemmas.Bool.{and_parts}
use Rattle.std.proofs.lemmas.Bool.Decides.{nat_tests}
use Rattle.std.proofs.lemmas.List.{append-nil, length-append, length-map}
use Rattle.std.proofs.lemmas.List.Sums.{sum_by-cons}
use Rattle.node_boxes.specs.declared.node_box.NodeBox.{NodeBox}
use Rattle.node_boxes.specs.declared.node_box.BoxBound.{BoxBound}
use Rattle.node_boxes.specs.Boxes.{is_single}
use Rattle.node_boxes.specs.Children.{children_of}
use Rattle.node_boxes.specs.Grid.{GridSize}
use Rattle.node_boxes.specs.Roots.{AreRoots}
use Rattle.minmax_pyramid.specs.Spans.{greatest}
use Rattle.edt_score.specs.Judging.{BoundsFall}
use Rattle.octree_search.specs.Cover.{below, stops, threshold_of}
use Rattle.octree_search.specs.Near.{best_of}
use Rattle.octree_search.specs.Outcomes.{bounded, event_met, event_threshold}
use Rattle.octree_search.proofs.Choices.{by_test, neither, both_ways, all-both}
use Rattle.octree_search.proofs.Covers.{below_open}
use Rattle.octree_search.proofs.Goes.{sum_ones}
use Rattle.octree_search.proofs.Scores.{IsUnder, dominated}
use Rattle.octree_search.proofs.Thresholds.{threshold_up}
use Rattle.search_lanes.specs.declared.lane_events.LaneEvent.{LaneEvent}
use Rattle.search_lanes.specs.declared.lane_events.LaneEvent.TheVariants.{Take, Done, Lost}
use Rattle.search_lanes.specs.Lanes.{Lane, Idle, Held, Gone, LaneState, boxes_of, finish_box, held, held_by, is_idle, is_live, is_ready, lose_lane, opened, start, step, step_open, take_box, upper_of}
use Rattle.search_lanes.specs.LaneRuns.{Run}
use Rattle.search_lanes.proofs.SameElements.{all_permuted}
use Rattle.search_lanes.proofs.LaneBoxes.{if_some, if_none, idle_is, given_set, taken_first, take_moves, done_moves, children_move, lose_moves}
use Rattle.search_lanes.proofs.BoxBags.{IsBag, IsKnown, left_of, bag_start, bag_moved, bag_opened, known_nonempty}

-- the greatest bound of some boxes
abbrev pub greatest_bound : List BoxBound → ℕ
greatest_bound boxes = greatest (map (λ (b : BoxBound). b.bound) boxes)

-- no bound is more than the greatest one
pub bounds_le : (boxes : List BoxBound) (u : ℕ) → greatest_bound boxes ≤ u → AllByRecursion (λ (b : BoxBound). b.bound ≤ u) boxes
bounds_le [] u most = tt
bounds_le (b ∷ boxes) u most = (omega (arith, most), bounds_le boxes u (omega (arith, most)))

-- the greatest bound isn't more than what no bound exceeds
pub greatest_le : (boxes : List BoxBound) (u : ℕ) → AllByRecursion (λ (b : BoxBound). b.bound ≤ u) boxes → greatest_bound boxes ≤ u
greatest_le [] u all = omega arith
greatest_le (b ∷ boxes) u (here, all) = omega (arith, here, greatest_le boxes u all)

-- a choice doesn't hold whose negation does
pub not_true : (b : Bool) → not b ≡ true → b ≡ false
not_true true is = absurd cc
not_true false is = refl

-- at the start no lane holds a box
pub none_held : (n : ℕ) → held (replicate n Idle) ≡ []
none_held zero = refl
none_held (suc n) = none_held n

-- what holds of each element holds of each of the last ones
pub all-last : (P : BoxBound → Type 0) (front back : List BoxBound) → AllByRecursion P (front ++ back) → AllByRecursion P back
all-last P [] back all = all
all-last P (b ∷ front) back (here, all) = all-last P front back all

-- a box that the rule of the cover opens
abbrev pub IsOpening : GridSize → (NodeBox → ℕ) → ℕ → BoxBound → Type 0
IsOpening g bound margin b = stops bound (event_threshold g bound margin) b.area ≡ false

-- a run that isn't over: its boxes are what is left to search, and the rule of the cover opens each one that is held
pub record IsGoing (g : GridSize) (roots : List NodeBox) (bound : NodeBox → ℕ) (margin : ℕ) (s : LaneState) : Type 0 where
  pub bag : IsBag g roots bound margin s.met (boxes_of s)
  pub opens : AllByRecursion (IsOpening g bound margin) (held s.lanes)

-- every state of a run: one that is over has passed the budget, and until then no more boxes were met than it allows
pub record IsKept (g : GridSize) (roots : List NodeBox) (bound : NodeBox → ℕ) (margin budget : ℕ) (s : LaneState) : Type 0 where
  pub going : s.over ≡ false → IsGoing g roots bound margin s
  pub past : s.over ≡ true → budget < event_met g roots bound margin
  pub within : s.met ≤ budget
  pub few : length s.waiting ≤ s.met

-- no more boxes are open than were met
pub few_open : (g : GridSize) (roots : List NodeBox) (bound : NodeBox → ℕ) (margin met : ℕ) (ws hs : List BoxBound)
    → IsBag g roots bound margin met (ws ++ hs) → length ws ≤ met
few_open g roots bound margin met ws hs bag = omega (arith, bag.few, length-append ws hs)

module _ (g : GridSize) (roots : List NodeBox) (bound : NodeBox → ℕ) (margin budget : ℕ) (are : AreRoots g roots)
    (falls : BoundsFall g roots bound) where
  abbrev Opens : BoxBound → Type 0
  Opens = IsOpening g bound margin

  abbrev Kept : LaneState → Type 0
  Kept = IsKept g roots bound margin budget

  -- no node scores more than the greatest bound
  pub bag_covers : (met : ℕ) (boxes : List BoxBound) → IsBag g roots bound margin met boxes → best_of g bound ≤ greatest_bound boxes
  bag_covers met boxes bag =
      bag.caps (greatest_bound boxes)
      (all-both (IsKnown roots bound) (λ (b : BoxBound). b.bound ≤ greatest_bound boxes) (λ (b : BoxBound). IsUnder bound b.area (greatest_bound boxes))
      (λ b known less ix iy iz at. let under = dominated g roots bound are falls b.area known.tree ix iy iz at in omega (arith, under, known.bound_is, less))
      boxes bag.known (bounds_le boxes (greatest_bound boxes) (omega arith)))

  -- the rule opens a box that isn't single and whose bound reaches the threshold of a score that is no less than the best one
  pub ready_opens : (u : ℕ) (b : BoxBound) → best_of g bound ≤ u → IsKnown roots bound b
      → (is_single b.area || nat_lt b.bound (threshold_of margin u)) ≡ false → Opens b
  ready_opens u b most known ready =
      let parts = neither (is_single b.area) (nat_lt b.bound (threshold_of margin u)) ready in
      let up : event_threshold g bound margin ≤ threshold_of margin u = threshold_up margin (best_of g bound) u most in
      let high : threshold_of margin u ≤ b.bound = reached b.bound (threshold_of margin u) parts.1 in
      let far : nat_lt (bound b.area) (event_threshold g bound margin) ≡ false =
      unreached (bound b.area) (event_threshold g bound margin) (omega (arith, up, high, known.bound_is)) in
      rw (parts.0, far) refl
    where
      reached : (n t : ℕ) → nat_lt n t ≡ false → t ≤ n
      reached n t is = grind (arith, nat_tests)

      unreached : (n t : ℕ) → t ≤ n → nat_lt n t ≡ false
      unreached n t is = grind (arith, nat_tests)

  -- a lane takes a box
  take_keeps : (s mid : LaneState) (lane place : ℕ) (l : Lane) (b : BoxBound) → slice_get s.lanes lane ≡ Some l → slice_get s.waiting place ≡ Some b
      → take_box margin s lane place l b ≡ Some mid → s.over ≡ false → Kept s → Kept mid
  take_keeps s mid lane place l b has there is open' kept =
      let going = kept.going open' in
      let got = if_some (is_idle l && is_ready margin s b) (record s { waiting = remove s.waiting place; lanes = set s.lanes lane (Held b) }) mid is in
      let parts = and_parts (is_idle l) (is_ready margin s b) got.0 in
      let idle : slice_get s.lanes lane ≡ Some Idle = has ∙ ap (λ (m : Lane). Some m) (idle_is l parts.0) in
      let moves = take_moves held_by s.waiting s.lanes lane place b Idle (Held b) there idle refl refl in
      let first = taken_first held_by s.waiting s.lanes place b there in
      let known = (all_permuted (IsKnown roots bound) (boxes_of s) (b ∷ (remove s.waiting place ++ held s.lanes)) first going.bag.known).0 in
      let ready = not_true (is_single b.area || nat_lt b.bound (threshold_of margin (upper_of s))) parts.1 in
      let opens : Opens b = ready_opens (upper_of s) b (bag_covers s.met (boxes_of s) going.bag) known ready in
      let bag = bag_moved g roots bound margin are s.met (boxes_of s) (remove s.waiting place ++ held (set s.lanes lane (Held b))) moves going.bag in
      subst Kept got.1 (record {
        going = λ _. record {
          bag = bag;
          opens = all_permuted Opens (b ∷ held s.lanes) (held (set s.lanes lane (Held b))) (given_set held_by s.lanes lane Idle (Held b) idle) (opens, going.opens);
        };
        past = λ over. absurd (both_ways s.over over open');
        within = kept.within;
        few = few_open g roots bound margin s.met (remove s.waiting place) (held (set s.lanes lane (Held b))) bag;
      })

  -- a lane is done with its box
  finish_keeps : (s mid : LaneState) (lane : ℕ) (l : Lane) → slice_get s.lanes lane ≡ Some l → finish_box bound budget s lane l ≡ Some mid
      → s.over ≡ false → Kept s → Kept mid
  finish_keeps s mid lane Idle has is open' kept = absurd cc
  finish_keeps s mid lane Gone has is open' kept = absurd cc
  finish_keeps s mid lane (Held b) has is open' kept = elim (by_test (nat_lt budget (s.met + length (children_of b.area)))) [
    | inl full ↦
        let over : record s { over = true } ≡ mid = some_is (sym (if_true full) ∙ is) in
        subst Kept over (record {
          going = λ not_over. absurd (both_ways true refl not_over);
          past = λ _. omega (
            arith,
            bag.count,
            below_open bound t b.area (known_nonempty g roots bound margin are b bag.known.0) opens.0,
            sum_by-cons (left_of bound t) b rest,
            sum_ones (below bound t) (children_of b.area),
            passed full,
          );
          within = kept.within;
          few = kept.few;
        })
    | inr room ↦
        let next : opened bound s lane b ≡ mid = some_is (sym (if_false room) ∙ is) in
        subst Kept next (record {
          going = λ _. record {
            bag = after;
            opens = opens.1;
          };
          past = λ over. absurd (both_ways s.over over open');
          within = unpassed room;
          few = few_open g roots bound margin (s.met + length (children_of b.area)) (s.waiting ++ more) (held (set s.lanes lane Idle)) after;
        })
  ]
    where
      t : ℕ
      t = event_threshold g bound margin

      rest : List BoxBound
      rest = s.waiting ++ held (set s.lanes lane Idle)

      more : List BoxBound
      more = map (bounded bound) (children_of b.area)

      going : IsGoing g roots bound margin s
      going = kept.going open'

      bag : IsBag g roots bound margin s.met (b ∷ rest)
      bag = bag_moved g roots bound margin are s.met (boxes_of s) (b ∷ rest) (done_moves held_by s.waiting s.lanes lane b (Held b) Idle has refl refl) going.bag

      opens : AllByRecursion (IsOpening g bound margin) (b ∷ held (set s.lanes lane Idle))
      opens = all_permuted Opens (held s.lanes) (b ∷ held (set s.lanes lane Idle)) (given_set held_by s.lanes lane (Held b) Idle has) going.opens

      after : IsBag g roots bound margin (s.met + length (children_of b.area)) ((s.waiting ++ more) ++ held (set s.lanes lane Idle))
      after =
          bag_moved g roots bound margin are (s.met + length (children_of b.area)) (more ++ rest) ((s.waiting ++ more) ++ held (set s.lanes lane Idle))
          (children_move s.waiting more (held (set s.lanes lane Idle)))
          (bag_opened g roots bound margin are s.met b rest opens.0 bag)

      some_is : {x y : LaneState} → Some x ≡ Some y → x ≡ y
      some_is e = cc

      if_true : nat_lt budget (s.met + length (children_of b.area)) ≡ true
          → finish_box bound budget s lane (Held b) ≡ Some (record s { over = true })
      if_true full = rw full refl

      if_false : nat_lt budget (s.met + length (children_of b.area)) ≡ false
          → finish_box bound budget s lane (Held b) ≡ Some (opened bound s lane b)
      if_false room = rw room refl

      passed : nat_lt budget (s.met + length (children_of b.area)) ≡ true → budget < s.met + length (children_of b.area)
      passed full = grind (arith, nat_tests)

      unpassed : nat_lt budget (s.met + length (children_of b.area)) ≡ false → s.met + length (children_of b.area) ≤ budget
      unpassed room = grind (arith, nat_tests)

  -- a lane is lost
  lose_keeps : (s mid : LaneState) (lane : ℕ) (l : Lane) → slice_get s.lanes lane ≡ Some l → lose_lane s lane l ≡ Some mid
      → s.over ≡ false → Kept s → Kept mid
  lose_keeps s mid lane l has is open' kept =
      let going = kept.going open' in
      let got = if_some (is_live l) (record s { waiting = s.waiting ++ held_by l; lanes = set s.lanes lane Gone }) mid is in
      let bag = bag_moved g roots bound margin are s.met (boxes_of s) ((s.waiting ++ held_by l) ++ held (set s.lanes lane Gone)) (lose_moves held_by s.waiting s.lanes lane l Gone has refl) going.bag in
      subst Kept got.1 (record {
        going = λ _. record {
          bag = bag;
          opens = all-last Opens (held_by l) (held (set s.lanes lane Gone))
              (all_permuted Opens (held s.lanes) (held_by l ++ held (set s.lanes lane Gone)) (given_set held_by s.lanes lane l Gone has) going.opens);
        };
        past = λ over. absurd (both_ways s.over over open');
        within = kept.within;
        few = few_open g roots bound margin s.met (s.waiting ++ held_by l) (held (set s.lanes lane Gone)) bag;
      })

  -- an event that names a lane, and one that names a place too, find them
  take_found : (s mid : LaneState) (lane place : ℕ) (l : Option Lane) (b : Option BoxBound) → slice_get s.lanes lane ≡ l → slice_get s.waiting place ≡ b
      → option_and_then (λ (m : Lane). option_and_then (take_box margin s lane place m) b) l ≡ Some mid → s.over ≡ false → Kept s → Kept mid
  take_found s mid lane place None b has there is open' kept = absurd cc
  take_found s mid lane place (Some l) None has there is open' kept = absurd cc
  take_found s mid lane place (Some l) (Some b) has there is open' kept = take_keeps s mid lane place l b has there is open' kept

  finish_found : (s mid : LaneState) (lane : ℕ) (l : Option Lane) → slice_get s.lanes lane ≡ l → option_and_then (finish_box bound budget s lane) l ≡ Some mid
      → s.over ≡ false → Kept s → Kept mid
  finish_found s mid lane None has is open' kept = absurd cc
  finish_found s mid lane (Some l) has is open' kept = finish_keeps s mid lane l has is open' kept

  lose_found : (s mid : LaneState) (lane : ℕ) (l : Option Lane) → slice_get s.lanes lane ≡ l → option_and_then (lose_lane s lane) l ≡ Some mid
      → s.over ≡ false → Kept s → Kept mid
  lose_found s mid lane None has is open' kept = absurd cc
  lose_found s mid lane (Some l) has is open' kept = lose_keeps s mid lane l has is open' kept

  step_open_keeps : (s mid : LaneState) (event : LaneEvent) → step_open bound margin budget s event ≡ Some mid → s.over ≡ false → Kept s → Kept mid
  step_open_keeps s mid (Take lane place) is open' kept = take_found s mid lane place (slice_get s.lanes lane) (slice_get s.waiting place) refl refl is open' kept
  step_open_keeps s mid (Done lane) is open' kept = finish_found s mid lane (slice_get s.lanes lane) refl is open' kept
  step_open_keeps s mid (Lost lane) is open' kept = lose_found s mid lane (slice_get s.lanes lane) refl is open' kept

  -- an event keeps what is known
  pub step_keeps : (s mid : LaneState) (event : LaneEvent) → step bound margin budget s event ≡ Some mid → Kept s → Kept mid
  step_keeps s mid event is kept =
      let parts = if_none s.over (step_open bound margin budget s event) mid is in
      step_open_keeps s mid event parts.1 parts.0 kept

  -- so does a run
  pub run_keeps : (events : List LaneEvent) (s end : LaneState) → Run bound margin budget s events end → Kept s → Kept end
  run_keeps [] s end run kept = subst Kept run kept
  run_keeps (event ∷ events) s end (mid, is, run) kept = run_keeps events mid end run (step_keeps s mid event is kept)

  -- and the start has it
  pub start_kept : (lanes : ℕ) → Kept (start bound budget lanes roots)
  start_kept lanes = elim (by_test (nat_lt budget (length roots))) [
    | inl full ↦
        subst Kept (sym (if_full full)) (record {
          going = λ not_over. absurd (both_ways true refl not_over);
          past = λ _. omega (arith, passed full, sum_ones (below bound (event_threshold g bound margin)) roots);
          within = omega arith;
          few = omega arith;
        })
    | inr room ↦
        subst Kept (sym (if_room room)) (record {
          going = λ _. record {
            bag = subst (IsBag g roots bound margin (length roots)) (sym only) (bag_start g roots bound margin are);
            opens = subst (AllByRecursion (IsOpening g bound margin)) (sym (none_held lanes)) tt;
          };
          past = λ over. absurd (both_ways false over refl);
          within = unpassed room;
          few = omega (arith, length-map roots (bounded bound));
        })
  ]
    where
      if_full : nat_lt budget (length roots) ≡ true
          → start bound budget lanes roots ≡ record { waiting = []; lanes = replicate lanes Idle; met = 0; over = true }
      if_full full = rw full refl

      if_room : nat_lt budget (length roots) ≡ false
          → start bound budget lanes roots ≡ record { waiting = map (bounded bound) roots; lanes = replicate lanes Idle; met = length roots; over = false }
      if_room room = rw room refl

      passed : nat_lt budget (length roots) ≡ true → budget < length roots
      passed full = grind (arith, nat_tests)

      unpassed : nat_lt budget (length roots) ≡ false → length roots ≤ budget
      unpassed room = grind (arith, nat_tests)

      only : map (bounded bound) roots ++ held (replicate lanes Idle) ≡ map (bounded bound) roots
      only = ap (λ hs. map (bounded bound) roots ++ hs) (none_held lanes) ∙ append-nil (map (bounded bound) roots)
