-- The next event of a schedule is possible, and leaves a lane.
use Rattle.std.proofs.Common.{◌≡◌, inl, inr, ℕ, suc, ◌+◌, ◌*◌, ◌≤◌, ◌<◌, arith, Bool, true, false, List, [], ◌∷◌, ◌++◌, length, get_or, refl, ap, sym, ◌∙◌, subst, sum_by}
use Rattle.std.specs.Prelude.{◌&&◌, ◌||◌, ◌==◌, ◌%◌, not, nat_lt, Option, Some, None, option_and_then, replicate, set, slice_get}
use Rattle.std.specs.List.{AllByRecursion, list_all, remove}
use Rattle.std.proofs.lemmas.Bool.{and_parts}
use Rattle.std.proofs.lemmas.Bool.Decides.{nat_tests}
use Rattle.std.proofs.lemmas.Nat.{mod_below}
use Rattle.std.proofs.lemmas.List.{length-append, length-replicate, length-set}
use Rattle.std.proofs.lemmas.List.Folds.{sum_by-replicate}
use Rattle.std.proofs.lemmas.List.Elements.{All-from_recursion}
use Rattle.std.proofs.lemmas.List.Sums.{sum_by-cons}
use Rattle.node_boxes.specs.declared.node_box.NodeBox.{NodeBox}
use Rattle.node_boxes.specs.declared.node_box.BoxBound.{BoxBound}
use Rattle.node_boxes.specs.Children.{children_of}
use Rattle.node_boxes.proofs.Lists.{all-append}
use Rattle.edt_score.specs.Demo.{draw, next_state}
use Rattle.octree_search.proofs.Choices.{by_test}
use Rattle.search_lanes.specs.declared.lane_events.LaneEvent.{LaneEvent}
use Rattle.search_lanes.specs.declared.lane_events.LaneEvent.TheVariants.{Take, Done, Lost}
use Rattle.search_lanes.specs.Lanes.{Lane, Idle, Held, Gone, LaneState, finish_box, held_by, is_finished, is_free, is_live, is_ready, lose_lane, opened, start, step_open, take_box}
use Rattle.search_lanes.specs.Schedule.{choices, choices_from, choices_of, first_ready, first_ready_from, last_of, live_from, loses, next_event, takes_from}
use Rattle.search_lanes.proofs.Ranks.{sum_set}

-- a lane counts where it isn't gone
abbrev pub alive : Lane → ℕ
alive Idle = 1
alive (Held b) = 1
alive Gone = 0

-- so many lanes aren't gone
pub live_count : (lanes : List Lane) (k : ℕ) → length (live_from k lanes) ≡ sum_by alive lanes
live_count [] k = refl
live_count (Idle ∷ lanes) k = omega (arith, live_count lanes (k + 1), sum_by-cons alive Idle lanes)
live_count (Held b ∷ lanes) k = omega (arith, live_count lanes (k + 1), sum_by-cons alive (Held b) lanes)
live_count (Gone ∷ lanes) k = omega (arith, live_count lanes (k + 1), sum_by-cons alive Gone lanes)

-- at the start each lane is there
pub alive_start : (bound : NodeBox → ℕ) (budget lanes : ℕ) (roots : List NodeBox) → sum_by alive (start bound budget lanes roots).lanes ≡ lanes
alive_start bound budget lanes roots = elim (by_test (nat_lt budget (length roots))) [
  | inl full ↦
      let same : (start bound budget lanes roots).lanes ≡ replicate lanes Idle = rw full refl in
      ap (sum_by alive) same ∙ sum_by-replicate alive lanes Idle ∙ times_one lanes
  | inr room ↦
      let same : (start bound budget lanes roots).lanes ≡ replicate lanes Idle = rw room refl in
      ap (sum_by alive) same ∙ sum_by-replicate alive lanes Idle ∙ times_one lanes
]
  where
    times_one : (n : ℕ) → n * 1 ≡ n
    times_one n = omega arith

-- and there are so many lanes
pub lanes_start : (bound : NodeBox → ℕ) (budget lanes : ℕ) (roots : List NodeBox) → length (start bound budget lanes roots).lanes ≡ lanes
lanes_start bound budget lanes roots = elim (by_test (nat_lt budget (length roots))) [
  | inl full ↦
      let same : (start bound budget lanes roots).lanes ≡ replicate lanes Idle = rw full refl in
      ap length same ∙ length-replicate lanes Idle
  | inr room ↦
      let same : (start bound budget lanes roots).lanes ≡ replicate lanes Idle = rw room refl in
      ap length same ∙ length-replicate lanes Idle
]

-- a list is empty or has an element
by_list : {X : Type 0} (Q : Type 0) (xs : List X) → (xs ≡ [] → Q) → (1 ≤ length xs → Q) → Q
by_list Q [] none some = none refl
by_list Q (x ∷ xs) none some = some (omega arith)

-- the last of several is the last without the first
last_later : (n : ℕ) (ns : List ℕ) → 1 ≤ length ns → last_of (n ∷ ns) ≡ last_of ns
last_later n [] some = absurd (omega (arith, some))
last_later n (m ∷ ns) some = refl

-- a lane that isn't gone stands at a number
abbrev pub IsLiveAt : List Lane → ℕ → ℕ → Type 0
IsLiveAt lanes from n = (j : ℕ) × (l : Lane) × (n ≡ from + j) × (slice_get lanes j ≡ Some l) × (is_live l ≡ true)

-- the greatest lane that isn't gone is one
pub last_live : (lanes : List Lane) (k : ℕ) → 1 ≤ length (live_from k lanes) → IsLiveAt lanes k (last_of (live_from k lanes))
last_live [] k some = absurd (omega (arith, some))
last_live (l ∷ lanes) k some = elim (by_test (is_live l)) [
  | inl live ↦
      let is : live_from k (l ∷ lanes) ≡ k ∷ live_from (k + 1) lanes = rw live refl in
      subst (λ ns. IsLiveAt (l ∷ lanes) k (last_of ns)) (sym is)
      (by_list (IsLiveAt (l ∷ lanes) k (last_of (k ∷ live_from (k + 1) lanes))) (live_from (k + 1) lanes)
      (λ none. (0, l, ap (λ ns. last_of (k ∷ ns)) none ∙ omega arith, refl, live))
      (λ more. later l lanes k (last_of (k ∷ live_from (k + 1) lanes)) (last_later k (live_from (k + 1) lanes) more) (last_live lanes (k + 1) more)))
  | inr gone ↦
      let is : live_from k (l ∷ lanes) ≡ live_from (k + 1) lanes = rw gone refl in
      later l lanes k (last_of (live_from k (l ∷ lanes))) (ap last_of is) (last_live lanes (k + 1) (subst (λ ns. 1 ≤ length ns) is some))
]
  where
    later : (l : Lane) (lanes : List Lane) (k n : ℕ) {m : ℕ} → n ≡ m → IsLiveAt lanes (k + 1) m → IsLiveAt (l ∷ lanes) k n
    later l lanes k n same (j, live, at, has, is) = (suc j, live, same ∙ at ∙ omega arith, has, is)

-- a ready box stands at a place
abbrev pub IsReadyAt : ℕ → LaneState → List BoxBound → ℕ → ℕ → Type 0
IsReadyAt margin s boxes from place = (j : ℕ) × (b : BoxBound) × (place ≡ from + j) × (slice_get boxes j ≡ Some b) × (is_ready margin s b ≡ true)

-- the first place of a ready box is one
pub first_is_ready : (margin : ℕ) (s : LaneState) (boxes : List BoxBound) (from place : ℕ) → first_ready_from margin s from boxes ≡ Some place
    → IsReadyAt margin s boxes from place
first_is_ready margin s [] from place is = absurd cc
first_is_ready margin s (b ∷ boxes) from place is = elim (by_test (is_ready margin s b)) [
  | inl ready ↦
      let here : first_ready_from margin s from (b ∷ boxes) ≡ Some from = rw ready refl in
      (0, b, some_is (sym is ∙ here) ∙ omega arith, refl, ready)
  | inr other ↦
      let rest : first_ready_from margin s from (b ∷ boxes) ≡ first_ready_from margin s (from + 1) boxes = rw other refl in
      later (first_is_ready margin s boxes (from + 1) place (sym rest ∙ is))
]
  where
    some_is : {x y : ℕ} → Some x ≡ Some y → x ≡ y
    some_is e = cc

    later : IsReadyAt margin s boxes (from + 1) place → IsReadyAt margin s (b ∷ boxes) from place
    later (j, c, at, has, ready) = (suc j, c, at ∙ omega arith, has, ready)

-- where there is none, no box is ready
pub none_first : (margin : ℕ) (s : LaneState) (boxes : List BoxBound) (from : ℕ) → first_ready_from margin s from boxes ≡ None
    → list_all (λ b. not (is_ready margin s b)) boxes ≡ true
none_first margin s [] from is = refl
none_first margin s (b ∷ boxes) from is = elim (by_test (is_ready margin s b)) [
  | inl ready ↦
      let here : first_ready_from margin s from (b ∷ boxes) ≡ Some from = rw ready refl in
      absurd (some_none (sym here ∙ is))
  | inr other ↦
      let rest : first_ready_from margin s from (b ∷ boxes) ≡ first_ready_from margin s (from + 1) boxes = rw other refl in
      let later : list_all (λ c. not (is_ready margin s c)) boxes ≡ true = none_first margin s boxes (from + 1) (sym rest ∙ is) in
      both (is_ready margin s b) other later
]
  where
    some_none : {x : ℕ} → Some x ≡ None → ⊥
    some_none e = absurd cc

    both : (r : Bool) → r ≡ false → list_all (λ c. not (is_ready margin s c)) boxes ≡ true → (not r && list_all (λ c. not (is_ready margin s c)) boxes) ≡ true
    both true r all = absurd cc
    both false r all = all

-- there is a choice where a lane holds a box
pub held_choice : (ready : Option ℕ) (lanes : List Lane) (k : ℕ) → list_all is_free lanes ≡ false → 1 ≤ length (choices_from k ready lanes)
held_choice ready [] k some = absurd cc
held_choice ready (Held b ∷ lanes) k some = omega arith
held_choice ready (Idle ∷ lanes) k some =
    omega (arith, held_choice ready lanes (k + 1) some, length-append (takes_from k ready) (choices_from (k + 1) ready lanes))
held_choice ready (Gone ∷ lanes) k some = held_choice ready lanes (k + 1) some

-- and where a box is ready and a lane is left
pub ready_choice : (place : ℕ) (lanes : List Lane) (k : ℕ) → 1 ≤ sum_by alive lanes → 1 ≤ length (choices_from k (Some place) lanes)
ready_choice place [] k some = absurd (omega (arith, some))
ready_choice place (Idle ∷ lanes) k some = omega arith
ready_choice place (Held b ∷ lanes) k some = omega arith
ready_choice place (Gone ∷ lanes) k some = ready_choice place lanes (k + 1) (omega (arith, some, sum_by-cons alive Gone lanes))

module _ (bound : NodeBox → ℕ) (margin budget : ℕ) where
  -- an event is possible, and leaves a lane
  abbrev pub IsPossible : LaneState → LaneEvent → Type 0
  IsPossible s event = (mid : LaneState) × (step_open bound margin budget s event ≡ Some mid) × (1 ≤ sum_by alive mid.lanes)
      × (length mid.lanes ≡ length s.lanes)

  -- a lane that has no box can take a ready one
  pub take_possible : (s : LaneState) (lane place : ℕ) (b : BoxBound) → 1 ≤ sum_by alive s.lanes → slice_get s.lanes lane ≡ Some Idle
      → slice_get s.waiting place ≡ Some b → is_ready margin s b ≡ true → IsPossible s (Take lane place)
  take_possible s lane place b some idle there ready = (
    record s { waiting = remove s.waiting place; lanes = set s.lanes lane (Held b) },
    looked ∙ rw ready refl,
    omega (arith, some, sum_set alive s.lanes lane Idle (Held b) idle),
    length-set s.lanes lane (Held b),
  )
    where
      looked : step_open bound margin budget s (Take lane place) ≡ take_box margin s lane place Idle b
      looked =
          ap (λ (o : Option Lane). option_and_then (λ (l : Lane). option_and_then (take_box margin s lane place l) (slice_get s.waiting place)) o) idle
          ∙ ap (λ (o : Option BoxBound). option_and_then (take_box margin s lane place Idle) o) there

  -- a lane that holds a box can be done with it
  pub done_possible : (s : LaneState) (lane : ℕ) (b : BoxBound) → 1 ≤ sum_by alive s.lanes → slice_get s.lanes lane ≡ Some (Held b)
      → IsPossible s (Done lane)
  done_possible s lane b some has = elim (by_test (nat_lt budget (s.met + length (children_of b.area)))) [
    | inl full ↦ (record s { over = true }, looked ∙ rw full refl, some, refl)
    | inr room ↦
        (opened bound s lane b, looked ∙ rw room refl, omega (arith, some, sum_set alive s.lanes lane (Held b) Idle has), length-set s.lanes lane Idle)
  ]
    where
      looked : step_open bound margin budget s (Done lane) ≡ finish_box bound budget s lane (Held b)
      looked = ap (λ (o : Option Lane). option_and_then (finish_box bound budget s lane) o) has

  -- a lane that isn't gone can be lost, where it isn't the last one
  pub lost_possible : (s : LaneState) (lane : ℕ) (l : Lane) → 2 ≤ sum_by alive s.lanes → slice_get s.lanes lane ≡ Some l → is_live l ≡ true
      → IsPossible s (Lost lane)
  lost_possible s lane l some has live = (
    record s { waiting = s.waiting ++ held_by l; lanes = set s.lanes lane Gone },
    looked ∙ rw live refl,
    omega (arith, some, sum_set alive s.lanes lane l Gone has, at_most_one l),
    length-set s.lanes lane Gone,
  )
    where
      looked : step_open bound margin budget s (Lost lane) ≡ lose_lane s lane l
      looked = ap (λ (o : Option Lane). option_and_then (lose_lane s lane) o) has

      at_most_one : (l : Lane) → alive l ≤ 1
      at_most_one Idle = omega arith
      at_most_one (Held b) = omega arith
      at_most_one Gone = omega arith

  -- each choice of the lanes from a number on is possible
  pub choices_possible : (s : LaneState) → 1 ≤ sum_by alive s.lanes → (lanes : List Lane) (k : ℕ)
      → ((j : ℕ) → slice_get lanes j ≡ slice_get s.lanes (k + j)) → AllByRecursion (IsPossible s) (choices_from k (first_ready margin s) lanes)
  choices_possible s some [] k there = tt
  choices_possible s some (l ∷ lanes) k there =
      all-append (IsPossible s) (choices_of k (first_ready margin s) l) (choices_from (k + 1) (first_ready margin s) lanes)
      (here l (sym (there 0 ∙ ap (slice_get s.lanes) zero_more)))
      (choices_possible s some lanes (k + 1) (λ j. there (suc j) ∙ ap (slice_get s.lanes) (one_more j)))
    where
      zero_more : k + 0 ≡ k
      zero_more = omega arith

      one_more : (j : ℕ) → k + suc j ≡ k + 1 + j
      one_more j = omega arith

      take_first : (o : Option ℕ) → first_ready margin s ≡ o → slice_get s.lanes k ≡ Some Idle → AllByRecursion (IsPossible s) (takes_from k o)
      take_first None is idle = tt
      take_first (Some place) is idle = (ready_at (first_is_ready margin s s.waiting 0 place is), tt)
        where
          ready_at : IsReadyAt margin s s.waiting 0 place → IsPossible s (Take k place)
          ready_at (j, b, at, has, ready) =
              take_possible s k place b some idle (ap (slice_get s.waiting) (at ∙ omega arith) ∙ has) ready

      here : (l : Lane) → slice_get s.lanes k ≡ Some l → AllByRecursion (IsPossible s) (choices_of k (first_ready margin s) l)
      here Idle has = take_first (first_ready margin s) refl has
      here (Held b) has = (done_possible s k b some has, tt)
      here Gone has = tt

  -- there is a choice while a run isn't finished and a lane is left
  pub some_choice : (s : LaneState) → 1 ≤ sum_by alive s.lanes → s.over ≡ false → is_finished margin s ≡ false → 1 ≤ length (choices margin s)
  some_choice s some open' unfinished = by_ready (first_ready margin s) refl
    where
      not_free : (a b : Bool) → (s.over || (a && b)) ≡ false → b ≡ true → a ≡ false
      not_free true true not_both all = absurd (or_true s.over not_both)
        where
          or_true : (o : Bool) → (o || true) ≡ false → ⊥
          or_true true e = absurd cc
          or_true false e = absurd cc
      not_free true false not_both all = absurd cc
      not_free false b not_both all = refl

      by_ready : (o : Option ℕ) → first_ready margin s ≡ o → 1 ≤ length (choices_from 0 o s.lanes)
      by_ready (Some place) is = ready_choice place s.lanes 0 some
      by_ready None is =
          held_choice None s.lanes 0
          (not_free (list_all is_free s.lanes) (list_all (λ b. not (is_ready margin s b)) s.waiting) unfinished (none_first margin s s.waiting 0 is))

  -- the next event of a schedule is possible
  pub next_possible : (s : LaneState) (seed : ℕ) → 1 ≤ sum_by alive s.lanes → s.over ≡ false → is_finished margin s ≡ false
      → IsPossible s (next_event margin s seed)
  next_possible s seed some open' unfinished = elim (by_test (loses s seed)) [
    | inl lost ↦
        let is : next_event margin s seed ≡ Lost (last_of (live_from 0 s.lanes)) = rw lost refl in
        subst (IsPossible s) (sym is)
        (last_lost (more_than_one (and_parts (draw seed % 64 == 0) (nat_lt 1 (length (live_from 0 s.lanes))) lost).1))
    | inr kept ↦
        let place : ℕ = draw (next_state seed) % length (choices margin s) in
        let is : next_event margin s seed ≡ get_or (choices margin s) place (Lost 0) = rw kept refl in
        subst (IsPossible s) (sym is)
        (All-from_recursion (IsPossible s) (choices margin s) (choices_possible s some s.lanes 0 (λ j. ap (slice_get s.lanes) (none_more j)))
        place (Lost 0) (mod_below (draw (next_state seed)) (length (choices margin s)) (some_choice s some open' unfinished)))
  ]
    where
      none_more : (j : ℕ) → j ≡ 0 + j
      none_more j = omega arith

      more_than_one : nat_lt 1 (length (live_from 0 s.lanes)) ≡ true → 1 < length (live_from 0 s.lanes)
      more_than_one is = grind (arith, nat_tests)

      last_lost : 1 < length (live_from 0 s.lanes) → IsPossible s (Lost (last_of (live_from 0 s.lanes)))
      last_lost more = lost_at (last_live s.lanes 0 (omega (arith, more)))
        where
          lost_at : IsLiveAt s.lanes 0 (last_of (live_from 0 s.lanes)) → IsPossible s (Lost (last_of (live_from 0 s.lanes)))
          lost_at (j, l, at, has, live) =
              lost_possible s (last_of (live_from 0 s.lanes)) l (omega (arith, more, live_count s.lanes 0))
              (ap (slice_get s.lanes) (at ∙ omega arith) ∙ has) live
