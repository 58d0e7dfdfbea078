-- Open boxes that aren't ready stay so as long as the greatest bound does: the first ready one is looked for after them.
use Rattle.std.proofs.Common.{◌≡◌, inl, inr, ℕ, zero, suc, ◌+◌, ◌≤◌, ◌<◌, arith, Bool, true, false, List, [], ◌∷◌, ◌++◌, length, map, take, drop, refl, ap, sym, ◌∙◌, subst}
use Rattle.std.specs.Prelude.{◌&&◌, ◌||◌, ◌==◌, if◌then◌else◌, not, nat_lt, set, slice_get, option_and_then, Option, Some, None, MatchOption}
use Rattle.std.specs.List.{AllByRecursion, remove}
use Rattle.std.proofs.lemmas.Bool.{and_parts}
use Rattle.std.proofs.lemmas.Bool.Decides.{nat_tests}
use Rattle.std.proofs.lemmas.List.{length-append}
use Rattle.node_boxes.specs.declared.node_box.NodeBox.{NodeBox}
use Rattle.node_boxes.specs.declared.node_box.BoxBound.{BoxBound}
use Rattle.node_boxes.specs.Boxes.{is_single}
use Rattle.node_boxes.specs.Children.{children_of}
use Rattle.octree_search.specs.Cover.{threshold_of}
use Rattle.octree_search.specs.Outcomes.{bounded}
use Rattle.octree_search.proofs.Choices.{by_test}
use Rattle.search_lanes.specs.declared.lane_events.LaneEvent.{LaneEvent}
use Rattle.search_lanes.specs.declared.lane_events.LaneEvent.TheVariants.{Take, Done, Lost}
use Rattle.search_lanes.specs.Lanes.{Lane, Idle, Held, Gone, LaneState, finish_box, held_by, is_idle, is_live, is_ready, lose_lane, opened, step, step_open, take_box, upper_of}
use Rattle.search_lanes.specs.Schedule.{first_ready_from}
use Rattle.search_lanes.specs.Inside.Passing.{IsPassed}
use Rattle.search_lanes.proofs.LaneBoxes.{if_none, if_some}

-- the first elements stand before those that are added at the end
take_before : {X : Type 0} (n : ℕ) (xs ys : List X) → n ≤ length xs → take n (xs ++ ys) ≡ take n xs
take_before zero xs ys few = refl
take_before (suc n) [] ys few = absurd (omega (arith, few))
take_before (suc n) (x ∷ xs) ys few = ap (λ rest. x ∷ rest) (take_before n xs ys (omega (arith, few)))

-- and before one that is removed
take_removed : {X : Type 0} (n place : ℕ) (xs : List X) → n ≤ place → place < length xs → take n (remove xs place) ≡ take n xs
take_removed zero place xs before there = refl
take_removed (suc n) zero xs before there = absurd (omega (arith, before))
take_removed (suc n) (suc place) [] before there = absurd (omega (arith, there))
take_removed (suc n) (suc place) (x ∷ xs) before there =
    ap (λ rest. x ∷ rest) (take_removed n place xs (omega (arith, before)) (omega (arith, there)))

length_removed : {X : Type 0} (place : ℕ) (xs : List X) → place < length xs → length (remove xs place) + 1 ≡ length xs
length_removed zero [] there = absurd (omega (arith, there))
length_removed zero (x ∷ xs) there = omega arith
length_removed (suc place) [] there = absurd (omega (arith, there))
length_removed (suc place) (x ∷ xs) there = let rest = length_removed place xs (omega (arith, there)) in omega (arith, rest)

-- what is found at a place stands there
found_below : {X : Type 0} (place : ℕ) (xs : List X) (x : X) → slice_get xs place ≡ Some x → place < length xs
found_below zero [] x at = absurd cc
found_below zero (y ∷ xs) x at = omega arith
found_below (suc place) [] x at = absurd cc
found_below (suc place) (y ∷ xs) x at = let rest = found_below place xs x at in omega (arith, rest)

module _ (margin : ℕ) where
  -- none of some boxes is ready
  abbrev pub AreLow : LaneState → List BoxBound → Type 0
  AreLow s boxes = AllByRecursion (λ (b : BoxBound). is_ready margin s b ≡ false) boxes

  -- that hangs on the greatest bound alone
  low_same : (s mid : LaneState) (boxes : List BoxBound) → upper_of mid ≡ upper_of s → AreLow s boxes → AreLow mid boxes
  low_same s mid boxes same low =
      subst (λ u. AllByRecursion (λ (b : BoxBound). not (is_single b.area || nat_lt b.bound (threshold_of margin u)) ≡ false) boxes) (sym same) low

  -- a ready box stands after those that aren't
  after_low : (s : LaneState) (n place : ℕ) (boxes : List BoxBound) (b : BoxBound) → AreLow s (take n boxes) → slice_get boxes place ≡ Some b
      → is_ready margin s b ≡ true → n ≤ place
  after_low s zero place boxes b low at ready = omega arith
  after_low s (suc n) zero [] b low at ready = absurd cc
  after_low s (suc n) zero (c ∷ boxes) b low at ready = absurd (not_both (ap (is_ready margin s) (some_is at)) low.0 ready)
    where
      some_is : {x y : BoxBound} → Some x ≡ Some y → x ≡ y
      some_is e = cc

      not_both : {x y : Bool} → x ≡ y → x ≡ false → y ≡ true → ⊥
      not_both e low' ready' = absurd cc
  after_low s (suc n) (suc place) [] b low at ready = absurd cc
  after_low s (suc n) (suc place) (c ∷ boxes) b low at ready = let rest = after_low s n place boxes b low.1 at ready in omega (arith, rest)

  -- the first ready box is found after those that aren't
  pub first_after : (s : LaneState) (n from : ℕ) (boxes : List BoxBound) → AreLow s (take n boxes)
      → n ≤ length boxes → first_ready_from margin s (from + n) (drop n boxes) ≡ first_ready_from margin s from boxes
  first_after s zero from boxes low few = ap (λ k. first_ready_from margin s k boxes) zero_more
    where
      zero_more : from + 0 ≡ from
      zero_more = omega arith
  first_after s (suc n) from [] low few = absurd (omega (arith, few))
  first_after s (suc n) from (b ∷ boxes) low few =
      let one_more : from + suc n ≡ from + 1 + n = omega arith in
      let here : first_ready_from margin s from (b ∷ boxes) ≡ first_ready_from margin s (from + 1) boxes = rw low.0 refl in
      ap (λ k. first_ready_from margin s k (drop n boxes)) one_more ∙ first_after s n (from + 1) boxes low.1 (omega (arith, few)) ∙ sym here

  -- boxes before the first ready one aren't ready
  abbrev pub IsFirstAt : LaneState → List BoxBound → ℕ → ℕ → Type 0
  IsFirstAt s boxes from place = (j : ℕ) × (place ≡ from + j) × (j < length boxes) × AreLow s (take j boxes)

  first_at : (s : LaneState) (boxes : List BoxBound) (from place : ℕ) → first_ready_from margin s from boxes ≡ Some place → IsFirstAt s boxes from place
  first_at s [] from place is = absurd cc
  first_at s (b ∷ boxes) from place is = elim (by_test (is_ready margin s b)) [
    | inl ready ↦
        let here : first_ready_from margin s from (b ∷ boxes) ≡ Some from = rw ready refl in
        (0, some_is (sym is ∙ here) ∙ omega arith, omega arith, tt)
    | inr low ↦
        let rest : first_ready_from margin s from (b ∷ boxes) ≡ first_ready_from margin s (from + 1) boxes = rw low refl in
        later low (first_at s boxes (from + 1) place (sym rest ∙ is))
  ]
    where
      some_is : {x y : ℕ} → Some x ≡ Some y → x ≡ y
      some_is e = cc

      later : is_ready margin s b ≡ false → IsFirstAt s boxes (from + 1) place → IsFirstAt s (b ∷ boxes) from place
      later low (j, at, there, before) = (suc j, at ∙ omega arith, omega (arith, there), (low, before))

  -- where none is found, no box is ready
  none_at : (s : LaneState) (boxes : List BoxBound) (from : ℕ) → first_ready_from margin s from boxes ≡ None → AreLow s boxes
  none_at s [] from is = tt
  none_at s (b ∷ boxes) from is = elim (by_test (is_ready margin s b)) [
    | inl ready ↦
        let here : first_ready_from margin s from (b ∷ boxes) ≡ Some from = rw ready refl in
        absurd (some_none (sym here ∙ is))
    | inr low ↦
        let rest : first_ready_from margin s from (b ∷ boxes) ≡ first_ready_from margin s (from + 1) boxes = rw low refl in
        (low, none_at s boxes (from + 1) (sym rest ∙ is))
  ]
    where
      some_none : {x : ℕ} → Some x ≡ None → ⊥
      some_none e = absurd cc

  -- all boxes are taken by their number
  take_all : (boxes : List BoxBound) → take (length boxes) boxes ≡ boxes
  take_all [] = refl
  take_all (b ∷ boxes) = ap (λ rest. b ∷ rest) (take_all boxes)

  -- so many boxes are passed over when the first ready one has been looked for
  pub passed_first : (s : LaneState) (found : Option ℕ) (count : ℕ) → first_ready_from margin s 0 s.waiting ≡ found
      → MatchOption found (count ≡ length s.waiting) (λ place. count ≡ place) → IsPassed margin s count
  passed_first s None count is whole = record {
    few = omega (arith, whole);
    low = subst (λ n. AreLow s (take n s.waiting)) (sym whole) (subst (AreLow s) (sym (take_all s.waiting)) (none_at s s.waiting 0 is));
  }
  passed_first s (Some place) count is same = at (first_at s s.waiting 0 place is)
    where
      at : IsFirstAt s s.waiting 0 place → IsPassed margin s count
      at (j, place_is, there, before) =
          let count_is : count ≡ j = same ∙ place_is ∙ omega arith in
          record { few = omega (arith, count_is, there); low = subst (λ n. AreLow s (take n s.waiting)) (sym count_is) before }

  -- none is passed over at first
  pub passed_none : (s : LaneState) → IsPassed margin s 0
  passed_none s = record { few = omega arith; low = tt }

  module _ (bound : NodeBox → ℕ) (budget : ℕ) (count : ℕ) where
    -- a state whose first open boxes are the same
    abbrev Same : LaneState → LaneState → Type 0
    Same s mid = (count ≤ length mid.waiting) × (take count mid.waiting ≡ take count s.waiting)

    take_same : (s mid : LaneState) (lane place : ℕ) (l : Lane) (b : BoxBound) → slice_get s.waiting place ≡ Some b
        → take_box margin s lane place l b ≡ Some mid → IsPassed margin s count → Same s mid
    take_same s mid lane place l b there is passed =
        let got = if_some (is_idle l && is_ready margin s b) (record s { waiting = remove s.waiting place; lanes = set s.lanes lane (Held b) }) mid is in
        let parts = and_parts (is_idle l) (is_ready margin s b) got.0 in
        let after : count ≤ place = after_low s count place s.waiting b passed.low there parts.1 in
        let below : place < length s.waiting = found_below place s.waiting b there in
        let shorter = length_removed place s.waiting below in
        subst (Same s) got.1 (omega (arith, after, below, shorter), take_removed count place s.waiting after below)

    added_same : (s mid : LaneState) (more : List BoxBound) → mid.waiting ≡ s.waiting ++ more → IsPassed margin s count → Same s mid
    added_same s mid more is passed =
        let few = passed.few in
        let long : length mid.waiting ≡ length s.waiting + length more = ap length is ∙ length-append s.waiting more in
        (omega (arith, few, long), ap (take count) is ∙ take_before count s.waiting more few)

    finish_same : (s mid : LaneState) (lane : ℕ) (l : Lane) → finish_box bound budget s lane l ≡ Some mid → IsPassed margin s count → Same s mid
    finish_same s mid lane Idle is passed = absurd cc
    finish_same s mid lane Gone is passed = absurd cc
    finish_same s mid lane (Held b) is passed = elim (by_test (nat_lt budget (s.met + length (children_of b.area)))) [
      | inl full ↦
          let over : Some (record s { over = true }) ≡ Some mid = sym (rw full refl) ∙ is in
          subst (Same s) (some_is over) (passed.few, refl)
      | inr room ↦
          let more : Some (opened bound s lane b) ≡ Some mid = sym (rw room refl) ∙ is in
          subst (Same s) (some_is more) (added_same s (opened bound s lane b) (map (bounded bound) (children_of b.area)) refl passed)
    ]
      where
        some_is : {x y : LaneState} → Some x ≡ Some y → x ≡ y
        some_is e = cc

    lose_same : (s mid : LaneState) (lane : ℕ) (l : Lane) → lose_lane s lane l ≡ Some mid → IsPassed margin s count → Same s mid
    lose_same s mid lane l is passed =
        let got = if_some (is_live l) (record s { waiting = s.waiting ++ held_by l; lanes = set s.lanes lane Gone }) mid is in
        subst (Same s) got.1 (added_same s (record s { waiting = s.waiting ++ held_by l; lanes = set s.lanes lane Gone }) (held_by l) refl passed)

    take_found : (s mid : LaneState) (lane place : ℕ) (l : Option Lane) (b : Option BoxBound) → slice_get s.waiting place ≡ b
        → option_and_then (λ (m : Lane). option_and_then (take_box margin s lane place m) b) l ≡ Some mid → IsPassed margin s count → Same s mid
    take_found s mid lane place None b there is passed = absurd cc
    take_found s mid lane place (Some l) None there is passed = absurd cc
    take_found s mid lane place (Some l) (Some b) there is passed = take_same s mid lane place l b there is passed

    finish_found : (s mid : LaneState) (lane : ℕ) (l : Option Lane) → option_and_then (finish_box bound budget s lane) l ≡ Some mid
        → IsPassed margin s count → Same s mid
    finish_found s mid lane None is passed = absurd cc
    finish_found s mid lane (Some l) is passed = finish_same s mid lane l is passed

    lose_found : (s mid : LaneState) (lane : ℕ) (l : Option Lane) → option_and_then (lose_lane s lane) l ≡ Some mid
        → IsPassed margin s count → Same s mid
    lose_found s mid lane None is passed = absurd cc
    lose_found s mid lane (Some l) is passed = lose_same s mid lane l is passed

    event_same : (s mid : LaneState) (event : LaneEvent) → step_open bound margin budget s event ≡ Some mid → IsPassed margin s count → Same s mid
    event_same s mid (Take lane place) is passed = take_found s mid lane place (slice_get s.lanes lane) (slice_get s.waiting place) refl is passed
    event_same s mid (Done lane) is passed = finish_found s mid lane (slice_get s.lanes lane) is passed
    event_same s mid (Lost lane) is passed = lose_found s mid lane (slice_get s.lanes lane) is passed

    -- an event after which the greatest bound is the same leaves them at the front
    pub passed_step : (s mid : LaneState) (event : LaneEvent) → step bound margin budget s event ≡ Some mid → upper_of mid ≡ upper_of s
        → IsPassed margin s count → IsPassed margin mid count
    passed_step s mid event is same passed =
        let parts = if_none s.over (step_open bound margin budget s event) mid is in
        let kept = event_same s mid event parts.1 passed in
        record { few = kept.0; low = subst (AreLow mid) (sym kept.1) (low_same s mid (take count s.waiting) same passed.low) }

    -- and after any event none or all of them do, by whether it is the same
    pub passed_after : (s mid : LaneState) (event : LaneEvent) (before now still : ℕ) → step bound margin budget s event ≡ Some mid
        → before ≡ upper_of s → now ≡ upper_of mid → still ≡ (if before == now then count else 0) → IsPassed margin s count → IsPassed margin mid still
    passed_after s mid event before now still is old new still_is passed = elim (by_test (before == now)) [
      | inl equal ↦
          let same : before ≡ now = grind (arith, nat_tests) in
          let all : still ≡ count = still_is ∙ rw equal refl in
          subst (IsPassed margin mid) (sym all) (passed_step s mid event is (sym new ∙ sym same ∙ old) passed)
      | inr other ↦
          let none : still ≡ 0 = still_is ∙ rw other refl in
          subst (IsPassed margin mid) (sym none) (passed_none mid)
    ]
