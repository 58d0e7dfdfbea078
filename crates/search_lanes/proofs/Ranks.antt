-- Every event lessens a rank, so no run goes on for ever.
use Rattle.std.proofs.Common.{◌≡◌, inl, inr, ℕ, zero, suc, ◌+◌, ◌-◌, ◌*◌, ◌≤◌, ◌<◌, arith, true, false, List, [], ◌∷◌, ◌++◌, length, refl, ap, sym, ◌∙◌, subst, sum_by}
use Rattle.std.specs.Prelude.{◌&&◌, nat_lt, if◌then◌else◌, Option, Some, None, option_and_then, replicate, set, slice_get}
use Rattle.std.specs.List.{AllByRecursion, remove}
use Rattle.std.proofs.lemmas.Bool.{and_parts}
use Rattle.std.proofs.lemmas.Bool.Decides.{nat_tests}
use Rattle.std.proofs.lemmas.List.Folds.{sum_by-replicate}
use Rattle.std.proofs.lemmas.List.Sums.{sum_by-cons}
use Rattle.node_boxes.specs.declared.node_box.NodeBox.{NodeBox}
use Rattle.node_boxes.specs.declared.node_box.BoxBound.{BoxBound}
use Rattle.node_boxes.specs.Children.{children_of}
use Rattle.octree_search.proofs.Choices.{by_test}
use Rattle.search_lanes.specs.declared.lane_events.LaneEvent.{LaneEvent}
use Rattle.search_lanes.specs.declared.lane_events.LaneEvent.TheVariants.{Take, Done, Lost}
use Rattle.search_lanes.specs.Lanes.{Lane, Idle, Held, Gone, LaneState, finish_box, held, held_by, is_idle, is_live, is_ready, lose_lane, opened, start, step_open, take_box}
use Rattle.search_lanes.proofs.LaneBoxes.{if_some, idle_is}

-- what a lane can still do without a box being opened: take one and be lost, or be lost with one
abbrev pub weigh_lane : Lane → ℕ
weigh_lane Idle = 2
weigh_lane (Held b) = 1
weigh_lane Gone = 0

-- how many events can follow at the most
abbrev pub rank : ℕ → LaneState → ℕ
rank budget s = if s.over then 0 else (budget - s.met) + sum_by weigh_lane s.lanes

-- a box has several children
abbrev pub HasSeveral : BoxBound → Type 0
HasSeveral b = 2 ≤ length (children_of b.area)

-- one lane gets another state, so a sum over the lanes changes by its part
pub sum_set : (f : Lane → ℕ) (lanes : List Lane) (k : ℕ) (old new : Lane) → slice_get lanes k ≡ Some old
    → sum_by f (set lanes k new) + f old ≡ sum_by f lanes + f new
sum_set f [] k old new is = absurd cc
sum_set f (l ∷ lanes) zero old new is =
    let same : l ≡ old = cc in
    let weight : f l ≡ f old = ap f same in
    omega (arith, weight, sum_by-cons f new lanes, sum_by-cons f l lanes)
sum_set f (l ∷ lanes) (suc k) old new is =
    omega (arith, sum_set f lanes k old new is, sum_by-cons f l lanes, sum_by-cons f l (set lanes k new))

-- the box that a lane holds is one of those that are held
pub held_there : (P : BoxBound → Type 0) (lanes : List Lane) (k : ℕ) (b : BoxBound) → slice_get lanes k ≡ Some (Held b)
    → AllByRecursion P (held lanes) → P b
held_there P [] k b is all = absurd cc
held_there P (Held c ∷ lanes) zero b is (here, all) = let same : c ≡ b = cc in subst P same here
held_there P (Idle ∷ lanes) zero b is all = absurd cc
held_there P (Gone ∷ lanes) zero b is all = absurd cc
held_there P (Held c ∷ lanes) (suc k) b is (here, all) = held_there P lanes k b is all
held_there P (Idle ∷ lanes) (suc k) b is all = held_there P lanes k b is all
held_there P (Gone ∷ lanes) (suc k) b is all = held_there P lanes k b is all

module _ (bound : NodeBox → ℕ) (margin budget : ℕ) where
  -- the rank of a state whose run isn't over
  pub rank_open : (s : LaneState) → s.over ≡ false → rank budget s ≡ (budget - s.met) + sum_by weigh_lane s.lanes
  rank_open s open' = rw open' refl

  rank_over : (s : LaneState) → s.over ≡ true → rank budget s ≡ 0
  rank_over s over = rw over refl

  take_less : (s mid : LaneState) (lane place : ℕ) (l : Lane) (b : BoxBound) → slice_get s.lanes lane ≡ Some l
      → take_box margin s lane place l b ≡ Some mid → s.over ≡ false → rank budget mid < rank budget s
  take_less s mid lane place l b has is open' =
      let next : LaneState = record s { waiting = remove s.waiting place; lanes = set s.lanes lane (Held b) } in
      let got = if_some (is_idle l && is_ready margin s b) next mid is in
      let idle = idle_is l (and_parts (is_idle l) (is_ready margin s b) got.0).0 in
      let weight : weigh_lane l ≡ 2 = ap weigh_lane idle in
      subst (λ t. rank budget t < rank budget s) got.1
      (omega (arith, rank_open s open', rank_open next open', weight, sum_set weigh_lane s.lanes lane l (Held b) has))

  finish_less : (s mid : LaneState) (lane : ℕ) (l : Lane) → slice_get s.lanes lane ≡ Some l → finish_box bound budget s lane l ≡ Some mid
      → s.over ≡ false → s.met ≤ budget → AllByRecursion HasSeveral (held s.lanes) → rank budget mid < rank budget s
  finish_less s mid lane Idle has is open' within several = absurd cc
  finish_less s mid lane Gone has is open' within several = absurd cc
  finish_less s mid lane (Held b) has is open' within several = elim (by_test (nat_lt budget (s.met + length (children_of b.area)))) [
    | inl full ↦
        let over : record s { over = true } ≡ mid = some_is (sym (if_true full) ∙ is) in
        subst (λ t. rank budget t < rank budget s) over
        (omega (arith, rank_open s open', rank_over (record s { over = true }) refl, sum_set weigh_lane s.lanes lane (Held b) Idle has, sum_set weigh_lane s.lanes lane (Held b) Gone has))
    | inr room ↦
        let next : opened bound s lane b ≡ mid = some_is (sym (if_false room) ∙ is) in
        let two : 2 ≤ length (children_of b.area) = held_there HasSeveral s.lanes lane b has several in
        subst (λ t. rank budget t < rank budget s) next
        (omega (arith, rank_open s open', rank_open (opened bound s lane b) open', sum_set weigh_lane s.lanes lane (Held b) Idle has, two, unpassed room))
  ]
    where
      some_is : {x y : LaneState} → Some x ≡ Some y → x ≡ y
      some_is e = cc

      if_true : nat_lt budget (s.met + length (children_of b.area)) ≡ true
          → finish_box bound budget s lane (Held b) ≡ Some (record s { over = true })
      if_true full = rw full refl

      if_false : nat_lt budget (s.met + length (children_of b.area)) ≡ false
          → finish_box bound budget s lane (Held b) ≡ Some (opened bound s lane b)
      if_false room = rw room refl

      unpassed : nat_lt budget (s.met + length (children_of b.area)) ≡ false → s.met + length (children_of b.area) ≤ budget
      unpassed room = grind (arith, nat_tests)

  lose_less : (s mid : LaneState) (lane : ℕ) (l : Lane) → slice_get s.lanes lane ≡ Some l → lose_lane s lane l ≡ Some mid
      → s.over ≡ false → rank budget mid < rank budget s
  lose_less s mid lane l has is open' =
      let next : LaneState = record s { waiting = s.waiting ++ held_by l; lanes = set s.lanes lane Gone } in
      let got = if_some (is_live l) next mid is in
      let weight : 1 ≤ weigh_lane l = live_weighs l got.0 in
      subst (λ t. rank budget t < rank budget s) got.1
      (omega (arith, rank_open s open', rank_open next open', weight, sum_set weigh_lane s.lanes lane l Gone has))
    where
      live_weighs : (l : Lane) → is_live l ≡ true → 1 ≤ weigh_lane l
      live_weighs Idle is = omega arith
      live_weighs (Held b) is = omega arith
      live_weighs Gone is = absurd cc

  take_less' : (s mid : LaneState) (lane place : ℕ) (l : Option Lane) (b : Option BoxBound) → slice_get s.lanes lane ≡ l
      → option_and_then (λ (m : Lane). option_and_then (take_box margin s lane place m) b) l ≡ Some mid → s.over ≡ false → rank budget mid < rank budget s
  take_less' s mid lane place None b has is open' = absurd cc
  take_less' s mid lane place (Some l) None has is open' = absurd cc
  take_less' s mid lane place (Some l) (Some b) has is open' = take_less s mid lane place l b has is open'

  finish_less' : (s mid : LaneState) (lane : ℕ) (l : Option Lane) → slice_get s.lanes lane ≡ l → option_and_then (finish_box bound budget s lane) l ≡ Some mid
      → s.over ≡ false → s.met ≤ budget → AllByRecursion HasSeveral (held s.lanes) → rank budget mid < rank budget s
  finish_less' s mid lane None has is open' within several = absurd cc
  finish_less' s mid lane (Some l) has is open' within several = finish_less s mid lane l has is open' within several

  lose_less' : (s mid : LaneState) (lane : ℕ) (l : Option Lane) → slice_get s.lanes lane ≡ l → option_and_then (lose_lane s lane) l ≡ Some mid
      → s.over ≡ false → rank budget mid < rank budget s
  lose_less' s mid lane None has is open' = absurd cc
  lose_less' s mid lane (Some l) has is open' = lose_less s mid lane l has is open'

  -- the rank gets less with each event
  pub step_less : (s mid : LaneState) (event : LaneEvent) → step_open bound margin budget s event ≡ Some mid → s.over ≡ false → s.met ≤ budget
      → AllByRecursion HasSeveral (held s.lanes) → rank budget mid < rank budget s
  step_less s mid (Take lane place) is open' within several = take_less' s mid lane place (slice_get s.lanes lane) (slice_get s.waiting place) refl is open'
  step_less s mid (Done lane) is open' within several = finish_less' s mid lane (slice_get s.lanes lane) refl is open' within several
  step_less s mid (Lost lane) is open' within several = lose_less' s mid lane (slice_get s.lanes lane) refl is open'

  -- at the start it is at most the budget and two for each lane
  pub rank_start : (lanes : ℕ) (roots : List NodeBox) → rank budget (start bound budget lanes roots) ≤ budget + 2 * lanes
  rank_start lanes roots = elim (by_test (nat_lt budget (length roots))) [
    | inl full ↦ let none : rank budget (start bound budget lanes roots) ≡ 0 = rw full refl in omega (arith, none)
    | inr room ↦
        let some : rank budget (start bound budget lanes roots) ≡ (budget - length roots) + sum_by weigh_lane (replicate lanes Idle) = rw room refl in
        omega (arith, some, sum_by-replicate weigh_lane lanes Idle)
  ]
