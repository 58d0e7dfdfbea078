-- What the code chooses is the next event of a schedule.
use Rattle.std.proofs.Common.{◌≡◌, inl, inr, ℕ, ◌+◌, ◌≤◌, arith, Bool, true, false, List, [], ◌∷◌, ◌++◌, length, map, drop, refl, ap, sym, ◌∙◌, subst}
use Rattle.std.specs.Prelude.{◌&&◌, ◌||◌, not, nat_lt, if◌then◌else◌, IfNone, IfSome, MatchOption, Option, Some, None}
use Rattle.std.specs.List.{list_all}
use Rattle.std.proofs.lemmas.Bool.{and_parts}
use Rattle.std.proofs.lemmas.List.{drop-map, length-map}
use Rattle.node_boxes.specs.declared.node_box.BoxBound.{BoxBound}
use Rattle.node_boxes.specs.Boxes.{is_single}
use Rattle.octree_search.specs.declared.queue.Waiting.{Waiting}
use Rattle.octree_search.specs.Cover.{threshold_of}
use Rattle.octree_search.proofs.Choices.{by_test}
use Rattle.search_lanes.specs.declared.lane_events.LaneEvent.{LaneEvent}
use Rattle.search_lanes.specs.declared.lane_slots.Slot.{Slot}
use Rattle.search_lanes.specs.Lanes.{Lane, Idle, Held, Gone, LaneState, is_finished, is_free, is_ready, upper_of}
use Rattle.search_lanes.specs.Schedule.{choices_from, first_ready, first_ready_from, live_from, next_event}
use Rattle.search_lanes.specs.Inside.Choosing.{chosen_event, first_from}
use Rattle.search_lanes.specs.Inside.Passing.{IsPassed}
use Rattle.search_lanes.specs.Inside.Slots.{boxed, busy, greatest_bound, lane_of, state_of}
use Rattle.search_lanes.proofs.LaneFits.{upper_seen}
use Rattle.search_lanes.proofs.NextEvents.{live_count, some_choice}
use Rattle.search_lanes.proofs.Passed.{first_after, passed_first}
use Rattle.search_lanes.proofs.RunEnds.{or_rest}

-- the first ready box, as the code keeps boxes
pub first_is : (margin : ℕ) (s : LaneState) (ws : List Waiting) (place : ℕ)
    → first_from (threshold_of margin (upper_of s)) place ws ≡ first_ready_from margin s place (map boxed ws)
first_is margin s [] place = refl
first_is margin s (w ∷ ws) place =
    turned (is_single w.area || nat_lt w.bound (threshold_of margin (upper_of s)))
    (first_from (threshold_of margin (upper_of s)) (place + 1) ws) (first_ready_from margin s (place + 1) (map boxed ws)) (first_is margin s ws (place + 1))
  where
    turned : (low : Bool) (x y : Option ℕ) → x ≡ y → (if low then x else Some place) ≡ (if not low then Some place else y)
    turned true x y same = same
    turned false x y same = refl

-- where no box is ready, there is no first one
pub none_ready_from : (margin : ℕ) (s : LaneState) (place : ℕ) (boxes : List BoxBound) → list_all (λ b. not (is_ready margin s b)) boxes ≡ true
    → first_ready_from margin s place boxes ≡ None
none_ready_from margin s place [] all = refl
none_ready_from margin s place (b ∷ boxes) all =
    let parts = and_parts (not (is_ready margin s b)) (list_all (λ c. not (is_ready margin s c)) boxes) all in
    passed (is_ready margin s b) parts.0 (first_ready_from margin s (place + 1) boxes) (none_ready_from margin s (place + 1) boxes parts.1)
  where
    passed : (ready : Bool) → not ready ≡ true → (o : Option ℕ) → o ≡ None → (if ready then Some place else o) ≡ None
    passed true is o none = absurd cc
    passed false is o none = none

-- then lanes that hold no box can do nothing
pub no_choices : (lanes : List Lane) (k : ℕ) → list_all is_free lanes ≡ true → choices_from k None lanes ≡ []
no_choices [] k all = refl
no_choices (Idle ∷ lanes) k all = no_choices lanes (k + 1) all
no_choices (Held b ∷ lanes) k all = absurd cc
no_choices (Gone ∷ lanes) k all = no_choices lanes (k + 1) all

-- so there is no choice once a run is finished that isn't over
pub finished_none : (margin : ℕ) (s : LaneState) → s.over ≡ false → is_finished margin s ≡ true → choices_from 0 (first_ready margin s) s.lanes ≡ []
finished_none margin s open' finished =
    let parts = and_parts (list_all is_free s.lanes) (list_all (λ b. not (is_ready margin s b)) s.waiting)
    (or_rest s.over (list_all is_free s.lanes && list_all (λ b. not (is_ready margin s b)) s.waiting) finished open') in
    ap (λ (o : Option ℕ). choices_from 0 o s.lanes) (none_ready_from margin s 0 s.waiting parts.1) ∙ no_choices s.lanes 0 parts.0

-- what the lanes do next is the next event of the schedule, and there is none where the run is finished
pub choice_is : (margin : ℕ) (s : LaneState) (ready : Option ℕ) (seed : ℕ) (r : Option LaneEvent) → s.over ≡ false
    → 1 ≤ length (live_from 0 s.lanes) → ready ≡ first_ready margin s → IfNone r (choices_from 0 ready s.lanes ≡ [])
    → IfSome r (λ event. (1 ≤ length (choices_from 0 ready s.lanes)) × (event ≡ chosen_event ready s.lanes seed))
    → MatchOption r (is_finished margin s ≡ true) (λ event. (is_finished margin s ≡ false) × (event ≡ next_event margin s seed))
choice_is margin s ready seed None open' live first none some = elim (by_test (is_finished margin s)) [
  | inl finished ↦ finished
  | inr going ↦
      let more : 1 ≤ length (choices_from 0 (first_ready margin s) s.lanes) =
      some_choice (λ _. 0) margin 0 s (omega (arith, live, live_count s.lanes 0)) open' going in
      let empty : length (choices_from 0 (first_ready margin s) s.lanes) ≡ 0 = ap length (subst (λ (o : Option ℕ). choices_from 0 o s.lanes ≡ []) first none) in
      absurd (omega (arith, more, empty))
]
choice_is margin s ready seed (Some event) open' live first none (more, is) = (
  elim (by_test (is_finished margin s)) [
    | inl finished ↦
        let empty : length (choices_from 0 (first_ready margin s) s.lanes) ≡ 0 = ap length (finished_none margin s open' finished) in
        let one : 1 ≤ length (choices_from 0 (first_ready margin s) s.lanes) = subst (λ (o : Option ℕ). 1 ≤ length (choices_from 0 o s.lanes)) first more in
        absurd (omega (arith, one, empty))
    | inr going ↦ going
  ],
  is ∙ ap (λ (o : Option ℕ). chosen_event o s.lanes seed) first,
)

-- the first ready box, looked for after those that were passed over
pub first_found : (margin : ℕ) (ws : List Waiting) (slots : List Slot) (met : ℕ) (over : Bool) (upper least : ℕ) (ready : Option ℕ) (passed : ℕ)
    (now : List Waiting) → now ≡ ws → upper ≡ greatest_bound (ws ++ busy slots) → least ≡ threshold_of margin upper
    → ready ≡ first_from least passed (drop passed now) → IsPassed margin (state_of ws slots met over) passed
    → ready ≡ first_ready margin (state_of ws slots met over)
first_found margin ws slots met over upper least ready passed now boxes_are upper_is least_is ready_is low =
    ready_is
    ∙ ap (λ (boxes : List Waiting). first_from least passed (drop passed boxes)) boxes_are
    ∙ ap (λ n. first_from n passed (drop passed ws)) least_of
    ∙ first_is margin (state_of ws slots met over) (drop passed ws) passed
    ∙ ap (first_ready_from margin (state_of ws slots met over) passed) (sym (drop-map boxed passed ws))
    ∙ ap (λ k. first_ready_from margin (state_of ws slots met over) k (drop passed (map boxed ws))) none_before
    ∙ first_after margin (state_of ws slots met over) passed 0 (map boxed ws) low.low low.few
  where
    least_of : least ≡ threshold_of margin (upper_of (state_of ws slots met over))
    least_of = least_is ∙ ap (threshold_of margin) (upper_is ∙ sym (upper_seen ws slots met over))

    none_before : passed ≡ 0 + passed
    none_before = omega arith

-- as many are passed over then as stand before it
pub passed_found : (margin : ℕ) (ws : List Waiting) (slots : List Slot) (met : ℕ) (over : Bool) (ready : Option ℕ) (count long : ℕ)
    → ready ≡ first_ready margin (state_of ws slots met over) → long ≡ length ws → MatchOption ready (count ≡ long) (λ place. count ≡ place)
    → IsPassed margin (state_of ws slots met over) count
passed_found margin ws slots met over ready count long found long_is before =
    passed_first margin (state_of ws slots met over) ready count (sym found)
    (subst (λ n. MatchOption ready (count ≡ n) (λ place. count ≡ place)) (long_is ∙ sym (length-map ws boxed)) before)

-- the same, as the code keeps boxes and lanes
pub choice_is_next : (margin : ℕ) (ws : List Waiting) (slots : List Slot) (met : ℕ) (over : Bool) (ready : Option ℕ)
    (seed : ℕ) (r : Option LaneEvent) (held : List Slot) → held ≡ slots → over ≡ false → ready ≡ first_ready margin (state_of ws slots met over)
    → 1 ≤ length (live_from 0 (map lane_of slots)) → IfNone r (choices_from 0 ready (map lane_of held) ≡ [])
    → IfSome r (λ event. (1 ≤ length (choices_from 0 ready (map lane_of held))) × (event ≡ chosen_event ready (map lane_of held) seed))
    → MatchOption r (is_finished margin (state_of ws slots met over) ≡ true)
    (λ event. (is_finished margin (state_of ws slots met over) ≡ false) × (event ≡ next_event margin (state_of ws slots met over) seed))
choice_is_next margin ws slots met over ready seed r held slots_are not_over first live none some =
    choice_is margin (state_of ws slots met over) ready seed r not_over live first
    (subst (λ (all : List Slot). IfNone r (choices_from 0 ready (map lane_of all) ≡ [])) slots_are none)
    (subst (λ (all : List Slot). IfSome r (λ event. (1 ≤ length (choices_from 0 ready (map lane_of all))) × (event ≡ chosen_event ready (map lane_of all) seed))) slots_are some)
