-- What the code keeps of boxes and lanes, seen as a state.
use Rattle.std.proofs.Common.{◌≡◌, ℕ, zero, suc, ◌+◌, ◌<◌, ◌≤◌, arith, Bool, true, not, List, [], ◌∷◌, ◌++◌, length, map, take, get_or, refl, ap, sym, ◌∙◌, All, Contains}
use Rattle.std.specs.Prelude.{◌||◌, nat_lt, Option, Some, None, set, slice_get}
use Rattle.std.specs.List.{AllByRecursion, remove}
use Rattle.std.proofs.lemmas.List.{append_assoc, length-append, length-map, length-take-le, take_more}
use Rattle.std.proofs.lemmas.List.Elements.{All-from_recursion, recursion_from_All}
use Rattle.std.proofs.lemmas.List.Sorted.{All-permutation, Contains-permutation, IsPermutation-sym}
use Rattle.node_boxes.specs.declared.node_box.NodeBox.{NodeBox}
use Rattle.node_boxes.specs.Boxes.{is_single}
use Rattle.node_boxes.proofs.Lists.{all-append}
use Rattle.octree_search.specs.declared.arena.Met.{Met}
use Rattle.octree_search.specs.declared.queue.Waiting.{Waiting}
use Rattle.octree_search.specs.Arena.{fresh, waiting}
use Rattle.octree_search.specs.Cover.{threshold_of}
use Rattle.octree_search.specs.Outcomes.{bounded}
use Rattle.search_lanes.specs.declared.lane_slots.Slot.{Slot}
use Rattle.search_lanes.specs.declared.lane_slots.Slot.TheVariants.{Free, Busy, Dead}
use Rattle.search_lanes.specs.Lanes.{is_ready}
use Rattle.search_lanes.proofs.LaneBoxes.{given_set}
use Rattle.search_lanes.proofs.LaneFits.{upper_seen}
use Rattle.search_lanes.specs.Inside.Slots.{boxed, busy, busy_in, greatest_bound, held_slot, is_free_slot, is_live_slot, is_low, state_of, waits_from}

-- a list without the element at a place, seen otherwise
pub map_remove : {X Y : Type 0} (f : X → Y) (xs : List X) (k : ℕ) → map f (remove xs k) ≡ remove (map f xs) k
map_remove f [] zero = refl
map_remove f [] (suc k) = refl
map_remove f (y ∷ xs) zero = refl
map_remove f (y ∷ xs) (suc k) = ap (λ rest. f y ∷ rest) (map_remove f xs k)

-- a box is ready where it isn't low
pub ready_is : (margin upper : ℕ) (ws : List Waiting) (slots : List Slot) (met : ℕ) (over : Bool) (w : Waiting)
    → upper ≡ greatest_bound (ws ++ busy slots) → is_ready margin (state_of ws slots met over) (boxed w) ≡ not (is_low margin upper w)
ready_is margin upper ws slots met over w is =
    ap (λ u. not (is_single w.area || nat_lt w.bound (threshold_of margin u))) (upper_seen ws slots met over ∙ sym is)

-- boxes that were met one after another
pub waits_boxed : (bound : NodeBox → ℕ) (areas : List NodeBox) (from : ℕ) → map boxed (waits_from bound from areas) ≡ map (bounded bound) areas
waits_boxed bound [] from = refl
waits_boxed bound (a ∷ areas) from = ap (λ rest. bounded bound a ∷ rest) (waits_boxed bound areas (from + 1))

pub waits-more : (bound : NodeBox → ℕ) (from : ℕ) (areas : List NodeBox) (a : NodeBox)
    → waits_from bound from (areas ++ a ∷ []) ≡ waits_from bound from areas ++ waiting bound (from + length areas) a ∷ []
waits-more bound from [] a = let here : from ≡ from + 0 = omega arith in ap (λ place. waiting bound place a ∷ []) here
waits-more bound from (b ∷ areas) a =
    let here : from + 1 + length areas ≡ from + suc (length areas) = omega arith in
    ap (λ rest. waiting bound from b ∷ rest)
    (waits-more bound (from + 1) areas a ∙ ap (λ place. waits_from bound (from + 1) areas ++ waiting bound place a ∷ []) here)

-- a list with one element more
pub one_longer : {X : Type 0} (old new : List X) (x : X) → new ≡ old ++ x ∷ [] → length new ≡ length old + 1
one_longer {X} old new x is = omega (arith, ap length is, length-append {A = X} old (x ∷ []))

-- the first ones of some boxes were met
pub met_longer : (bound : NodeBox → ℕ) (met now : List Met) (areas : List NodeBox) (i : ℕ) → i ≤ length areas → now ≡ met ++ map (fresh bound) (take i areas)
    → length now ≡ length met + i
met_longer bound met now areas i within is =
    omega (
      arith,
      ap length is,
      length-append {A = Met} met (map (fresh bound) (take i areas)),
      length-map (take i areas) (fresh bound),
      length-take-le i areas within,
    )

-- one more box of a list is met
pub open_more : (bound : NodeBox → ℕ) (boxes now new : List Waiting) (from place : ℕ) (areas : List NodeBox) (i : ℕ) (d : NodeBox) → i < length areas
    → place ≡ from + i → now ≡ boxes ++ waits_from bound from (take i areas) → new ≡ now ++ waiting bound place (get_or areas i d) ∷ []
    → new ≡ boxes ++ waits_from bound from (take (i + 1) areas)
open_more bound boxes now new from place areas i d below place_is now_is new_is =
    let long : place ≡ from + length (take i areas) = omega (arith, place_is, length-take-le i areas (omega (arith, below))) in
    new_is ∙ ap (λ front. front ++ waiting bound place (get_or areas i d) ∷ []) now_is
    ∙ append_assoc boxes (waits_from bound from (take i areas)) (waiting bound place (get_or areas i d) ∷ [])
    ∙ ap (λ k. boxes ++ (waits_from bound from (take i areas) ++ waiting bound k (get_or areas i d) ∷ [])) long
    ∙ ap (λ rest. boxes ++ rest) (sym (waits-more bound from (take i areas) (get_or areas i d)))
    ∙ ap (λ all. boxes ++ waits_from bound from all) (sym (take_more areas i d below))

-- what the tests of a slot say
pub free_is : (o : Option Slot) → is_free_slot o ≡ true → o ≡ Some Free
free_is None is = absurd cc
free_is (Some Free) is = refl
free_is (Some (Busy w)) is = absurd cc
free_is (Some Dead) is = absurd cc

pub held_is : (o : Option Slot) (w : Waiting) → held_slot o ≡ Some w → o ≡ Some (Busy w)
held_is None w is = absurd cc
held_is (Some Free) w is = absurd cc
held_is (Some (Busy v)) w is = let same : v ≡ w = cc in ap (λ (u : Waiting). Some (Busy u)) same
held_is (Some Dead) w is = absurd cc

-- a lane that isn't gone and holds nothing can take a box
pub live_is : (o : Option Slot) → is_live_slot o ≡ true → held_slot o ≡ None → o ≡ Some Free
live_is None is none = absurd cc
live_is (Some Free) is none = refl
live_is (Some (Busy w)) is none = absurd cc
live_is (Some Dead) is none = absurd cc

-- what is told of a copy of a list
pub box_from : {X : Type 0} (xs now : List X) (k : ℕ) (x : X) → now ≡ xs → Some x ≡ slice_get now k → slice_get xs k ≡ Some x
box_from xs now k x same is = ap (λ ys. slice_get ys k) (sym same) ∙ sym is

pub free_from : (slots now : List Slot) (lane : ℕ) → now ≡ slots → true ≡ is_free_slot (slice_get now lane) → slice_get slots lane ≡ Some Free
free_from slots now lane same is = free_is (slice_get slots lane) (ap (λ ss. is_free_slot (slice_get ss lane)) (sym same) ∙ sym is)

pub held_from : (slots now : List Slot) (lane : ℕ) (w : Waiting) → now ≡ slots → Some w ≡ held_slot (slice_get now lane)
    → slice_get slots lane ≡ Some (Busy w)
held_from slots now lane w same is = held_is (slice_get slots lane) w (ap (λ ss. held_slot (slice_get ss lane)) (sym same) ∙ sym is)

pub live_from : (slots now then : List Slot) (lane : ℕ) → now ≡ slots → then ≡ slots → true ≡ is_live_slot (slice_get now lane)
    → held_slot (slice_get then lane) ≡ None → slice_get slots lane ≡ Some Free
live_from slots now then lane same same' is none =
    live_is (slice_get slots lane) (ap (λ ss. is_live_slot (slice_get ss lane)) (sym same) ∙ sym is)
    (ap (λ ss. held_slot (slice_get ss lane)) (sym same') ∙ none)

-- what holds of the boxes of all lanes holds where one of them has another box
back_all : {X : Type 0} (P : X → Type 0) (xs ys : List X) → AllByRecursion P (xs ++ ys) → AllByRecursion P ys
back_all P [] ys all = all
back_all P (x ∷ xs) ys (here, all) = back_all P xs ys all

pub all_set : (P : Waiting → Type 0) (slots : List Slot) (lane : ℕ) (old new : Slot) → slice_get slots lane ≡ Some old
    → AllByRecursion P (busy_in new) → All P (busy slots) → All P (busy (set slots lane new))
all_set P slots lane old new is here all =
    let both : AllByRecursion P (busy_in new ++ busy slots) = all-append P (busy_in new) (busy slots) here (recursion_from_All P (busy slots) all) in
    let moved : All P (busy_in old ++ busy (set slots lane new)) =
    All-permutation P (busy_in new ++ busy slots) (busy_in old ++ busy (set slots lane new)) (given_set busy_in slots lane old new is)
    (All-from_recursion P (busy_in new ++ busy slots) both) in
    All-from_recursion P (busy (set slots lane new))
    (back_all P (busy_in old) (busy (set slots lane new)) (recursion_from_All P (busy_in old ++ busy (set slots lane new)) moved))

-- the box of a lane is one of the boxes of all lanes
pub held_there : (slots : List Slot) (lane : ℕ) (w : Waiting) → slice_get slots lane ≡ Some (Busy w) → Contains (busy slots) w
held_there slots lane w is =
    Contains-permutation (w ∷ busy (set slots lane Free)) (busy slots) w
    (IsPermutation-sym (busy slots) (w ∷ busy (set slots lane Free)) (given_set busy_in slots lane (Busy w) Free is)) (0, omega arith, refl)
