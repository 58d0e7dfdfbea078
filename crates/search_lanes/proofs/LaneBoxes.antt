-- The boxes that lanes hold, and the open ones, as events move them.
use Rattle.std.proofs.Common.{◌≡◌, ℕ, zero, suc, Bool, true, false, List, [], ◌∷◌, ◌++◌, refl, sym, subst}
use Rattle.std.specs.Prelude.{if◌then◌else◌, Option, Some, None, set, slice_get}
use Rattle.std.specs.List.{flat_map, remove}
use Rattle.std.specs.List.Sorted.{IsPermutation}
use Rattle.std.proofs.lemmas.Option.{slice_get_within, get_or_from_slice_get}
use Rattle.std.proofs.lemmas.List.{append_assoc}
use Rattle.std.proofs.lemmas.List.Sorted.{IsPermutation-append_left, IsPermutation-append_right, IsPermutation-middle, IsPermutation-remove, IsPermutation-sym, IsPermutation-trans}
use Rattle.search_lanes.specs.Lanes.{Lane, Idle, Held, Gone, is_idle}
use Rattle.search_lanes.proofs.SameElements.{fronts_changed}

-- what follows where a choice between an answer and none gives an answer
pub if_some : {X : Type 0} (b : Bool) (x y : X) → (if b then Some x else None) ≡ Some y → (b ≡ true) × (x ≡ y)
if_some true x y is = (refl, cc)
if_some false x y is = absurd cc

-- the same where none stands first
pub if_none : {X : Type 0} (b : Bool) (o : Option X) (y : X) → (if b then None else o) ≡ Some y → (b ≡ false) × (o ≡ Some y)
if_none true o y is = absurd cc
if_none false o y is = (refl, is)

-- a lane that can take a box is idle
pub idle_is : (l : Lane) → is_idle l ≡ true → l ≡ Idle
idle_is Idle is = refl
idle_is (Held b) is = absurd cc
idle_is Gone is = absurd cc

-- one element of a list gives something else: what it gave goes, and what it gives comes
pub given_set : {X Y : Type 0} (f : X → List Y) (xs : List X) (k : ℕ) (old new : X) → slice_get xs k ≡ Some old
    → IsPermutation (f new ++ flat_map f xs) (f old ++ flat_map f (set xs k new))
given_set f [] k old new is = absurd cc
given_set {X} f (x ∷ xs) zero old new is =
    let same : x ≡ old = cc in
    subst (λ (y : X). IsPermutation (f new ++ (f y ++ flat_map f xs)) (f old ++ (f new ++ flat_map f xs))) (sym same)
    (fronts_changed (f new) (f old) (flat_map f xs))
given_set f (x ∷ xs) (suc k) old new is =
    IsPermutation-trans (f new ++ (f x ++ flat_map f xs)) (f x ++ (f new ++ flat_map f xs)) (f old ++ (f x ++ flat_map f (set xs k new)))
    (fronts_changed (f new) (f x) (flat_map f xs))
    (IsPermutation-trans (f x ++ (f new ++ flat_map f xs)) (f x ++ (f old ++ flat_map f (set xs k new))) (f old ++ (f x ++ flat_map f (set xs k new)))
    (IsPermutation-append_right (f x) (f new ++ flat_map f xs) (f old ++ flat_map f (set xs k new)) (given_set f xs k old new is))
    (fronts_changed (f x) (f old) (flat_map f (set xs k new))))

-- a box is taken out of a list
pub taken_out : {X : Type 0} (xs : List X) (k : ℕ) (x : X) → slice_get xs k ≡ Some x → IsPermutation xs (x ∷ remove xs k)
taken_out xs k x is = IsPermutation-remove xs k x (slice_get_within xs k x is) (sym (get_or_from_slice_get xs k x x is))

-- the children of a box go to the end of the open boxes
pub children_move : {Y : Type 0} (ws more hs : List Y) → IsPermutation (more ++ (ws ++ hs)) ((ws ++ more) ++ hs)
children_move ws more hs = subst (IsPermutation (more ++ (ws ++ hs))) (sym (append_assoc ws more hs)) (fronts_changed more ws hs)

-- open boxes, and lanes that give what they hold
module _ {X Y : Type 0} (f : X → List Y) (ws : List Y) (lanes : List X) where
  -- the box at a place comes first
  pub taken_first : (place : ℕ) (b : Y) → slice_get ws place ≡ Some b → IsPermutation (ws ++ flat_map f lanes) (b ∷ (remove ws place ++ flat_map f lanes))
  taken_first place b there = IsPermutation-append_left (flat_map f lanes) ws (b ∷ remove ws place) (taken_out ws place b there)

  -- a lane takes an open box
  pub take_moves : (lane place : ℕ) (b : Y) (old new : X) → slice_get ws place ≡ Some b → slice_get lanes lane ≡ Some old → f old ≡ [] → f new ≡ b ∷ []
      → IsPermutation (ws ++ flat_map f lanes) (remove ws place ++ flat_map f (set lanes lane new))
  take_moves lane place b old new there at none one =
      let moved : IsPermutation (b ∷ flat_map f lanes) (flat_map f (set lanes lane new)) =
      subst (λ (ys : List Y). IsPermutation (b ∷ flat_map f lanes) (ys ++ flat_map f (set lanes lane new))) none
      (subst (λ (ys : List Y). IsPermutation (ys ++ flat_map f lanes) (f old ++ flat_map f (set lanes lane new))) one (given_set f lanes lane old new at)) in
      IsPermutation-trans (ws ++ flat_map f lanes) (b ∷ (remove ws place ++ flat_map f lanes)) (remove ws place ++ flat_map f (set lanes lane new))
      (taken_first place b there)
      (IsPermutation-trans (b ∷ (remove ws place ++ flat_map f lanes)) (remove ws place ++ b ∷ flat_map f lanes) (remove ws place ++ flat_map f (set lanes lane new))
      (IsPermutation-sym (remove ws place ++ b ∷ flat_map f lanes) (b ∷ (remove ws place ++ flat_map f lanes)) (IsPermutation-middle (remove ws place) b (flat_map f lanes)))
      (IsPermutation-append_right (remove ws place) (b ∷ flat_map f lanes) (flat_map f (set lanes lane new)) moved))

  -- a lane is lost, or done with its box: what it held comes between
  pub lose_moves : (lane : ℕ) (old new : X) → slice_get lanes lane ≡ Some old → f new ≡ []
      → IsPermutation (ws ++ flat_map f lanes) ((ws ++ f old) ++ flat_map f (set lanes lane new))
  lose_moves lane old new at none =
      let moved : IsPermutation (flat_map f lanes) (f old ++ flat_map f (set lanes lane new)) =
      subst (λ (ys : List Y). IsPermutation (ys ++ flat_map f lanes) (f old ++ flat_map f (set lanes lane new))) none (given_set f lanes lane old new at) in
      subst (IsPermutation (ws ++ flat_map f lanes)) (sym (append_assoc ws (f old) (flat_map f (set lanes lane new))))
      (IsPermutation-append_right ws (flat_map f lanes) (f old ++ flat_map f (set lanes lane new)) moved)

  -- the box of a lane that is done with it comes first
  pub done_moves : (lane : ℕ) (b : Y) (old new : X) → slice_get lanes lane ≡ Some old → f old ≡ b ∷ [] → f new ≡ []
      → IsPermutation (ws ++ flat_map f lanes) (b ∷ (ws ++ flat_map f (set lanes lane new)))
  done_moves lane b old new at one none =
      let moved : IsPermutation (ws ++ flat_map f lanes) (ws ++ b ∷ flat_map f (set lanes lane new)) =
      subst (IsPermutation (ws ++ flat_map f lanes)) (append_assoc ws (b ∷ []) (flat_map f (set lanes lane new)))
      (subst (λ (ys : List Y). IsPermutation (ws ++ flat_map f lanes) ((ws ++ ys) ++ flat_map f (set lanes lane new))) one (lose_moves lane old new at none)) in
      IsPermutation-trans (ws ++ flat_map f lanes) (ws ++ b ∷ flat_map f (set lanes lane new)) (b ∷ (ws ++ flat_map f (set lanes lane new)))
      moved (IsPermutation-middle ws b (flat_map f (set lanes lane new)))
