-- Where a search node of an axis is among the nodes of the time grid.
use Rattle.std.proofs.Common.{◌≡◌, ◌≢◌, ℕ, ◌+◌, ◌*◌, ◌<◌, ◌≤◌, true, false, get_or, Option, Some, None, IfNone, IfSome, MatchOption, is_some, ℤ, pos, ◌+ℤ◌, ◌*ℤ◌, ◌<ℤ◌, arith, refl, sym, ◌∙◌, zero-add}
use Rattle.std.specs.List.{range_with_len}
use Rattle.std.proofs.lemmas.Int.{ints}
use Rattle.std.proofs.lemmas.List.FromFn.{length-range_with_len, get_or-range_with_len}
use Rattle.std.proofs.lemmas.List.Folds.{list_all_at}
use Rattle.std.proofs.lemmas.List.Sums.{list_all-from_AllPass}
use Rattle.std.proofs.lemmas.Bool.{false_from_ne_true}
use Rattle.std.proofs.lemmas.Bool.Decides.{Decides-int_eq}
use Rattle.time_grid.specs.declared.axes.AxisPair.{AxisPair}
use Rattle.time_grid.specs.declared.axes.Places.{Places}
use Rattle.time_grid.specs.Axes.{coordinate, is_same, axis_place, is_aligned}
use Rattle.time_grid.specs.Inside.Steps.{ArePlaces}
use Rattle.time_grid.proofs.PositionLaws.{position_is, position_is_none}
use Rattle.time_grid.proofs.StepLaws.{same_factor, IsOff}

-- an axis by how far its first search node lies after the first node of the time grid
pub record IsSeen (a : AxisPair) (offset d s : ℕ) : Type 0 where
  pub origin : a.origin ≡ a.time_origin +ℤ pos offset
  pub time_spacing : a.time_spacing ≡ pos d
  pub spacing : a.spacing ≡ pos s
  pub some : 1 ≤ d

in_range : (n k : ℕ) → k < n → get_or (range_with_len 0 n) k 0 ≡ k
in_range n k below = get_or-range_with_len 0 n k 0 below ∙ zero-add k

same_is : (a : AxisPair) (offset d s i j : ℕ) → IsSeen a offset d s → j * d ≡ offset + i * s → is_same a i j ≡ true
same_is a offset d s i j seen e =
    let same : a.time_origin +ℤ pos j *ℤ a.time_spacing ≡ a.origin +ℤ pos i *ℤ a.spacing = rw (seen.time_spacing, seen.origin, seen.spacing) (omega (arith, ints, e)) in
    (Decides-int_eq (coordinate a.time_origin a.time_spacing j) (coordinate a.origin a.spacing i)).1 same

steps_of : (t : ℤ) (offset d s i j : ℕ) → t +ℤ pos j *ℤ pos d ≡ (t +ℤ pos offset) +ℤ pos i *ℤ pos s → j * d ≡ offset + i * s
steps_of t offset d s i j e = omega (arith, ints, e)

not_same : (a : AxisPair) (offset d s i j : ℕ) → IsSeen a offset d s → j * d ≢ offset + i * s → is_same a i j ≡ false
not_same a offset d s i j seen differ = false_from_ne_true (is_same a i j) (λ e.
    let met : a.time_origin +ℤ pos j *ℤ a.time_spacing ≡ a.origin +ℤ pos i *ℤ a.spacing = (Decides-int_eq (coordinate a.time_origin a.time_spacing j) (coordinate a.origin a.spacing i)).0 e in
    differ (steps_of a.time_origin offset d s i j (rw (seen.time_spacing, seen.origin, seen.spacing) at met)))

pub place_found : (a : AxisPair) (offset d s i j : ℕ) → IsSeen a offset d s → j < a.time_nodes → j * d ≡ offset + i * s → axis_place a i ≡ Some j
unfolding axis_place
place_found a offset d s i j seen below meets =
    let n = a.time_nodes in
    let long = length-range_with_len 0 n in
    position_is (is_same a i) (range_with_len 0 n) j (omega arith) (rw (in_range n j below) (same_is a offset d s i j seen meets))
    (λ k before. rw (in_range n k (omega arith)) (not_same a offset d s i k seen (λ e. let one = same_factor k j d seen.some (e ∙ sym meets) in omega arith)))

pub place_missing : (a : AxisPair) (offset d s i : ℕ) → IsSeen a offset d s → IsOff offset d a.time_nodes s i → axis_place a i ≡ None
unfolding axis_place
place_missing a offset d s i seen off =
    let n = a.time_nodes in
    let long = length-range_with_len 0 n in
    position_is_none (is_same a i) (range_with_len 0 n)
    (λ k below. rw (in_range n k (omega arith)) (not_same a offset d s i k seen (off k (omega arith))))

ahead : (t o s : ℤ) (d k : ℕ) → o <ℤ t → t +ℤ pos k *ℤ pos d ≡ o +ℤ pos 0 *ℤ s → ⊥
ahead t o s d k before e = omega (arith, ints, before, e)

is_ahead : (a : AxisPair) (d k : ℕ) → a.origin <ℤ a.time_origin → a.time_spacing ≡ pos d → is_same a 0 k ≡ false
is_ahead a d k before spaced = false_from_ne_true (is_same a 0 k) (λ e.
    let met : a.time_origin +ℤ pos k *ℤ a.time_spacing ≡ a.origin +ℤ pos 0 *ℤ a.spacing = (Decides-int_eq (coordinate a.time_origin a.time_spacing k) (coordinate a.origin a.spacing 0)).0 e in
    ahead a.time_origin a.origin a.spacing d k before (rw spaced at met))

-- a search node before the first node of the time grid
pub place_before : (a : AxisPair) (d : ℕ) → a.origin <ℤ a.time_origin → a.time_spacing ≡ pos d → axis_place a 0 ≡ None
unfolding axis_place
place_before a d before spaced =
    let n = a.time_nodes in
    let long = length-range_with_len 0 n in
    position_is_none (is_same a 0) (range_with_len 0 n) (λ k below. rw (in_range n k (omega arith)) (is_ahead a d k before spaced))

pub not_aligned : (a : AxisPair) (i : ℕ) → i < a.nodes → axis_place a i ≡ None → is_aligned a ≡ false
unfolding is_aligned
not_aligned a i below none =
    let long = length-range_with_len 0 a.nodes in
    list_all_at (λ i. is_some (axis_place a i)) (range_with_len 0 a.nodes) i 0 (omega arith) (rw (in_range a.nodes i below, none) refl)

pub aligned : (a : AxisPair) (p : Places) → ArePlaces a p → is_aligned a ≡ true
unfolding is_aligned
aligned a p places = list_all-from_AllPass (λ i. is_some (axis_place a i)) (range_with_len 0 a.nodes) (λ k d below.
    let within : k < a.nodes = rw (length-range_with_len 0 a.nodes) at below in
    rw (get_or-range_with_len 0 a.nodes k d within, zero-add k, places.place k within) refl)

pub places_of : (a : AxisPair) (offset d s : ℕ) (r : Option Places) → IsSeen a offset d s
    → IfNone r ((i : ℕ) × (i < a.nodes) × IsOff offset d a.time_nodes s i)
    → IfSome r (λ p. (i : ℕ) → i < a.nodes → p.first + i * p.stride < a.time_nodes)
    → IfSome r (λ p. (i : ℕ) → i < a.nodes → (p.first + i * p.stride) * d ≡ offset + i * s)
    → IfSome r (λ p. 1 < a.nodes → 1 ≤ p.stride) → IfSome r (λ p. a.nodes ≡ 1 → p.stride ≡ 0)
    → MatchOption r (is_aligned a ≡ false) (ArePlaces a)
places_of a offset d s None seen (i, below, off) within meets rises stays = not_aligned a i below (place_missing a offset d s i seen off)
places_of a offset d s (Some p) seen off within meets rises stays = record {
  place = λ i below. place_found a offset d s i (p.first + i * p.stride) seen (within i below) (meets i below);
  within = within;
  rises = rises;
  stays = stays;
}
