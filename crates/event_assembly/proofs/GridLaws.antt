-- Used picks have grids, and a pick that isn't used for want of a grid has a key without a header.
use Rattle.std.proofs.Common.{◌≡◌, ℕ, ◌<◌, Bool, true, false, List, [], ◌∷◌, length, get_or, Option, Some, None, IfSome, inl, inr, refl, ap, arith}
use Rattle.std.specs.Prelude.{All, unwrap_or, is_none, flat_map}
use Rattle.std.specs.List.{list_any, position_or_len, slice_get}
use Rattle.std.proofs.lemmas.Bool.{cases_Bool, lt-ltb}
use Rattle.std.proofs.lemmas.List.Elements.{All-nil, All-cons}
use Rattle.std.proofs.lemmas.List.Folds.{list_any_none, list_any_at}
use Rattle.std.proofs.lemmas.Option.{slice_get-get_or}
use Rattle.text_terms.specs.Faults.{first_cause}
use Rattle.text_terms.specs.Prefixes.{with_those_before}
use Rattle.text_terms.proofs.CauseLaws.{first_none}
use Rattle.text_terms.proofs.ListLaws.{All-flat_map}
use Rattle.text_terms.proofs.PrefixLaws.{with_before}
use Rattle.control_reader.specs.ControlValues.{ControlValues}
use Rattle.phase_reader.specs.declared.phases.Pick.{Pick}
use Rattle.station_table.specs.declared.keys.GridKey.{GridKey}
use Rattle.station_table.specs.declared.keys.Place.{Place}
use Rattle.station_table.specs.declared.keys.Place.TheVariants.{Absent}
use Rattle.station_table.specs.declared.picks.Reason.{Reason}
use Rattle.station_table.specs.declared.picks.Reason.TheVariants.{Excluded, Weight0, ErrMag, Duplicate, NoGrid, Far, BeyondMax}
use Rattle.station_table.specs.declared.picks.Skip.{Skip}
use Rattle.station_table.specs.declared.picks.UsedPick.{UsedPick}
use Rattle.station_table.specs.Distances.{is_too_far}
use Rattle.station_table.specs.Keys.{same_key, key_of, key_place, source_of}
use Rattle.station_table.specs.Limits.{HoldsKeyOf, HoldsKeysOf}
use Rattle.station_table.specs.Reasons.{where_so, early_reason, is_excluded, has_no_weight, has_bad_error}
use Rattle.station_table.specs.Using.{is_absent, is_duplicate, is_beyond, reason_by_itself, reason_of, used_pick, used_pick_at, if_used, if_skipped, skip, used_picks, skipped_picks}
use Rattle.event_assembly.specs.Answers.{has_no_grid}

-- a reason that doesn't hold
not_so : (test : Bool) (reason : Reason) → where_so test reason ≡ None → test ≡ false
not_so true reason none = absurd cc
not_so false reason none = refl

-- the key of a used pick has a grid
abbrev pub HasGrid : List Place → UsedPick → Type 0
HasGrid places pick = is_absent (unwrap_or (slice_get places pick.key) Absent) ≡ false

module _ (control : ControlValues) (keys : List GridKey) (places : List Place) where
  -- a pick without a reason has one
  grid_there : (before : List Pick) (pick : Pick) → reason_of control keys places before pick ≡ None → HasGrid places (used_pick control keys pick)
  unfolding reason_of reason_by_itself source_of used_pick_at
  grid_there before pick none =
      let early : Option Reason = early_reason control pick in
      let duplicate : Option Reason = where_so (is_duplicate control before pick) Duplicate in
      let lacks : Option Reason = where_so (is_absent (source_of keys places (key_of control pick))) NoGrid in
      let far : Option Reason = where_so (is_too_far control (source_of keys places (key_of control pick))) Far in
      let beyond : Option Reason = where_so (is_beyond control keys places before) BeyondMax in
      let own = (first_none (first_cause (early ∷ duplicate ∷ lacks ∷ far ∷ [])) (beyond ∷ []) none).0 in
      let late = (first_none early (duplicate ∷ lacks ∷ far ∷ []) own).1 in
      let last = (first_none duplicate (lacks ∷ far ∷ []) late).1 in
      not_so (is_absent (source_of keys places (key_of control pick))) NoGrid (first_none lacks (far ∷ []) last).0

  one_used : (pick : Pick) (reason : Option Reason) → (reason ≡ None → HasGrid places (used_pick control keys pick))
      → All (HasGrid places) (if_used control keys pick reason)
  one_used pick None there = All-cons (HasGrid places) (used_pick control keys pick) [] (there refl) (All-nil (HasGrid places))
  one_used pick (Some reason) there = All-nil (HasGrid places)

  -- so all used picks have grids
  pub used_have_grids : (picks : List Pick) → All (HasGrid places) (used_picks control keys places picks)
  unfolding used_picks
  used_have_grids picks =
      let each : List Pick × Pick → List UsedPick = λ p. if_used control keys p.1 (reason_of control keys places p.0 p.1) in
      let one : (p : List Pick × Pick) → All (HasGrid places) (each p) = λ p. one_used p.1 (reason_of control keys places p.0 p.1) (grid_there p.0 p.1) in
      All-flat_map (HasGrid places) each (with_those_before picks) (λ i d below. one (get_or (with_those_before picks) i d))

-- a reason is another one
abbrev HasReason : Option Reason → Type 0
HasReason reason = IfSome reason (λ r. has_no_grid r ≡ false)

other_early : (excluded light bad : Bool) → HasReason (first_cause (where_so excluded Excluded ∷ where_so light Weight0 ∷ where_so bad ErrMag ∷ []))
other_early true light bad = refl
other_early false true bad = refl
other_early false false true = refl
other_early false false false = tt

other_reason : (early : Option Reason) (duplicate absent far beyond : Bool) → HasReason early → (early ≡ None → absent ≡ false)
    → HasReason (first_cause (
    first_cause (early ∷ where_so duplicate Duplicate ∷ where_so absent NoGrid ∷ where_so far Far ∷ [])
    ∷ where_so beyond BeyondMax
    ∷ []))
other_reason (Some reason) duplicate absent far beyond other there = other
other_reason None true absent far beyond other there = refl
other_reason None false true far beyond other there = absurd (let never : true ≡ false = there refl in cc)
other_reason None false false true beyond other there = refl
other_reason None false false false true other there = refl
other_reason None false false false false other there = tt

-- a test that some item passes has a first place
place_below : {A : Type 0} (p : A → Bool) (xs : List A) → list_any p xs ≡ true → position_or_len p xs < length xs
place_below p [] some = absurd cc
place_below p (x ∷ xs) some = elim (cases_Bool (p x)) [
  | inl passes ↦ rw passes (omega arith)
  | inr fails ↦
      let rest : list_any p xs ≡ true = rw fails at some in
      let below = place_below p xs rest in
      rw fails (omega arith)
]

-- no item passes a test that none does
pub none_passes : {A : Type 0} (p : A → Bool) (xs : List A) (k : ℕ) (d : A) → list_any p xs ≡ false → k < length xs → p (get_or xs k d) ≡ false
none_passes p xs k d none below = elim (cases_Bool (p (get_or xs k d))) [
  | inl passes ↦ let some = list_any_at p xs k d below passes in absurd (cc)
  | inr fails ↦ fails
]

module _ (control : ControlValues) (keys : List GridKey) (places : List Place) (one_each : length keys ≡ length places)
    (all_there : list_any is_absent places ≡ false) where
  -- a key among the keys has a grid, where all have
  source_there : (key : GridKey) → list_any (same_key key) keys ≡ true → is_absent (source_of keys places key) ≡ false
  unfolding source_of key_place
  source_there key held =
      let k : ℕ = position_or_len (same_key key) keys in
      let within : k < length keys = place_below (same_key key) keys held in
      let below : k < length places = omega arith in
      rw (lt-ltb k (length keys) within, slice_get-get_or places k Absent below) (none_passes is_absent places k Absent all_there below)

  -- so no pick lacks one
  no_grid_lacks : (before : List Pick) (pick : Pick) → HoldsKeyOf control keys pick → HasReason (reason_of control keys places before pick)
  unfolding reason_of reason_by_itself early_reason
  no_grid_lacks before pick held =
      other_reason (early_reason control pick) (is_duplicate control before pick) (is_absent (source_of keys places (key_of control pick)))
      (is_too_far control (source_of keys places (key_of control pick))) (is_beyond control keys places before)
      (other_early (is_excluded control pick) (has_no_weight pick) (has_bad_error pick))
      (λ none. source_there (key_of control pick) (held (ap is_none none)))

  abbrev HasGridSkip : Skip → Type 0
  HasGridSkip s = has_no_grid s.reason ≡ false

  one_skipped : (pick : Pick) (reason : Option Reason) → HasReason reason → All HasGridSkip (if_skipped control pick reason)
  one_skipped pick None other = All-nil HasGridSkip
  one_skipped pick (Some reason) other = All-cons HasGridSkip (skip control pick reason) [] other (All-nil HasGridSkip)

  pub skipped_have_grids : (picks : List Pick) → HoldsKeysOf control keys picks
      → list_any (λ (s : Skip). has_no_grid s.reason) (skipped_picks control keys places picks) ≡ false
  unfolding skipped_picks
  skipped_have_grids picks held =
      let each : List Pick × Pick → List Skip = λ p. if_skipped control p.1 (reason_of control keys places p.0 p.1) in
      let all = with_before (HoldsKeyOf control keys) picks held in
      let one : (p : List Pick × Pick) → HoldsKeyOf control keys p.1 → All HasGridSkip (each p) =
      λ p h. one_skipped p.1 (reason_of control keys places p.0 p.1) (no_grid_lacks p.0 p.1 h) in
      list_any_none (λ (s : Skip). has_no_grid s.reason) (flat_map each (with_those_before picks))
      (All-flat_map HasGridSkip each (with_those_before picks) (λ i d below. one (get_or (with_those_before picks) i d) (all i d below)))
