-- The limits of used picks.
use Rattle.std.proofs.Common.{◌≡◌, ℕ, ◌+◌, ◌*◌, ◌^◌, ◌<◌, ◌≤◌, Bool, true, List, [], ◌∷◌, length, Option, Some, None, All, IsTrue, ℤ, pos, inl, inr, refl, arith}
use Rattle.std.specs.Prelude.{IfSome, unwrap_or, ◌&&◌, ◌-ℤ◌, unsigned_abs, int_lt, nat_lt, get_or}
use Rattle.std.specs.List.{AllPairs, list_any, find, position, position_or_len}
use Rattle.std.specs.Option.{option_map}
use Rattle.std.specs.Str.{bytes_eq}
use Rattle.std.proofs.lemmas.Bool.{cases_Bool, cond-true, lt-ltb}
use Rattle.std.proofs.lemmas.Int.{ints}
use Rattle.std.proofs.lemmas.List.Elements.{All-cons}
use Rattle.std.proofs.Math.Nat.{mul-le-mul}
use Rattle.control_reader.specs.ControlValues.{values_of}
use Rattle.control_reader.specs.Limits.{IsControl, IsDelay}
use Rattle.control_reader.specs.declared.control.Control.{Control}
use Rattle.control_reader.specs.declared.control.Delay.{Delay}
use Rattle.phase_reader.specs.Limits.{AreNear, AreNearFirst, IsPick}
use Rattle.phase_reader.specs.declared.phases.Pick.{Pick}
use Rattle.station_table.specs.declared.keys.GridKey.{GridKey}
use Rattle.station_table.specs.declared.keys.Place.{Place}
use Rattle.station_table.specs.declared.picks.UsedPick.{UsedPick}
use Rattle.station_table.specs.Keys.{same_key, key_of, key_place}
use Rattle.station_table.specs.Limits.{HoldsKeyOf, HoldsKeysOf, IsUsedPick}
use Rattle.station_table.specs.Stations.{station_of, phase_of}
use Rattle.station_table.specs.Using.{reason_of, used_picks, used_pick, used_pick_at, delay_for}
use Rattle.station_table.proofs.DecideLaws.{none_early}
use Rattle.text_terms.proofs.ListLaws.{find-All}
use Rattle.station_table.proofs.ReasonLaws.{weight_above, error_within}
use Rattle.station_table.proofs.UsingLaws.{used_all}

-- the first item that passes a test stands in the list, where one passes
place_below : {A : Type 0} (test : A → Bool) (xs : List A) → list_any test xs ≡ true → position_or_len test xs < length xs
place_below test [] some = absurd cc
place_below test (x ∷ xs) some = elim (cases_Bool (test x)) [
  | inl here ↦ rw here (omega arith)
  | inr other ↦
      let rest : list_any test xs ≡ true = rw other at some in
      let below = place_below test xs rest in
      rw other (omega (arith, below))
]

place_within : {A : Type 0} (test : A → Bool) (xs : List A) → list_any test xs ≡ true → unwrap_or (position test xs) 0 < length xs
place_within test xs some =
    let below = place_below test xs some in
    rw (cond-true (nat_lt (position_or_len test xs) (length xs)) (Some (position_or_len test xs)) None (lt-ltb (position_or_len test xs) (length xs) below)) below

key_within : (keys : List GridKey) (key : GridKey) → list_any (same_key key) keys ≡ true → unwrap_or (key_place keys key) 0 < length keys
unfolding key_place
key_within keys key some = place_within (same_key key) keys some

-- the squares of two errors of at most 100 seconds
squares : (sigma error : ℕ) → sigma ≤ 10 ^ 8 → error ≤ 10 ^ 8 → sigma * sigma + error * error ≤ 2 * 10 ^ 16
squares sigma error few small =
    let one : sigma * sigma ≤ 10 ^ 8 * 10 ^ 8 = mul-le-mul few few in
    let other : error * error ≤ 10 ^ 8 * 10 ^ 8 = mul-le-mul small small in
    omega arith

module _ (control : Control) (limits : IsControl control) (keys : List GridKey) (places : List Place) where
  -- a delay is at most 10^10 microseconds
  found_delay : (found : Option Delay) → IfSome found IsDelay → unsigned_abs (unwrap_or (option_map (λ (d : Delay). d.delay) found) (pos 0)) ≤ 10 ^ 10
  found_delay None is = omega arith
  found_delay (Some d) is = is.delay

  delay_within : (station phase : List ℕ) → unsigned_abs (delay_for (values_of control) station phase) ≤ 10 ^ 10
  unfolding delay_for
  delay_within station phase =
      let test : Delay → Bool = λ d. bytes_eq d.station station && bytes_eq d.phase phase in
      found_delay (find test control.delays.items) (find-All IsDelay test control.delays.items limits.delays)

  -- a pick within its limits has its key among the keys
  abbrev HasKey : Pick → Type 0
  HasKey pick = IsPick pick × HoldsKeyOf (values_of control) keys pick

  -- a used pick is within its limits
  pick_within : (before : List Pick) (pick : Pick) → HasKey pick
      → reason_of (values_of control) keys places before pick ≡ None → IsUsedPick (length keys) (used_pick (values_of control) keys pick)
  unfolding used_pick_at
  pick_within before pick (is, holds) none =
      let time = is.time in
      let delay = delay_within (station_of (values_of control) pick) (phase_of (values_of control) pick) in
      let early = none_early (values_of control) keys places before pick none in
      let weight : IsTrue (int_lt (pos 0) pick.weight) = weight_above (values_of control) pick early in
      let some : 1 ≤ unsigned_abs pick.weight = grind (arith, ints) in
      record {
        key = key_within keys (key_of (values_of control) pick) (holds (rw early refl));
        time = omega (arith, ints);
        some_weight = omega arith;
        weight = omega arith;
        variance = squares control.sigma (unsigned_abs pick.error) limits.sigma (error_within (values_of control) pick early);
      }

  pub used_within : (picks : List Pick) → All IsPick picks → HoldsKeysOf (values_of control) keys picks
      → All (IsUsedPick (length keys)) (used_picks (values_of control) keys places picks)
  used_within picks are holds =
      used_all (values_of control) keys places (IsUsedPick (length keys)) HasKey pick_within picks
      (λ i d below. (are i d below, holds i d below))

  -- times of used picks of an event lie near each other
  abbrev IsNear : ℤ → UsedPick → Type 0
  IsNear time used = unsigned_abs (used.time -ℤ time) ≤ 10 ^ 12 + 10 ^ 10

  time_within : (time : ℤ) (before : List Pick) (pick : Pick) → unsigned_abs (pick.time -ℤ time) ≤ 10 ^ 12
      → reason_of (values_of control) keys places before pick ≡ None → IsNear time (used_pick (values_of control) keys pick)
  unfolding used_pick_at
  time_within time before pick near none =
      let delay = delay_within (station_of (values_of control) pick) (phase_of (values_of control) pick) in
      omega (arith, ints)

  pairs_near : (time : ℤ) (used : List UsedPick) → All (IsNear time) used → AllPairs (λ a b. unsigned_abs (a.time -ℤ b.time) ≤ 2200000000000) used
  pairs_near time used all i j d less below =
      let one : unsigned_abs ((get_or used i d).time -ℤ time) ≤ 10 ^ 12 + 10 ^ 10 = all i d (omega arith) in
      let other : unsigned_abs ((get_or used j d).time -ℤ time) ≤ 10 ^ 12 + 10 ^ 10 = all j d below in
      omega (arith, ints)

  none_near : AllPairs (λ a b. unsigned_abs (a.time -ℤ b.time) ≤ 2200000000000) (used_picks (values_of control) keys places [])
  unfolding used_picks
  none_near i j d less below = absurd (omega arith)

  pub used_near : (picks : List Pick) → AreNearFirst picks
      → AllPairs (λ a b. unsigned_abs (a.time -ℤ b.time) ≤ 2200000000000) (used_picks (values_of control) keys places picks)
  used_near [] near = none_near
  used_near (first ∷ picks) near =
      let all = All-cons (AreNear first) first picks (omega (arith, ints)) near in
      pairs_near first.time (used_picks (values_of control) keys places (first ∷ picks))
      (used_all (values_of control) keys places (IsNear first.time) (AreNear first) (time_within first.time) (first ∷ picks) all)
