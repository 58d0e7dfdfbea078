-- The used picks and the others, one pick after the other.
use Rattle.std.proofs.Common.{◌≡◌, ℕ, ◌+◌, ◌<◌, ◌≤◌, Bool, true, false, cond, List, [], ◌∷◌, ◌++◌, length, Option, Some, None, All, pos, inl, inr, refl, sym, ap, subst, ◌∙◌, arith}
use Rattle.std.specs.Prelude.{if◌then◌else◌, ◌&&◌, min, nat_le, int_lt, is_none, unsigned_abs}
use Rattle.std.specs.List.{sum_by, flat_map}
use Rattle.std.proofs.lemmas.Bool.{cases_Bool}
use Rattle.std.proofs.lemmas.Bool.Decides.{nat_tests}
use Rattle.std.proofs.lemmas.List.{append-nil, length-append, length_push}
use Rattle.std.proofs.lemmas.List.Concat.{flat_map-append}
use Rattle.std.proofs.lemmas.List.Elements.{All-nil, All-cons, All-append}
use Rattle.std.proofs.lemmas.List.Sums.{sum_by-append}
use Rattle.control_reader.specs.ControlValues.{ControlValues}
use Rattle.phase_reader.specs.declared.phases.Pick.{Pick}
use Rattle.station_table.specs.declared.keys.GridKey.{GridKey}
use Rattle.station_table.specs.declared.keys.Place.{Place}
use Rattle.station_table.specs.declared.picks.Reason.{Reason}
use Rattle.station_table.specs.declared.picks.Reason.TheVariants.{BeyondMax}
use Rattle.station_table.specs.declared.picks.UsedPick.{UsedPick}
use Rattle.station_table.specs.declared.picks.Skip.{Skip}
use Rattle.station_table.specs.Reasons.{where_so}
use Rattle.text_terms.specs.Prefixes.{with_those_before}
use Rattle.station_table.specs.Using.{used_picks, skipped_picks, usable_count, reason_by_itself, reason_of, is_full, is_beyond, if_used, if_skipped, used_pick}
use Rattle.text_terms.proofs.ListLaws.{by_push}
use Rattle.text_terms.proofs.PrefixLaws.{before_push}
use Rattle.station_table.proofs.ListLaws.{All-split}
use Rattle.station_table.proofs.ReasonLaws.{first_one}

-- the first ones of so many, where there is a greatest number
abbrev pub first_ones : Bool → ℕ → ℕ → ℕ
first_ones is_limited most count = if is_limited then min most count else count

-- one more is used where they aren't so many, and none where they are
more_used : (is_limited : Bool) (most count : ℕ) → (is_limited && nat_le most count) ≡ false → first_ones is_limited most (count + 1) ≡ first_ones is_limited most count + 1
more_used true most count few = let below : count < most = grind (arith, nat_tests) in omega arith
more_used false most count few = refl

none_used : (is_limited : Bool) (most count : ℕ) → (is_limited && nat_le most count) ≡ true → first_ones is_limited most (count + 1) ≡ first_ones is_limited most count
none_used true most count full = let below : most ≤ count = grind (arith, nat_tests) in omega arith
none_used false most count full = absurd cc

no_first : (is_limited : Bool) (most : ℕ) → 0 ≡ first_ones is_limited most 0
no_first true most = omega arith
no_first false most = refl

-- so many are used where so many may be
full_same : (is_limited : Bool) (most count : ℕ) → (is_limited && nat_le most (first_ones is_limited most count)) ≡ (is_limited && nat_le most count)
full_same true most count = grind (arith, nat_tests)
full_same false most count = refl

module _ (control : ControlValues) (keys : List GridKey) (places : List Place) where
  -- one more pick is used exactly where it has no reason
  pub used_push : (picks : List Pick) (pick : Pick)
      → used_picks control keys places (picks ++ pick ∷ []) ≡ used_picks control keys places picks ++ if_used control keys pick (reason_of control keys places picks pick)
  unfolding used_picks
  used_push picks pick =
      let each : List Pick × Pick → List UsedPick = λ p. if_used control keys p.1 (reason_of control keys places p.0 p.1) in
      ap (flat_map each) (before_push picks pick)
      ∙ flat_map-append each (with_those_before picks) ((picks, pick) ∷ [])
      ∙ ap (λ us. flat_map each (with_those_before picks) ++ us) (append-nil (each (picks, pick)))

  -- and else it is skipped
  pub skipped_push : (picks : List Pick) (pick : Pick)
      → skipped_picks control keys places (picks ++ pick ∷ []) ≡ skipped_picks control keys places picks ++ if_skipped control pick (reason_of control keys places picks pick)
  unfolding skipped_picks
  skipped_push picks pick =
      let each : List Pick × Pick → List Skip = λ p. if_skipped control p.1 (reason_of control keys places p.0 p.1) in
      ap (flat_map each) (before_push picks pick)
      ∙ flat_map-append each (with_those_before picks) ((picks, pick) ∷ [])
      ∙ ap (λ us. flat_map each (with_those_before picks) ++ us) (append-nil (each (picks, pick)))

  -- one more pick may be used exactly where it has no reason by itself
  pub usable_push : (picks : List Pick) (pick : Pick)
      → usable_count control keys places (picks ++ pick ∷ []) ≡ usable_count control keys places picks + cond (is_none (reason_by_itself control keys places picks pick)) 1 0
  unfolding usable_count
  usable_push picks pick =
      let each : List Pick × Pick → ℕ = λ p. cond (is_none (reason_by_itself control keys places p.0 p.1)) 1 0 in
      let first : 0 + each (picks, pick) ≡ each (picks, pick) = omega arith in
      ap (sum_by each) (before_push picks pick)
      ∙ sum_by-append each (with_those_before picks) ((picks, pick) ∷ [])
      ∙ ap (λ n. sum_by each (with_those_before picks) + n) first

  -- the reason of a pick that has one by itself, and of another
  reason_own : (picks : List Pick) (pick : Pick) (reason : Reason) → reason_by_itself control keys places picks pick ≡ Some reason
      → reason_of control keys places picks pick ≡ Some reason
  unfolding reason_of
  reason_own picks pick reason own = rw own refl

  reason_max : (picks : List Pick) (pick : Pick) → reason_by_itself control keys places picks pick ≡ None
      → reason_of control keys places picks pick ≡ where_so (is_full control (usable_count control keys places picks)) BeyondMax
  unfolding reason_of is_beyond
  reason_max picks pick none = rw none (first_one (is_full control (usable_count control keys places picks)) BeyondMax)

  -- the first ones of the picks that may be used are used
  abbrev pub AreFirst : List Pick → Type 0
  AreFirst picks =
      length (used_picks control keys places picks) ≡ first_ones (int_lt (pos 0) control.max_phases) (unsigned_abs control.max_phases) (usable_count control keys places picks)

  first_push : (picks : List Pick) (pick : Pick) → AreFirst picks → AreFirst (picks ++ pick ∷ [])
  first_push picks pick before = by (reason_by_itself control keys places picks pick) refl
    where
      limited : Bool
      limited = int_lt (pos 0) control.max_phases

      most : ℕ
      most = unsigned_abs control.max_phases

      count : ℕ
      count = usable_count control keys places picks

      used : (reason : Option Reason) → reason_of control keys places picks pick ≡ reason
          → length (used_picks control keys places (picks ++ pick ∷ [])) ≡ length (used_picks control keys places picks) + length (if_used control keys pick reason)
      used reason e =
          ap length (used_push picks pick) ∙ length-append (used_picks control keys places picks) _
          ∙ ap (λ o. length (used_picks control keys places picks) + length (if_used control keys pick o)) e

      by : (own : Option Reason) → reason_by_itself control keys places picks pick ≡ own → AreFirst (picks ++ pick ∷ [])
      by (Some reason) e =
          let more : usable_count control keys places (picks ++ pick ∷ []) ≡ count + 0 = usable_push picks pick ∙ ap (λ o. count + cond (is_none o) 1 0) e in
          let same : count ≡ usable_count control keys places (picks ++ pick ∷ []) = omega arith in
          let none = used (Some reason) (reason_own picks pick reason e) in
          let still : length (used_picks control keys places (picks ++ pick ∷ [])) ≡ length (used_picks control keys places picks) = omega (arith, none) in
          still ∙ before ∙ ap (first_ones limited most) same
      by None e =
          let more : usable_count control keys places (picks ++ pick ∷ []) ≡ count + 1 = usable_push picks pick ∙ ap (λ o. count + cond (is_none o) 1 0) e in
          elim (cases_Bool (is_full control count)) [
            | inl full ↦
                let none = used (Some BeyondMax) (reason_max picks pick e ∙ ap (λ test. where_so test BeyondMax) full) in
                let still : length (used_picks control keys places (picks ++ pick ∷ [])) ≡ length (used_picks control keys places picks) = omega (arith, none) in
                still ∙ before ∙ sym (none_used limited most count full) ∙ ap (first_ones limited most) (sym more)
            | inr few ↦
                let one = used None (reason_max picks pick e ∙ ap (λ test. where_so test BeyondMax) few) in
                let next : length (used_picks control keys places (picks ++ pick ∷ [])) ≡ length (used_picks control keys places picks) + 1 = omega (arith, one) in
                next ∙ ap (λ n. n + 1) before ∙ sym (more_used limited most count few) ∙ ap (first_ones limited most) (sym more)
          ]

  first_none_used : AreFirst []
  unfolding used_picks usable_count
  first_none_used = no_first (int_lt (pos 0) control.max_phases) (unsigned_abs control.max_phases)

  pub used_are_first : (picks : List Pick) → AreFirst picks
  used_are_first = by_push AreFirst first_none_used first_push

  -- so many are used already exactly where so many may be
  pub beyond_is_full : (picks : List Pick) → is_beyond control keys places picks ≡ is_full control (length (used_picks control keys places picks))
  unfolding is_beyond
  beyond_is_full picks =
      let count = usable_count control keys places picks in
      sym (ap (is_full control) (used_are_first picks) ∙ full_same (int_lt (pos 0) control.max_phases) (unsigned_abs control.max_phases) count)

  -- each pick is used or skipped
  abbrev IsOnce : List Pick → Type 0
  IsOnce picks = length (used_picks control keys places picks) + length (skipped_picks control keys places picks) ≡ length picks

  none_once : IsOnce []
  unfolding used_picks skipped_picks
  none_once = refl

  push_once : (picks : List Pick) (pick : Pick) → IsOnce picks → IsOnce (picks ++ pick ∷ [])
  push_once picks pick before =
      let reason = reason_of control keys places picks pick in
      let used = ap length (used_push picks pick) ∙ length-append (used_picks control keys places picks) (if_used control keys pick reason) in
      let skipped = ap length (skipped_push picks pick) ∙ length-append (skipped_picks control keys places picks) (if_skipped control pick reason) in
      omega (arith, used, skipped, one reason, length_push picks pick)
    where
      one : (reason : Option Reason) → length (if_used control keys pick reason) + length (if_skipped control pick reason) ≡ 1
      one None = refl
      one (Some reason) = refl

  pub each_once : (picks : List Pick) → IsOnce picks
  each_once = by_push IsOnce none_once push_once

  -- what holds of each pick that has no reason holds of the used picks
  module _ (P : UsedPick → Type 0) (Q : Pick → Type 0)
      (gives : (before : List Pick) (pick : Pick) → Q pick → reason_of control keys places before pick ≡ None → P (used_pick control keys pick)) where
    none_all : All Q [] → All P (used_picks control keys places [])
    unfolding used_picks
    none_all all = All-nil P

    one_all : (before : List Pick) (pick : Pick) → Q pick → (reason : Option Reason) → reason_of control keys places before pick ≡ reason → All P (if_used control keys pick reason)
    one_all before pick q None e = All-cons P (used_pick control keys pick) [] (gives before pick q e) (All-nil P)
    one_all before pick q (Some reason) e = All-nil P

    push_all : (picks : List Pick) (pick : Pick) → (All Q picks → All P (used_picks control keys places picks))
        → All Q (picks ++ pick ∷ []) → All P (used_picks control keys places (picks ++ pick ∷ []))
    push_all picks pick before all =
        let parts = All-split Q picks pick all in
        subst (All P) (sym (used_push picks pick))
        (All-append P (used_picks control keys places picks) (if_used control keys pick (reason_of control keys places picks pick))
        (before parts.0) (one_all picks pick parts.1 (reason_of control keys places picks pick) refl))

    pub used_all : (picks : List Pick) → All Q picks → All P (used_picks control keys places picks)
    used_all = by_push (λ picks. All Q picks → All P (used_picks control keys places picks)) none_all push_all
