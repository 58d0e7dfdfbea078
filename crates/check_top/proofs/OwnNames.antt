-- The picks of an event have names.
use Rattle.std.proofs.Common.{◌≡◌, ℕ, ◌<◌, ◌≤◌, ◌^◌, Bool, true, List, [], ◌∷◌, length, take, drop, get_or, Option, Some, None, IfSome, All, IsTrue, refl, arith}
use Rattle.std.specs.Prelude.{◌&&◌, nat_le, unwrap_or}
use Rattle.std.specs.List.{find, flat_map, list_all, range_with_len}
use Rattle.std.specs.Option.{option_map}
use Rattle.std.specs.Str.{bytes_eq}
use Rattle.std.proofs.lemmas.Bool.Decides.{nat_tests}
use Rattle.std.proofs.lemmas.List.{length-append, length-map}
use Rattle.std.proofs.lemmas.List.Elements.{All-cons, All-head, All-nil, All-tail}
use Rattle.std.proofs.lemmas.List.FromFn.{length-range_with_len}
use Rattle.text_terms.specs.Names.{is_name, is_name_byte}
use Rattle.text_terms.specs.Prefixes.{with_those_before, with_those_before_at}
use Rattle.text_terms.proofs.ListLaws.{All-flat_map, find-All}
use Rattle.text_terms.proofs.PrefixLaws.{with_before}
use Rattle.control_reader.specs.declared.control.Alias.{Alias}
use Rattle.control_reader.specs.declared.control.Control.{Control}
use Rattle.control_reader.specs.declared.control.PhaseId.{PhaseId}
use Rattle.control_reader.specs.ControlValues.{values_of}
use Rattle.control_reader.specs.Limits.{IsAlias, IsControl, IsPhaseId}
use Rattle.phase_reader.specs.declared.phases.Pick.{Pick}
use Rattle.phase_reader.specs.Limits.{IsPick}
use Rattle.cover_certificate.proofs.PartLaws.{both}
use Rattle.station_table.specs.declared.keys.GridKey.{GridKey}
use Rattle.station_table.specs.declared.keys.Place.{Place}
use Rattle.station_table.specs.declared.picks.Reason.{Reason}
use Rattle.station_table.specs.declared.picks.Skip.{Skip}
use Rattle.station_table.specs.declared.picks.UsedPick.{UsedPick}
use Rattle.station_table.specs.Stations.{is_alias_of, phase_of, station_of}
use Rattle.station_table.specs.Using.{if_skipped, if_used, reason_of, skip, skipped_picks, used_pick, used_pick_at, used_picks}
use Rattle.event_assembly.specs.AssemblyValues.{EventValues, event_of}
use Rattle.location_report.specs.BlockForms.{has_names, skip_has_names}

-- a name of at most 64 bytes is one of at most 512
longer : (word : List ℕ) → is_name 64 word ≡ true → is_name 512 word ≡ true
longer word name =
    let outer = both (nat_le 1 (length word) && nat_le (length word) 64) (list_all is_name_byte word) name in
    let inner = both (nat_le 1 (length word)) (nat_le (length word) 64) outer.0 in
    rw (inner.0, more (length word) inner.1, outer.1) refl
  where
    more : (n : ℕ) → nat_le n 64 ≡ true → nat_le n 512 ≡ true
    more n few = grind (arith, nat_tests)

-- a test that each item passes is passed by all
all_pass : {A : Type 0} (test : A → Bool) (xs : List A) → All (λ x. test x ≡ true) xs → list_all test xs ≡ true
all_pass test [] all = refl
all_pass test (x ∷ xs) all = rw (All-head (λ y. test y ≡ true) x xs all, all_pass test xs (All-tail (λ y. test y ≡ true) x xs all)) refl

-- a name that is found, or else another one
found_name : {A : Type 0} (P : A → Type 0) (name : A → List ℕ) → ((a : A) → P a → IsTrue (is_name 64 (name a))) → (found : Option A) (own : List ℕ)
    → IfSome found P → IsTrue (is_name 64 own) → IsTrue (is_name 64 (unwrap_or (option_map name found) own))
found_name P name named None own is good = good
found_name P name named (Some a) own is good = named a is

-- lists of at most one item each
few_flat : {A B : Type 0} (f : A → List B) (xs : List A) → ((x : A) → length (f x) ≤ 1) → length (flat_map f xs) ≤ length xs
few_flat f [] one = omega arith
few_flat f (x ∷ xs) one = omega (arith, length-append (f x) (flat_map f xs), one x, few_flat f xs one)

-- each pick stands once with those before it
few_before : (picks : List Pick) → length (with_those_before picks) ≤ length picks
few_before picks =
    let few : length (with_those_before picks) ≤ length (range_with_len 0 (length picks)) =
    few_flat (with_those_before_at picks) (range_with_len 0 (length picks)) (one_at picks) in
    omega (arith, few, length-range_with_len 0 (length picks))
  where
    first_few : (xs : List Pick) → length (take 1 xs) ≤ 1
    first_few [] = omega arith
    first_few (x ∷ xs) = omega arith

    one_at : (picks : List Pick) (k : ℕ) → length (with_those_before_at picks k) ≤ 1
    one_at picks k =
        let same : length (with_those_before_at picks k) ≡ length (take 1 (drop k picks)) =
        length-map (take 1 (drop k picks)) (λ (pick : Pick). (take k picks, pick)) in
        omega (arith, same, first_few (drop k picks))

-- the picks of an event have names, and there are few of them
pub record IsNamed (event : EventValues) : Type 0 where
  pub used : list_all has_names event.used ≡ true
  pub skipped : list_all skip_has_names event.skipped ≡ true
  pub few_used : length event.used < 2 ^ 32
  pub few_skipped : length event.skipped < 2 ^ 32

module _ (control : Control) (limits : IsControl control) (keys : List GridKey) (places : List Place) where
  -- station and phase of a pick are names
  station_named : (pick : Pick) → IsPick pick → is_name 512 (station_of (values_of control) pick) ≡ true
  unfolding station_of
  station_named pick is =
      longer (station_of (values_of control) pick) (
      found_name IsAlias (λ (alias : Alias). alias.alias) (λ alias good. good.alias) (find (is_alias_of pick) control.aliases.items) pick.station
      (find-All IsAlias (is_alias_of pick) control.aliases.items limits.aliases) is.station)

  phase_named : (pick : Pick) → IsPick pick → is_name 512 (phase_of (values_of control) pick) ≡ true
  unfolding phase_of
  phase_named pick is =
      let test : PhaseId → Bool = λ id. bytes_eq id.code pick.phase in
      longer (phase_of (values_of control) pick) (
      found_name IsPhaseId (λ (id : PhaseId). id.standard) (λ id good. good.standard) (find test control.phase_ids.items) pick.phase
      (find-All IsPhaseId test control.phase_ids.items limits.phase_ids) is.phase)

  -- a used pick has names, and so has another one
  abbrev IsUseNamed : UsedPick → Type 0
  IsUseNamed u = has_names u ≡ true

  use_named : (pick : Pick) → IsPick pick → IsUseNamed (used_pick (values_of control) keys pick)
  unfolding used_pick_at
  use_named pick is = rw (station_named pick is, phase_named pick is) refl

  one_used : (pick : Pick) → IsPick pick → (reason : Option Reason) → All IsUseNamed (if_used (values_of control) keys pick reason)
  one_used pick is None = All-cons IsUseNamed (used_pick (values_of control) keys pick) [] (use_named pick is) (All-nil IsUseNamed)
  one_used pick is (Some reason) = All-nil IsUseNamed

  few_used : (pick : Pick) (reason : Option Reason) → length (if_used (values_of control) keys pick reason) ≤ 1
  few_used pick None = omega arith
  few_used pick (Some reason) = omega arith

  used_named : (picks : List Pick) → All IsPick picks → All IsUseNamed (used_picks (values_of control) keys places picks)
  unfolding used_picks
  used_named picks all =
      let each : List Pick × Pick → List UsedPick = λ p. if_used (values_of control) keys p.1 (reason_of (values_of control) keys places p.0 p.1) in
      let named : (p : List Pick × Pick) → IsPick p.1 → All IsUseNamed (each p) = λ p is. one_used p.1 is (reason_of (values_of control) keys places p.0 p.1) in
      let picks_all = with_before IsPick picks all in
      All-flat_map IsUseNamed each (with_those_before picks) (λ i d below. named (get_or (with_those_before picks) i d) (picks_all i d below))

  used_few : (picks : List Pick) → length (used_picks (values_of control) keys places picks) ≤ length picks
  unfolding used_picks
  used_few picks =
      let each : List Pick × Pick → List UsedPick = λ p. if_used (values_of control) keys p.1 (reason_of (values_of control) keys places p.0 p.1) in
      let few = few_flat each (with_those_before picks) (λ p. few_used p.1 (reason_of (values_of control) keys places p.0 p.1)) in
      omega (arith, few, few_before picks)

  abbrev IsSkipNamed : Skip → Type 0
  IsSkipNamed s = skip_has_names s ≡ true

  skip_named : (pick : Pick) → IsPick pick → (reason : Reason) → IsSkipNamed (skip (values_of control) pick reason)
  skip_named pick is reason = rw (station_named pick is, phase_named pick is) refl

  one_skipped : (pick : Pick) → IsPick pick → (reason : Option Reason) → All IsSkipNamed (if_skipped (values_of control) pick reason)
  one_skipped pick is None = All-nil IsSkipNamed
  one_skipped pick is (Some reason) = All-cons IsSkipNamed (skip (values_of control) pick reason) [] (skip_named pick is reason) (All-nil IsSkipNamed)

  few_skipped : (pick : Pick) (reason : Option Reason) → length (if_skipped (values_of control) pick reason) ≤ 1
  few_skipped pick None = omega arith
  few_skipped pick (Some reason) = omega arith

  skipped_named : (picks : List Pick) → All IsPick picks → All IsSkipNamed (skipped_picks (values_of control) keys places picks)
  unfolding skipped_picks
  skipped_named picks all =
      let each : List Pick × Pick → List Skip = λ p. if_skipped (values_of control) p.1 (reason_of (values_of control) keys places p.0 p.1) in
      let named : (p : List Pick × Pick) → IsPick p.1 → All IsSkipNamed (each p) = λ p is. one_skipped p.1 is (reason_of (values_of control) keys places p.0 p.1) in
      let picks_all = with_before IsPick picks all in
      All-flat_map IsSkipNamed each (with_those_before picks) (λ i d below. named (get_or (with_those_before picks) i d) (picks_all i d below))

  skipped_few : (picks : List Pick) → length (skipped_picks (values_of control) keys places picks) ≤ length picks
  unfolding skipped_picks
  skipped_few picks =
      let each : List Pick × Pick → List Skip = λ p. if_skipped (values_of control) p.1 (reason_of (values_of control) keys places p.0 p.1) in
      let few = few_flat each (with_those_before picks) (λ p. few_skipped p.1 (reason_of (values_of control) keys places p.0 p.1)) in
      omega (arith, few, few_before picks)

  -- the event of picks is so
  pub event_named : (rows : List ℕ) (picks : List Pick) → All IsPick picks → length picks ≤ 4096 → IsNamed (event_of (values_of control) keys places rows picks)
  event_named rows picks are few = record {
    used = all_pass has_names (used_picks (values_of control) keys places picks) (used_named picks are);
    skipped = all_pass skip_has_names (skipped_picks (values_of control) keys places picks) (skipped_named picks are);
    few_used = omega (arith, used_few picks, few);
    few_skipped = omega (arith, skipped_few picks, few);
  }
