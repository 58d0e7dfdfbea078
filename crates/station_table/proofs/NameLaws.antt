-- The words of keys are names.
use Rattle.std.proofs.Common.{ℕ, Bool, true, false, List, [], ◌∷◌, Option, Some, None, All, IsTrue, refl}
use Rattle.std.specs.Prelude.{IfSome, unwrap_or, codes, if◌then◌else◌, filter}
use Rattle.std.specs.List.{find, flat_map}
use Rattle.std.specs.Option.{option_map}
use Rattle.std.proofs.lemmas.List.Elements.{All-nil, All-head, All-tail, All-append, All-map, All-filter, All-weaker}
use Rattle.text_terms.specs.Names.{is_name}
use Rattle.control_reader.specs.ControlValues.{values_of}
use Rattle.control_reader.specs.Limits.{IsControl, IsAlias, IsPhaseId}
use Rattle.control_reader.specs.declared.control.Control.{Control}
use Rattle.control_reader.specs.declared.control.Alias.{Alias}
use Rattle.control_reader.specs.declared.control.PhaseId.{PhaseId}
use Rattle.phase_reader.specs.Limits.{IsPick, IsEvent}
use Rattle.phase_reader.specs.PhaseFile.{picks_of_events}
use Rattle.phase_reader.specs.declared.phases.Event.{Event}
use Rattle.phase_reader.specs.declared.phases.Pick.{Pick}
use Rattle.station_table.specs.Keys.{key_for, key_of, keys_of, is_converted, is_wanted, wanted_keys}
use Rattle.station_table.specs.Limits.{IsKey}
use Rattle.station_table.specs.Stations.{station_of, phase_of, is_alias_of}
use Rattle.std.specs.Str.{bytes_eq}
use Rattle.text_terms.proofs.ListLaws.{find-All}
use Rattle.station_table.proofs.SeenLaws.{seen_all}

-- a name that is found, or else another one
found_name : {A : Type 0} (P : A → Type 0) (name : A → List ℕ) → ((a : A) → P a → IsTrue (is_name 64 (name a))) → (found : Option A) (own : List ℕ)
    → IfSome found P → IsTrue (is_name 64 own) → IsTrue (is_name 64 (unwrap_or (option_map name found) own))
found_name P name named None own is good = good
found_name P name named (Some a) own is good = named a is

module _ (control : Control) (limits : IsControl control) (pick : Pick) (good : IsPick pick) where
  station_named : IsTrue (is_name 64 (station_of (values_of control) pick))
  unfolding station_of
  station_named =
      found_name IsAlias (λ (alias : Alias). alias.alias) (λ alias is. is.alias) (find (is_alias_of pick) control.aliases.items) pick.station
      (find-All IsAlias (is_alias_of pick) control.aliases.items limits.aliases) good.station

  phase_named : IsTrue (is_name 64 (phase_of (values_of control) pick))
  unfolding phase_of
  phase_named =
      let test : PhaseId → Bool = λ id. bytes_eq id.code pick.phase in
      found_name IsPhaseId (λ (id : PhaseId). id.standard) (λ id is. is.standard) (find test control.phase_ids.items) pick.phase
      (find-All IsPhaseId test control.phase_ids.items limits.phase_ids) good.phase

  -- the key of a pick has names of at most 64 bytes
  pub key_named : IsKey (key_of (values_of control) pick)
  unfolding key_for
  key_named = record { station = station_named; phase = phase_named; grid_phase = grid (is_converted (values_of control) (phase_of (values_of control) pick)) }
    where
      grid : (converted : Bool) → IsTrue (is_name 64 (if converted then codes "P" else phase_of (values_of control) pick))
      grid true = refl
      grid false = phase_named

-- what holds of each item of each list holds of all items
All-flat : {A : Type 0} (P : A → Type 0) (lists : List (List A)) → All (All P) lists → All P (flat_map (λ xs. xs) lists)
All-flat P [] all = All-nil P
All-flat P (xs ∷ lists) all = All-append P xs (flat_map (λ ys. ys) lists) (All-head (All P) xs lists all) (All-flat P lists (All-tail (All P) xs lists all))

-- and so have those that are wanted
pub wanted_named : (control : Control) → IsControl control → (events : List Event) → All IsEvent events → All IsKey (wanted_keys (values_of control) (picks_of_events events))
unfolding wanted_keys
wanted_named control limits events all =
    let picks = flat_map (λ ps. ps) (picks_of_events events) in
    let good : All IsPick picks =
    All-flat IsPick (picks_of_events events)
    (All-map (All IsPick) (λ (event : Event). event.picks.items) events (All-weaker IsEvent (λ (event : Event). All IsPick event.picks.items) (λ event is. is.picks) events all)) in
    let IsGood : Pick → Type 0 = λ pick. IsKey (key_of (values_of control) pick) in
    seen_all IsKey (keys_of (values_of control) picks)
    (All-map IsKey (key_of (values_of control)) (filter (is_wanted (values_of control)) picks)
    (All-filter (is_wanted (values_of control)) IsGood picks (All-weaker IsPick IsGood (λ pick is. key_named control limits pick is) picks good)))
