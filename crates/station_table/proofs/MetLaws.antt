-- What is noted of the keys of picks.
use Rattle.std.proofs.Common.{◌≡◌, ℕ, ◌<◌, Bool, true, false, List, [], ◌∷◌, ◌++◌, length, get_or, set, replicate, Some, None, Option, inl, inr, refl, sym, ap, ◌∙◌, arith}
use Rattle.std.specs.Prelude.{◌==◌, ◌&&◌, ◌||◌}
use Rattle.std.specs.List.{list_any}
use Rattle.std.proofs.lemmas.Bool.{cases_Bool, cases_eq, and_parts, and_from, or_right, false_from_ne_true, eqb-true, eq-eqb, ne_eqb}
use Rattle.std.proofs.lemmas.List.{length-replicate, get_or-replicate, length-set, get_or-set_same, get_or-set_other}
use Rattle.std.proofs.lemmas.List.Folds.{list_any-append}
use Rattle.std.proofs.lemmas.List.Quantifiers.{position-Some}
use Rattle.std.proofs.lemmas.Slice.Eq.{bytes_eq-Decides}
use Rattle.control_reader.specs.ControlValues.{ControlValues, values_of}
use Rattle.phase_reader.specs.declared.phases.Pick.{Pick}
use Rattle.station_table.specs.declared.draft.Rules.{Rules}
use Rattle.station_table.specs.declared.keys.GridKey.{GridKey}
use Rattle.station_table.specs.Inside.Drafts.{Notes, is_at, is_met}
use Rattle.station_table.specs.Keys.{same_key, key_for, key_of, key_place, is_wanted}
use Rattle.station_table.specs.Stations.{station_of, phase_of}
use Rattle.station_table.specs.Using.{are_of_one_phase, is_duplicate}
use Rattle.station_table.proofs.KeyLaws.{same_key-is}
use Rattle.station_table.proofs.ListLaws.{list_any_same}

or_false : (b : Bool) → (b || false) ≡ b
or_false true = refl
or_false false = refl

-- a place that a key is at
at_some : (p : ℕ) (place : Option ℕ) → is_at p place ≡ true → place ≡ Some p
at_some p None e = absurd cc
at_some p (Some other) e = ap Some (sym (eqb-true p other e))

module _ (control : ControlValues) (keys : List GridKey) where
  -- a pick that may need a grid and has the key at a place
  abbrev has_key_at : ℕ → Pick → Bool
  has_key_at place pick = is_wanted control pick && is_at place (key_place keys (key_of control pick))

  -- one more pick notes its key, if it may need a grid
  met_wanted : (before : List Pick) (pick : Pick) (p place : ℕ) → is_wanted control pick ≡ true → key_place keys (key_of control pick) ≡ Some p
      → is_met control keys (before ++ pick ∷ []) place ≡ (is_met control keys before place || place == p)
  unfolding is_met
  met_wanted before pick p place wanted at =
      list_any-append (has_key_at place) before (pick ∷ [])
      ∙ (λ j. list_any (has_key_at place) before || ((wanted j && is_at place (at j)) || false))
      ∙ ap (λ b. list_any (has_key_at place) before || b) (or_false (place == p))

  met_unwanted : (before : List Pick) (pick : Pick) (place : ℕ) → is_wanted control pick ≡ false
      → is_met control keys (before ++ pick ∷ []) place ≡ is_met control keys before place
  unfolding is_met
  met_unwanted before pick place unwanted =
      list_any-append (has_key_at place) before (pick ∷ [])
      ∙ (λ j. list_any (has_key_at place) before || ((unwanted j && is_at place (key_place keys (key_of control pick))) || false))
      ∙ or_false (list_any (has_key_at place) before)

  -- the station and the standard phase of a key
  key_station : (station phase : List ℕ) → (key_for control station phase).station ≡ station
  unfolding key_for
  key_station station phase = refl

  key_phase : (station phase : List ℕ) → (key_for control station phase).phase ≡ phase
  unfolding key_for
  key_phase station phase = refl

  -- two keys at one place are equal
  one_place : (a b : GridKey) (p : ℕ) → key_place keys a ≡ Some p → key_place keys b ≡ Some p → a ≡ b
  unfolding key_place
  one_place a b p at_a at_b =
      let first = position-Some (same_key a) keys p a at_a in
      let second = position-Some (same_key b) keys p a at_b in
      same_key-is a (get_or keys p a) first.1 ∙ sym (same_key-is b (get_or keys p a) second.1)

  -- a pick has the key at a place exactly where it is of the phase of the pick whose key is there
  at_is_phase : (earlier pick : Pick) (p : ℕ) → key_place keys (key_of control pick) ≡ Some p
      → is_at p (key_place keys (key_of control earlier)) ≡ are_of_one_phase control earlier pick
  at_is_phase earlier pick p at =
      let here = is_at p (key_place keys (key_of control earlier)) in
      elim (cases_Bool (are_of_one_phase control earlier pick)) [
        | inl one ↦
            let parts = and_parts _ _ one in
            let station : station_of control earlier ≡ station_of control pick = (bytes_eq-Decides (station_of control earlier) (station_of control pick)).0 parts.0 in
            let phase : phase_of control earlier ≡ phase_of control pick = (bytes_eq-Decides (phase_of control earlier) (phase_of control pick)).0 parts.1 in
            (λ j. is_at p (key_place keys (key_for control (station j) (phase j)))) ∙ ap (is_at p) at ∙ eq-eqb p p refl ∙ sym one
        | inr other ↦
            false_from_ne_true here (λ same.
            let key = one_place (key_of control earlier) (key_of control pick) p (at_some p (key_place keys (key_of control earlier)) same) at in
            let station : station_of control earlier ≡ station_of control pick =
            sym (key_station (station_of control earlier) (phase_of control earlier)) ∙ ap (λ (k : GridKey). k.station) key ∙ key_station (station_of control pick) (phase_of control pick) in
            let phase : phase_of control earlier ≡ phase_of control pick =
            sym (key_phase (station_of control earlier) (phase_of control earlier)) ∙ ap (λ (k : GridKey). k.phase) key ∙ key_phase (station_of control pick) (phase_of control pick) in
            let both = and_from _ _ ((bytes_eq-Decides (station_of control earlier) (station_of control pick)).1 station) ((bytes_eq-Decides (phase_of control earlier) (phase_of control pick)).1 phase) in
            cc)
            ∙ sym other
      ]

  -- so the key at a place is noted exactly where a pick before is of the phase of the pick whose key is there
  pub met_is_duplicate : (before : List Pick) (pick : Pick) (p : ℕ) → key_place keys (key_of control pick) ≡ Some p
      → (control.reject_duplicates && is_met control keys before p) ≡ is_duplicate control before pick
  unfolding is_met is_duplicate
  met_is_duplicate before pick p at =
      ap (λ b. control.reject_duplicates && b)
      (list_any_same (has_key_at p) (λ earlier. is_wanted control earlier && are_of_one_phase control earlier pick)
      (λ earlier. ap (λ b. is_wanted control earlier && b) (at_is_phase earlier pick p at)) before)

-- nothing is noted of no picks
pub notes_none : (rules : Rules) → Notes rules [] (replicate (length rules.index) false)
unfolding is_met
notes_none rules = record {
  one_each = length-replicate (length rules.index) false;
  noted = λ place below. get_or-replicate (length rules.index) place false false below;
}

-- a pick that may need a grid notes its key
pub notes_wanted : (rules : Rules) (before : List Pick) (pick : Pick) (met : List Bool) (p : ℕ) → is_wanted (values_of rules.control.now) pick ≡ true
    → key_place rules.index (key_of (values_of rules.control.now) pick) ≡ Some p → p < length rules.index → Notes rules before met
    → Notes rules (before ++ pick ∷ []) (set met p true)
notes_wanted rules before pick met p wanted at within notes =
    let control = values_of rules.control.now in
    let keys = rules.index in
    let in_met : p < length met = omega (arith, notes.one_each) in
    record {
      one_each = length-set met p true ∙ notes.one_each;
      noted = λ place below. elim (cases_eq place p) [
        | inl same ↦
            ap (λ k. get_or (set met p true) k false) same ∙ get_or-set_same met p true false in_met
            ∙ sym (met_wanted control keys before pick p place wanted at ∙ or_right (is_met control keys before place) (place == p) (eq-eqb place p same))
        | inr other ↦
            get_or-set_other met p place true false other ∙ notes.noted place below
            ∙ sym (met_wanted control keys before pick p place wanted at ∙ ap (λ b. is_met control keys before place || b) (ne_eqb place p other)
            ∙ or_false (is_met control keys before place))
      ];
    }

-- another one notes nothing
pub notes_unwanted : (rules : Rules) (before : List Pick) (pick : Pick) (met : List Bool) → is_wanted (values_of rules.control.now) pick ≡ false
    → Notes rules before met → Notes rules (before ++ pick ∷ []) met
notes_unwanted rules before pick met unwanted notes = record {
  one_each = notes.one_each;
  noted = λ place below. notes.noted place below ∙ sym (met_unwanted (values_of rules.control.now) rules.index before pick place unwanted);
}
