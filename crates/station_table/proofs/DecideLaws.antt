-- The reason of a pick, by what is noted of those before it.
use Rattle.std.proofs.Common.{◌≡◌, ℕ, zero, suc, get_or, Bool, List, [], ◌∷◌, length, Option, Some, None, refl, sym, ap, ◌∙◌}
use Rattle.std.specs.Prelude.{◌&&◌, slice_get, unwrap_or}
use Rattle.control_reader.specs.ControlValues.{ControlValues}
use Rattle.phase_reader.specs.declared.phases.Pick.{Pick}
use Rattle.station_table.specs.declared.keys.GridKey.{GridKey}
use Rattle.station_table.specs.declared.keys.Place.{Place}
use Rattle.station_table.specs.declared.keys.Place.TheVariants.{Absent}
use Rattle.station_table.specs.declared.picks.Reason.{Reason}
use Rattle.station_table.specs.declared.picks.Reason.TheVariants.{Duplicate, NoGrid, Far, BeyondMax}
use Rattle.station_table.specs.Distances.{is_too_far}
use Rattle.station_table.specs.Inside.Drafts.{late_reason, is_met}
use Rattle.station_table.specs.Keys.{key_of, key_place, source_of}
use Rattle.text_terms.specs.Faults.{first_cause}
use Rattle.station_table.specs.Reasons.{where_so, early_reason}
use Rattle.station_table.specs.Using.{reason_of, reason_by_itself, used_picks, is_duplicate, is_absent, is_beyond, is_full}
use Rattle.station_table.proofs.MetLaws.{met_is_duplicate}
use Rattle.text_terms.proofs.CauseLaws.{first_flat, first_none}
use Rattle.station_table.proofs.UsingLaws.{beyond_is_full}

-- what is got at a place, or nowhere past the end
got : (places : List Place) (p : ℕ) → unwrap_or (slice_get places p) Absent ≡ get_or places p Absent
got [] p = refl
got (place ∷ places) zero = refl
got (place ∷ places) (suc p) = got places p

module _ (control : ControlValues) (keys : List GridKey) (places : List Place) (before : List Pick) (pick : Pick) where
  -- one of the first three reasons is the first
  pub early_is : (reason : Reason) → early_reason control pick ≡ Some reason → reason_of control keys places before pick ≡ Some reason
  unfolding reason_of reason_by_itself
  early_is reason e = rw e refl

  -- the source of the grid of a pick whose key is at a place
  source_is : (p : ℕ) → key_place keys (key_of control pick) ≡ Some p → source_of keys places (key_of control pick) ≡ get_or places p Absent
  unfolding source_of
  source_is p at = ap (λ o. unwrap_or (slice_get places (unwrap_or o 0)) Absent) at ∙ got places p

  -- where there is none of the first three, the first of the others is what is noted
  pub late_is : (p : ℕ) (met : Bool) (used : ℕ) → early_reason control pick ≡ None → key_place keys (key_of control pick) ≡ Some p
      → met ≡ is_met control keys before p → used ≡ length (used_picks control keys places before)
      → reason_of control keys places before pick ≡ late_reason control met (get_or places p Absent) used
  unfolding reason_of reason_by_itself
  late_is p met used early at noted count =
      let place = source_is p at in
      let again : is_duplicate control before pick ≡ (control.reject_duplicates && met) =
      sym (ap (λ b. control.reject_duplicates && b) noted ∙ met_is_duplicate control keys before pick p at) in
      let full : is_beyond control keys places before ≡ is_full control used = beyond_is_full control keys places before ∙ ap (is_full control) (sym count) in
      let source_now = source_of keys places (key_of control pick) in
      first_flat
      (early_reason control pick
      ∷ where_so (is_duplicate control before pick) Duplicate
      ∷ where_so (is_absent source_now) NoGrid
      ∷ where_so (is_too_far control source_now) Far
      ∷ [])
      (where_so (is_beyond control keys places before) BeyondMax ∷ [])
      ∙ (λ j. first_cause (
      early j
      ∷ where_so (again j) Duplicate
      ∷ where_so (is_absent (place j)) NoGrid
      ∷ where_so (is_too_far control (place j)) Far
      ∷ where_so (full j) BeyondMax
      ∷ []))

  -- a pick that is used meets none of the first three
  pub none_early : reason_of control keys places before pick ≡ None → early_reason control pick ≡ None
  unfolding reason_of reason_by_itself
  none_early none =
      let source = source_of keys places (key_of control pick) in
      let others : List (Option Reason) =
      where_so (is_duplicate control before pick) Duplicate ∷ where_so (is_absent source) NoGrid ∷ where_so (is_too_far control source) Far ∷ [] in
      (first_none (early_reason control pick) others
      (first_none (first_cause (early_reason control pick ∷ others)) (where_so (is_beyond control keys places before) BeyondMax ∷ []) none).0).0
