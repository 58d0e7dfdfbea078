-- A draft that takes one more pick.
use Rattle.std.proofs.Common.{◌≡◌, ℕ, Bool, List, [], ◌∷◌, ◌++◌, Some, None, sym, subst, ap, ◌∙◌}
use Rattle.std.specs.Prelude.{unwrap_or}
use Rattle.std.proofs.lemmas.List.{append-nil}
use Rattle.control_reader.specs.ControlValues.{values_of}
use Rattle.phase_reader.specs.declared.phases.Pick.{Pick}
use Rattle.station_table.specs.declared.draft.Rules.{Rules}
use Rattle.station_table.specs.declared.picks.Picks.{Picks}
use Rattle.station_table.specs.declared.picks.Reason.{Reason}
use Rattle.station_table.specs.declared.picks.Skip.{Skip}
use Rattle.station_table.specs.declared.picks.UsedPick.{UsedPick}
use Rattle.station_table.specs.Inside.Drafts.{Notes, Follows}
use Rattle.station_table.specs.Keys.{key_of, key_place}
use Rattle.station_table.specs.Using.{used_picks, skipped_picks, reason_of, if_used, if_skipped, used_pick_at, skip}
use Rattle.station_table.proofs.UsingLaws.{used_push, skipped_push}

-- of no picks none is used and none is skipped
pub follows_none : (rules : Rules) (met : List Bool) (picks : Picks) → Notes rules [] met → picks.used.items ≡ [] → picks.skipped.items ≡ [] → Follows rules [] met picks
unfolding used_picks skipped_picks
follows_none rules met picks notes used skipped = record { notes = notes; used = used; skipped = skipped }

-- what holds of a pick holds of the same pick
pub of_same : (rules : Rules) (before : List Pick) (pick other : Pick) (noted : List Bool) (new : Picks) → pick ≡ other
    → Follows rules (before ++ pick ∷ []) noted new → Follows rules (before ++ other ∷ []) noted new
of_same rules before pick other noted new same follows = subst (λ p. Follows rules (before ++ p ∷ []) noted new) same follows

module _ (rules : Rules) (before : List Pick) (pick : Pick) (met noted : List Bool) (old new : Picks) (follows : Follows rules before met old) (notes : Notes rules (before ++ pick ∷ []) noted) where
  -- a pick that has no reason is put after the used ones
  pub follows_used : (used : UsedPick) (place : ℕ) → new.used.items ≡ old.used.items ++ used ∷ [] → new.skipped ≡ old.skipped
      → used ≡ used_pick_at (values_of rules.control.now) pick place → key_place rules.index (key_of (values_of rules.control.now) pick) ≡ Some place
      → reason_of (values_of rules.control.now) rules.index rules.places.now before pick ≡ None → Follows rules (before ++ pick ∷ []) noted new
  follows_used used place more same is at none =
      let control = values_of rules.control.now in
      let keys = rules.index in
      let places = rules.places.now in
      let one : if_used control keys pick (reason_of control keys places before pick) ≡ used ∷ [] =
      ap (if_used control keys pick) none ∙ ap (λ o. used_pick_at control pick (unwrap_or o 0) ∷ []) at ∙ ap (λ u. u ∷ []) (sym is) in
      let none_left : if_skipped control pick (reason_of control keys places before pick) ≡ [] = ap (if_skipped control pick) none in
      record {
        notes = notes;
        used = more ∙ (λ j. follows.used j ++ sym one j) ∙ sym (used_push control keys places before pick);
        skipped =
            ap (λ skipped. skipped.items) same ∙ follows.skipped
            ∙ sym (skipped_push control keys places before pick ∙ ap (λ ss. skipped_picks control keys places before ++ ss) none_left ∙ append-nil (skipped_picks control keys places before));
      }

  -- and one that has a reason is put after the skipped ones
  pub follows_skipped : (skipped : Skip) (reason : Reason) → new.skipped.items ≡ old.skipped.items ++ skipped ∷ [] → new.used ≡ old.used
      → skipped ≡ skip (values_of rules.control.now) pick reason
      → reason_of (values_of rules.control.now) rules.index rules.places.now before pick ≡ Some reason → Follows rules (before ++ pick ∷ []) noted new
  follows_skipped skipped reason more same is some =
      let control = values_of rules.control.now in
      let keys = rules.index in
      let places = rules.places.now in
      let one : if_skipped control pick (reason_of control keys places before pick) ≡ skipped ∷ [] =
      ap (if_skipped control pick) some ∙ ap (λ s. s ∷ []) (sym is) in
      let none_left : if_used control keys pick (reason_of control keys places before pick) ≡ [] = ap (if_used control keys pick) some in
      record {
        notes = notes;
        used =
            ap (λ used. used.items) same ∙ follows.used
            ∙ sym (used_push control keys places before pick ∙ ap (λ us. used_picks control keys places before ++ us) none_left ∙ append-nil (used_picks control keys places before));
        skipped = more ∙ (λ j. follows.skipped j ++ sym one j) ∙ sym (skipped_push control keys places before pick);
      }
