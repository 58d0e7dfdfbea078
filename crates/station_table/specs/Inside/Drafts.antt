-- What a draft of the picks of an event stands for.
use Rattle.std.specs.Prelude.{◌≡◌, ℕ, ◌^◌, ◌<◌, ◌==◌, ◌&&◌, Bool, false, List, [], ◌∷◌, ◌++◌, length, get_or, All, Option, Some, None}
use Rattle.std.specs.List.{list_any}
use Rattle.control_reader.specs.Limits.{IsControl}
use Rattle.control_reader.specs.ControlValues.{ControlValues, values_of}
use Rattle.phase_reader.specs.declared.phases.Pick.{Pick}
use Rattle.station_table.specs.declared.draft.Rules.{Rules}
use Rattle.station_table.specs.declared.keys.GridKey.{GridKey}
use Rattle.station_table.specs.declared.keys.Place.{Place}
use Rattle.station_table.specs.declared.picks.Picks.{Picks}
use Rattle.station_table.specs.declared.picks.Reason.{Reason}
use Rattle.station_table.specs.declared.picks.Reason.TheVariants.{Duplicate, NoGrid, Far, BeyondMax}
use Rattle.station_table.specs.Distances.{is_too_far}
use Rattle.station_table.specs.Keys.{key_of, key_place, is_wanted}
use Rattle.station_table.specs.Limits.{IsPlace}
use Rattle.text_terms.specs.Faults.{first_cause}
use Rattle.station_table.specs.Reasons.{where_so}
use Rattle.station_table.specs.Using.{is_absent, is_full, used_picks, skipped_picks, reason_of, ArePicksOf}

-- the first reason but for the first three, by what is noted: an earlier pick has the key, the source is there, so many picks are used
abbrev pub late_reason : ControlValues → Bool → Place → ℕ → Option Reason
late_reason control is_met source used =
    first_cause (
    where_so (control.reject_duplicates && is_met) Duplicate
    ∷ where_so (is_absent source) NoGrid
    ∷ where_so (is_too_far control source) Far
    ∷ where_so (is_full control used) BeyondMax
    ∷ [])

-- a key is at this place
abbrev pub is_at : ℕ → Option ℕ → Bool
is_at place None = false
is_at place (Some other) = place == other

-- a pick of these may need a grid and has the key at this place
unfoldable pub is_met : ControlValues → List GridKey → List Pick → ℕ → Bool
is_met control keys picks place = list_any (λ pick. is_wanted control pick && is_at place (key_place keys (key_of control pick))) picks

-- the limits within which rules decide
pub record AreRules (rules : Rules) : Type 0 where
  pub control : IsControl rules.control.now
  pub one_each : length rules.index ≡ length rules.places.now
  pub few : length rules.index < 2 ^ 32
  pub near : All IsPlace rules.places.now

-- the control of rules
abbrev pub rules_control : Rules → ControlValues
rules_control rules = values_of rules.control.now

-- the rules decide the picks of an event so
abbrev pub AreDrafted : Rules → List Pick → Picks → Type 0
AreDrafted rules event picks = ArePicksOf (rules_control rules) rules.index rules.places.now event picks

-- for each key it is noted whether a pick that may need its grid was met
pub record Notes (rules : Rules) (before : List Pick) (met : List Bool) : Type 0 where
  pub one_each : length met ≡ length rules.index
  pub noted : (place : ℕ) → place < length rules.index → get_or met place false ≡ is_met (values_of rules.control.now) rules.index before place

-- the keys of the picks before are noted, and those picks are decided by the rules
pub record Follows (rules : Rules) (before : List Pick) (met : List Bool) (picks : Picks) : Type 0 where
  pub notes : Notes rules before met
  pub used : picks.used.items ≡ used_picks (values_of rules.control.now) rules.index rules.places.now before
  pub skipped : picks.skipped.items ≡ skipped_picks (values_of rules.control.now) rules.index rules.places.now before

-- one more pick is noted, whatever the picks before are
abbrev pub NotesMore : Rules → Pick → List Bool → List Bool → Type 0
NotesMore rules pick met noted = (before : List Pick) → Notes rules before met → Notes rules (before ++ pick ∷ []) noted

-- one more pick is noted and decided, whatever the picks before are
abbrev pub FollowsMore : Rules → Pick → List Bool × Picks → List Bool × Picks → Type 0
FollowsMore rules pick old new =
    (before : List Pick) → Follows rules before old.0 old.1 → Follows rules (before ++ pick ∷ []) new.0 new.1

-- a pick has this reason, whatever the picks before are, of which so many are used
abbrev pub HasReason : Rules → Pick → List Bool → ℕ → Option Reason → Type 0
HasReason rules pick met used reason =
    (before : List Pick) → Notes rules before met
    → used ≡ length (used_picks (rules_control rules) rules.index rules.places.now before)
    → reason ≡ reason_of (rules_control rules) rules.index rules.places.now before pick

-- the key of a pick is at this place
abbrev pub HasPlace : Rules → Pick → ℕ → Type 0
HasPlace rules pick place = key_place rules.index (key_of (rules_control rules) pick) ≡ Some place
