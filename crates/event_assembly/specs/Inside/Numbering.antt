-- The rows, by the used picks of ready events.
use Rattle.std.specs.Prelude.{◌≡◌, ℕ, ◌<◌, ◌≤◌, ◌==◌, Bool, ◌&&◌, true, false, List, length, filter, get_or, slice_index}
use Rattle.std.specs.List.{list_any, range_with_len}
use Rattle.control_reader.specs.ControlValues.{ControlValues}
use Rattle.station_table.specs.declared.picks.UsedPick.{UsedPick}
use Rattle.event_assembly.specs.declared.rows.Rows.{Rows}
use Rattle.event_assembly.specs.Cases.{is_ready}
use Rattle.event_assembly.specs.Rows.{row_of_key}

-- one of the used picks has the key of this number
abbrev pub has_key : ℕ → List UsedPick → Bool
has_key k used = list_any (λ (pick : UsedPick). pick.key == k) used

-- they are ready, and one of them has it
abbrev pub needs_key : ControlValues → ℕ → List UsedPick → Bool
needs_key control k used = is_ready control used && has_key k used

-- the numbers of the marked keys, in order
abbrev pub marked_keys : List Bool → ℕ → List ℕ
marked_keys marks n = filter (λ (k : ℕ). get_or marks k false) (range_with_len 0 n)

-- the row of each marked key is that of its number among them
pub record AreNumbered (marks : List Bool) (rows : Rows) : Type 0 where
  pub keys : rows.keys.items ≡ marked_keys marks (length marks)
  pub long : length rows.row_of_key.items ≡ length marks
  pub few : length rows.keys.items ≤ length marks
  pub row_of_key : (k : ℕ) → get_or marks k false ≡ true → slice_index rows.row_of_key.items k ≡ row_of_key rows.keys.items k
  pub below : (k : ℕ) → get_or marks k false ≡ true → slice_index rows.row_of_key.items k < length rows.keys.items
