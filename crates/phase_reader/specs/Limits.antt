-- The limits within which the values of a phase file are.
use Rattle.std.specs.Prelude.{◌*◌, ◌^◌, ◌≤◌, ◌<◌, IsTrue, List, [], ◌∷◌, length, All, ◌-ℤ◌, unsigned_abs}
use Rattle.text_terms.specs.Names.{is_name}
use Rattle.phase_reader.specs.declared.phases.Pick.{Pick}
use Rattle.phase_reader.specs.declared.phases.Event.{Event}

-- station and phase are names, and the numbers are within those that dates and decimals reach
pub record IsPick (pick : Pick) : Type 0 where
  pub station : IsTrue (is_name 64 pick.station)
  pub phase : IsTrue (is_name 64 pick.phase)
  pub time : unsigned_abs pick.time ≤ 3 * 10 ^ 17
  pub error : unsigned_abs pick.error < 10 ^ 15
  pub weight : unsigned_abs pick.weight ≤ 10 ^ 12

-- two picks whose times differ by at most 10^12 microseconds
abbrev pub AreNear : Pick → Pick → Type 0
AreNear first pick = unsigned_abs (pick.time -ℤ first.time) ≤ 10 ^ 12

-- each pick is near the first one
abbrev pub AreNearFirst : List Pick → Type 0
AreNearFirst [] = Unit {0}
AreNearFirst (first ∷ picks) = All (AreNear first) picks

-- 1 to 4096 picks, each near the first
pub record IsEvent (event : Event) : Type 0 where
  pub some : 1 ≤ length event.picks.items
  pub few : length event.picks.items ≤ 4096
  pub picks : All IsPick event.picks.items
  pub near : AreNearFirst event.picks.items
