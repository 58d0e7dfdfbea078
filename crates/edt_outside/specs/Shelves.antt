-- Words on a shelf of files.
use Rattle.std.specs.Prelude.{◌≡◌, List, [], ℕ, ◌<◌, ◌≤◌, length, take, drop, Option, Some}

-- the files of a shelf: the bytes under a name, or none
abbrev pub Files : Type 0
Files = List ℕ → Option (List ℕ)

-- a read that gave n bytes: the first n unread ones, which are then removed, and none into a
-- nonempty slice only at the end
pub record Gives (unread : List ℕ) (n : ℕ) (into : List ℕ) (left : Option (List ℕ)) : Type 0 where
  pub there : n ≤ length unread
  pub given : take n into ≡ take n unread
  pub removed : left ≡ Some (drop n unread)
  pub ends : n ≡ 0 → 0 < length into → unread ≡ []
