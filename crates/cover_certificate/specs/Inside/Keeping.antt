-- What a refused write leaves.
use Rattle.std.specs.Prelude.{◌≡◌, ℕ, List, length, take}

-- the new bytes begin with the old ones
pub record Keeps (before after : List ℕ) : Type 0 where
  pub front : take (length before) after ≡ before
