-- The status of a run.
use Rattle.std.specs.Prelude.{ℕ, Bool, ◌==◌, List}
use Rattle.std.specs.List.{list_any}

-- the status is one of these
abbrev pub is_one_of : ℕ → List ℕ → Bool
is_one_of status statuses = list_any (λ s. s == status) statuses
