-- Causes, and the first faulty item of a list of n items with its cause; an item after the last one, at n, is one that is missing.
use Rattle.std.specs.Prelude.{◌≡◌, ℕ, ◌<◌, ◌≤◌, Bool, if◌then◌else◌, List, [], ◌∷◌, Option, Some, None}
use Rattle.std.specs.Option.{option_or}

-- a cause, unless the test passes
abbrev pub unless : {Cause : Type 0} → Bool → Cause → Option Cause
unless test cause = if test then None else Some cause

-- the first of several causes that is there
abbrev pub first_cause : {Cause : Type 0} → List (Option Cause) → Option Cause
first_cause [] = None
first_cause (cause ∷ causes) = option_or cause (first_cause causes)

-- no item before the place is faulty
abbrev pub NoFaultBelow : {Cause : Type 0} → (ℕ → Option Cause) → ℕ → Type 0
NoFaultBelow fault_at n = (j : ℕ) → j < n → fault_at j ≡ None

-- neither an item nor the end of the list is faulty
abbrev pub HasNoFault : {Cause : Type 0} → (ℕ → Option Cause) → ℕ → Type 0
HasNoFault fault_at n = (j : ℕ) → j ≤ n → fault_at j ≡ None

-- the item at the place is faulty by this cause, and none before it is
pub record IsFirstFault {Cause : Type 0} (fault_at : ℕ → Option Cause) (n place : ℕ) (cause : Cause) : Type 0 where
  pub within : place ≤ n
  pub before : NoFaultBelow fault_at place
  pub here : fault_at place ≡ Some cause
