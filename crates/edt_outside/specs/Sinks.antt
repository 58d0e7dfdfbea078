-- Words on a sink of bytes.
use Rattle.std.specs.Prelude.{◌≡◌, List, ℕ, ◌++◌, Option, Some, IfSome}

-- where the bytes taken so far are told, exactly these were appended
abbrev pub Appends : Option (List ℕ) → Option (List ℕ) → List ℕ → Type 0
Appends before after bytes = IfSome before (λ taken. after ≡ Some (taken ++ bytes))
