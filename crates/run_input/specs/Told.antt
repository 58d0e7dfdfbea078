-- What a sink was told: a text, whole or cut short.
use Rattle.std.specs.Prelude.{ℕ, ◌<◌, List, length, take, Option}
use Rattle.edt_outside.specs.Counts.{Rose}
use Rattle.edt_outside.specs.Sinks.{Appends}

-- a sink was given exactly this text
abbrev pub Wrote : {E : Type 0} → (E → Option (List ℕ)) → E → E → List ℕ → Type 0
Wrote taken before after text = Appends (taken before) (taken after) text

-- a sink was told the line: a front of it, and all of it where no fault of the sink rose
pub record Told {E : Type 0} (taken : E → Option (List ℕ)) (faults : E → ℕ) (before after : E) (line : List ℕ) : Type 0 where
  pub front : (n : ℕ) × Appends (taken before) (taken after) (take n line)
  pub whole : (Rose (faults before) (faults after) → ⊥) → Appends (taken before) (taken after) line

-- a proper front of a text has this
abbrev pub IsCutShort : (List ℕ → Type 0) → List ℕ → Type 0
IsCutShort Has text = (n : ℕ) × (n < length text) × Has (take n text)
