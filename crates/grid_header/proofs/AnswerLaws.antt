-- A reading leaves no room for another one, or for a fault.
use Rattle.std.proofs.Common.{◌≡◌, ℕ, List, Some, None, sym, ◌∙◌}
use Rattle.grid_header.specs.declared.header.Header.{Header}
use Rattle.grid_header.specs.declared.header.HeaderError.{HeaderError}
use Rattle.grid_header.specs.Causes.{cause_of}
use Rattle.grid_header.specs.Reading.{IsReading}

-- one header at most is the reading
pub one_reading : (bytes : List ℕ) (g h : Header) → IsReading bytes g → IsReading bytes h → g ≡ h
one_reading bytes g h r s = r.is ∙ sym s.is

-- a reading is refused for no cause
pub no_fault : (bytes : List ℕ) (h : Header) (cause : HeaderError) → IsReading bytes h → cause_of bytes ≡ Some cause → ⊥
no_fault bytes h cause r e = let none : None ≡ Some cause = sym r.good ∙ e in absurd cc
