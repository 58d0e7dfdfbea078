-- Where a value goes that was read.
use Rattle.std.specs.Prelude.{◌≡◌, not, IsTrue, IfErr, OnOk, is_ok, Result, Ok, Err, List, [], ◌∷◌, ◌++◌, Option, Some}
use Rattle.control_reader.specs.declared.fault.ControlCause.{ControlCause}
use Rattle.control_reader.specs.declared.fault.ControlCause.TheVariants.{Memory}

-- a value that was read takes its place, and a cause is handed on
abbrev pub Puts : {T U : Type 0} → Result T ControlCause → Option T → Result U ControlCause → Type 0
Puts (Ok value) place result = (place ≡ Some value) × IsTrue (is_ok result)
Puts (Err cause) place result = IfErr result (λ other. other ≡ cause) × IsTrue (not (is_ok result))

-- a value that was read stands after the others, but when out of memory, and a cause is handed on
abbrev pub Pushes : {T U : Type 0} → Result T ControlCause → List T → List T → Result U ControlCause → Type 0
Pushes (Ok value) before after result = OnOk result (after ≡ before ++ value ∷ []) × IfErr result (λ other. other ≡ Memory)
Pushes (Err cause) before after result = IfErr result (λ other. other ≡ cause) × IsTrue (not (is_ok result))
