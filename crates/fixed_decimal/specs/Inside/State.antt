-- How far a text has come within the form of a decimal.
use Rattle.std.specs.Prelude.{ℕ, ◌&&◌, not, Bool, true, false, if◌then◌else◌, List, [], ◌∷◌, Option, Some, None}
use Rattle.std.specs.Char.{is_ascii_digit}
use Rattle.std.specs.Option.{option_and_then}
use Rattle.fixed_decimal.specs.declared.form.State.{State}
use Rattle.fixed_decimal.specs.declared.form.State.TheVariants.{Start, Mantissa, Mark, Exponent}
use Rattle.fixed_decimal.specs.Form.{is_sign, is_mark, is_point}

-- the next state within the mantissa, given whether a digit and whether a point stood there
abbrev pub after_mantissa : Bool → Bool → ℕ → Option State
after_mantissa digit point b =
    if is_ascii_digit b then Some (Mantissa true point)
    else if is_point b && not point then Some (Mantissa digit true)
    else if is_mark b && digit then Some Mark
    else None

-- the next state within the exponent
abbrev pub after_exponent : ℕ → Option State
after_exponent b = if is_ascii_digit b then Some (Exponent true) else None

-- the state after one more byte, if the byte may stand there
abbrev pub after : State → ℕ → Option State
after Start b = if is_sign b then Some (Mantissa false false) else after_mantissa false false b
after (Mantissa digit point) b = after_mantissa digit point b
after Mark b = if is_sign b then Some (Exponent false) else after_exponent b
after (Exponent digit) b = after_exponent b

-- the text may end here
abbrev pub ends : State → Bool
ends Start = false
ends (Mantissa digit point) = digit
ends Mark = false
ends (Exponent digit) = digit

-- the state after all bytes, if each may stand where it stands
abbrev pub run : State → List ℕ → Option State
run s [] = Some s
run s (b ∷ bytes) = option_and_then (λ t. run t bytes) (after s b)
