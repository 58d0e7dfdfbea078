-- Numbers as their digits come, one after another.
use Rattle.std.specs.Prelude.{ℕ, ◌+◌, ◌-◌, ◌*◌, ◌&&◌, nat_le, if◌then◌else◌, Option, Some, None}
use Rattle.std.specs.Char.{is_ascii_digit}

-- the number with one more digit after it, where it is a digit and the number stays within its limit
abbrev pub with_digit : ℕ → ℕ → ℕ → Option ℕ
with_digit most n byte =
    if is_ascii_digit byte && nat_le (10 * n + (byte - 48)) most then Some (10 * n + (byte - 48)) else None
