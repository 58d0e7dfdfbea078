-- Laws of the weight: it never rises with the scale, and prior weights of at most 2000 bound it.
use Rattle.std.proofs.Common.{ℕ, ◌*◌, ◌/◌, ◌<◌, ◌≤◌, arith}
use Rattle.std.proofs.Math.Nat.{mul-le-mul, div-mul-le_self, mul-le-mul_left, div-le_of_le-mul}
use Rattle.std.proofs.lemmas.Nat.{le-div}
use Rattle.pair_weights.specs.Weight.{weight_of}

-- a quotient never rises with its divisor
pub div-falls : (n s t : ℕ) → 0 < s → s ≤ t → n / t ≤ n / s
div-falls n s t positive below =
    let less : n / t * s ≤ n / t * t = mul-le-mul_left (n / t) below in
    le-div (n / t) n s positive (omega (arith, div-mul-le_self n t))

pub weight_of-falls : (pa pb s t : ℕ) → 1000 ≤ s → s ≤ t → weight_of pa pb t ≤ weight_of pa pb s
unfolding weight_of
weight_of-falls pa pb s t at_least below = div-falls (pa * pb * 65536) s t (omega arith) below

pub weight_of-bound : (pa pb s : ℕ) → pa ≤ 2000 → pb ≤ 2000 → 1000 ≤ s → weight_of pa pb s ≤ 262144000
unfolding weight_of
weight_of-bound pa pb s first second at_least =
    let product : pa * pb ≤ 2000 * 2000 = mul-le-mul first second in
    let wide : 262144000 * 1000 ≤ 262144000 * s = mul-le-mul_left 262144000 at_least in
    div-le_of_le-mul s (omega arith)
