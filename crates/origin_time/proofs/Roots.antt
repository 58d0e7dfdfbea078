-- Why the root of the rounded quotient is the root mean square.
use Rattle.std.proofs.Common.{ℕ, ◌+◌, ◌*◌, ◌≤◌, ◌<◌, List, ℤ, arith}
use Rattle.std.specs.Int.{div_ceil}
use Rattle.std.proofs.Math.Nat.{mul-le-mul_left, lt_of_mul-lt-mul_right}
use Rattle.std.proofs.lemmas.Grind.{div_ceil_times}
use Rattle.origin_time.specs.Weights.{total_weight}
use Rattle.origin_time.specs.RootMeanSquare.{IsRms, total_square}

-- the rounded quotient by some weight is at most what bounds the squares
pub quotient_is_few : (squares weight most : ℕ) → 0 < weight → squares ≤ weight * most → div_ceil squares weight ≤ most
quotient_is_few squares weight most some small =
    let times = (div_ceil_times squares weight some).1 in
    let below : div_ceil squares weight * weight < (most + 1) * weight = omega (arith, times, small) in
    let less : div_ceil squares weight < most + 1 = lt_of_mul-lt-mul_right weight below in omega (arith, less)

-- the root of the rounded quotient
pub root_is : (items : List (ℤ × ℕ)) (root : ℕ) → 0 < total_weight items → div_ceil (total_square items) (total_weight items) ≤ root * root
    → ((k : ℕ) → k < root → k * k < div_ceil (total_square items) (total_weight items)) → IsRms items root
root_is items root some enough least =
    let p : ℕ = total_weight items in
    let q : ℕ = div_ceil (total_square items) (total_weight items) in
    let times = div_ceil_times (total_square items) p some in
    record {
      enough = let wide : p * q ≤ p * (root * root) = mul-le-mul_left p enough in omega (arith, wide, times.0);
      least = λ k below. let narrow : p * (k * k + 1) ≤ p * q = mul-le-mul_left p (omega (arith, least k below)) in omega (arith, narrow, times.1);
    }
