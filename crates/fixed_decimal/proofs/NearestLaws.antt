-- The nearest whole number is one alone, and stays the same when a fraction is extended.
use Rattle.std.proofs.Common.{◌≡◌, ℕ, ◌+◌, ◌-◌, ◌*◌, ◌^◌, ◌<◌, ◌≤◌, refl, arith}
use Rattle.std.proofs.Math.Nat.{div-eq_of_lt-le, mul-le-mul_left, pow-le-pow_right, one-le-pow}
use Rattle.std.proofs.lemmas.Nat.{pow-add}
use Rattle.fixed_decimal.specs.Nearest.{IsNearest, nearest}

-- a whole number that is nearest is the one of the formula
pub nearest-is : (top bottom n : ℕ) → 0 < bottom → IsNearest top bottom n → nearest top bottom ≡ n
unfolding nearest
nearest-is top bottom n some near =
    div-eq_of_lt-le {k = n} (2 * bottom) {m = 2 * top + bottom} (omega (arith, near.above)) (omega (arith, near.below))

-- the formula gives a nearest whole number
pub IsNearest-nearest : (top bottom : ℕ) → 0 < bottom → IsNearest top bottom (nearest top bottom)
unfolding nearest
IsNearest-nearest top bottom some =
    let twice : 0 < 2 * bottom = omega arith in
    record { above = omega arith; below = omega arith }

-- a fraction that is extended by a factor
pub IsNearest-times : (top bottom n c : ℕ) → 0 < c → IsNearest top bottom n → IsNearest (top * c) (bottom * c) n
IsNearest-times top bottom n c some near =
    let low : c * (2 * (n * bottom)) ≤ c * (2 * top + bottom) = mul-le-mul_left c near.above in
    let more : 2 * top + 1 ≤ 2 * (n * bottom) + bottom = omega (arith, near.below) in
    let high : c * (2 * top + 1) ≤ c * (2 * (n * bottom) + bottom) = mul-le-mul_left c more in
    record { above = omega arith; below = omega arith }

-- a power of ten isn't 0
pub ten_power : (k : ℕ) → 0 < 10 ^ k
ten_power k = one-le-pow k 10 (omega arith)

-- digits that are lowered more than they are raised
pub nearest-lowered : (digits up down n : ℕ) → up < down → IsNearest digits (10 ^ (down - up)) n
    → nearest (digits * 10 ^ up) (10 ^ down) ≡ n
nearest-lowered digits up down n less near =
    let whole : down - up + up ≡ down = omega arith in
    let bottom : 10 ^ down ≡ 10 ^ (down - up) * 10 ^ up = rw (← pow-add 10 (down - up) up, whole) refl in
    rw bottom (nearest-is (digits * 10 ^ up) (10 ^ (down - up) * 10 ^ up) n (rw (← bottom) (ten_power down))
    (IsNearest-times digits (10 ^ (down - up)) n (10 ^ up) (ten_power up) near))

-- digits that are raised as much as they are lowered, or more
pub nearest-raised : (digits up down : ℕ) → down ≤ up → nearest (digits * 10 ^ up) (10 ^ down) ≡ digits * 10 ^ (up - down)
nearest-raised digits up down less =
    let whole : up - down + down ≡ up = omega arith in
    let top : 10 ^ up ≡ 10 ^ (up - down) * 10 ^ down = rw (← pow-add 10 (up - down) down, whole) refl in
    nearest-is (digits * 10 ^ up) (10 ^ down) (digits * 10 ^ (up - down)) (ten_power down)
    (whole_fraction (digits * 10 ^ up) (10 ^ down) (digits * 10 ^ (up - down)) (ten_power down) (rw top (times_apart digits (10 ^ (up - down)) (10 ^ down))))
  where
    times_apart : (a b c : ℕ) → a * (b * c) ≡ a * b * c
    times_apart a b c = omega arith

    whole_fraction : (top bottom n : ℕ) → 0 < bottom → top ≡ n * bottom → IsNearest top bottom n
    whole_fraction top bottom n some is = record { above = omega (arith, is); below = omega (arith, is) }

-- fewer than 31 digits are nearest to 0 in units of 10^31 and more
pub nearest_to_none : (digits by : ℕ) → digits < 10 ^ 30 → 30 < by → IsNearest digits (10 ^ by) 0
nearest_to_none digits by few many =
    let large : 10 ^ 31 ≤ 10 ^ by = pow-le-pow_right {n = 10} (omega arith) many in
    record { above = omega arith; below = omega arith }
