-- Thresholds rise with the best score, and aren't above it.
use Rattle.std.proofs.Common.{◌≡◌, ℕ, ◌+◌, ◌-◌, ◌*◌, ◌/◌, ◌%◌, ◌≤◌, max, ap, arith}
use Rattle.std.proofs.Math.Nat.{mul-le-mul_left}
use Rattle.node_boxes.proofs.Partition.{div_up}
use Rattle.octree_search.specs.Cover.{threshold_of}

pub threshold_some : (margin s : ℕ) → 1 ≤ threshold_of margin s
threshold_some margin s = omega arith

pub threshold_up : (margin s r : ℕ) → s ≤ r → threshold_of margin s ≤ threshold_of margin r
threshold_up margin s r up =
    let times : (1000 - margin) * s ≤ (1000 - margin) * r = mul-le-mul_left (1000 - margin) up in
    let parts : (s * (1000 - margin) + 999) / 1000 ≤ (r * (1000 - margin) + 999) / 1000 =
    div_up (s * (1000 - margin) + 999) (r * (1000 - margin) + 999) 1000 (omega arith) (omega (arith, times)) in
    omega (arith, parts)

pub threshold_le : (margin s : ℕ) → threshold_of margin s ≤ max 1 s
threshold_le margin s =
    let part : 1000 - margin ≤ 1000 = omega arith in
    let times : s * (1000 - margin) ≤ s * 1000 = mul-le-mul_left s part in
    omega (arith, times)

-- the threshold, without the product of score and thousandths
pub threshold_by : (margin best : ℕ) → margin ≤ 999
    → max (best - (best / 1000 * margin + best % 1000 * margin / 1000)) 1 ≡ threshold_of margin best
threshold_by margin best few =
    let parts : best ≡ 1000 * (best / 1000) + best % 1000 = omega arith in
    let taken : best * margin ≡ (1000 * (best / 1000) + best % 1000) * margin = ap (λ b. b * margin) parts in
    let whole : margin + (1000 - margin) ≡ 1000 = omega arith in
    let all : best * (margin + (1000 - margin)) ≡ best * 1000 = ap (λ k. best * k) whole in
    omega (arith, taken, all)
