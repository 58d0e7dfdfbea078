use Rattle.std.proofs.Common.{◌≡◌, ◌-◌, ◌*◌, ◌^◌, ◌<◌, ◌≤◌, true, refl, ◌∙◌, arith}
use Rattle.std.specs.Prelude.{nat_le}
use Rattle.std.proofs.lemmas.Grind.{common_steps}
use Rattle.std.proofs.Math.Nat.{pow-le-pow_right}
use Rattle.fixed_decimal.proofs.NearestLaws.{nearest-lowered, nearest-raised}
use Rattle.fixed_decimal.proofs.size.rounded.Goals as goal

pub pow-requires : goal.pow-requires
pow-requires c =
    let few : c.args.raised_by - c.args.lowered_by ≤ 36 = omega arith in
    omega (arith, pow-le-pow_right {n = 10} (omega arith) few)

pub returns-then-raised_by-lowered_by-clause-value : goal.returns-then-raised_by-lowered_by-clause-value
returns-then-raised_by-lowered_by-clause-value c =
    rw (nearest-lowered c.args.digits c.args.raised_by c.args.lowered_by c.lowered.result c.if-raised_by-lowered_by.true c.lowered.ensures)
    c.below_limit.ensures

pub returns-in-Some-clause-value : goal.returns-in-Some-clause-value
returns-in-Some-clause-value c =
    let is : c.in-Some.size ≡ c.args.digits * 10 ^ (c.args.raised_by - c.args.lowered_by) = c.in-Some.ensures.1 ∙ rw c.pow.ensures refl in
    rw (nearest-raised c.args.digits c.args.raised_by c.args.lowered_by c.if-raised_by-lowered_by.false, ← is) c.below_limit-in-Some.ensures

pub returns-in-None-clause-value : goal.returns-in-None-clause-value
returns-in-None-clause-value c =
    let not_small : c.args.digits * 10 ^ (c.args.raised_by - c.args.lowered_by) < 2 ^ 128 → ⊥ = rw (← c.pow.ensures) c.in-None.ensures in
    let large : 2 ^ 128 ≤ c.args.digits * 10 ^ (c.args.raised_by - c.args.lowered_by) = omega arith in
    let out : nat_le (10 ^ 15) (c.args.digits * 10 ^ (c.args.raised_by - c.args.lowered_by)) ≡ true = grind (arith, common_steps) in
    rw (nearest-raised c.args.digits c.args.raised_by c.args.lowered_by c.if-raised_by-lowered_by.false, out) refl
