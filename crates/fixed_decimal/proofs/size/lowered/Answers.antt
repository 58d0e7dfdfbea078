use Rattle.std.proofs.Common.{◌^◌, arith}
use Rattle.std.proofs.Math.Nat.{pow-le-pow_right}
use Rattle.fixed_decimal.specs.Nearest.{nearest}
use Rattle.fixed_decimal.proofs.NearestLaws.{ten_power, nearest_to_none, IsNearest-nearest}
use Rattle.fixed_decimal.proofs.size.lowered.Goals as goal

pub returns-then-by-gt30 : goal.returns-then-by-gt30
returns-then-by-gt30 c = nearest_to_none c.args.digits c.args.by c.requires.digits_few c.if-by-gt30.true

pub pow-unit-requires : goal.pow-unit-requires
pow-unit-requires c = omega (arith, pow-le-pow_right {n = 10} (omega arith) c.if-by-gt30.false)

pub overflow_add-result : goal.overflow_add-result
overflow_add-result c = omega (arith, c.pow-unit.ensures, pow-le-pow_right {n = 10} (omega arith) c.if-by-gt30.false)

pub overflow_mul-result-2 : goal.overflow_mul-result-2
overflow_mul-result-2 c = omega (arith, c.pow-unit.ensures, pow-le-pow_right {n = 10} (omega arith) c.if-by-gt30.false)

pub nonzero_div-result : goal.nonzero_div-result
nonzero_div-result c = omega (arith, c.pow-unit.ensures, ten_power c.args.by)

pub returns : goal.returns
unfolding nearest
returns c = rw c.pow-unit.ensures (IsNearest-nearest c.args.digits (10 ^ c.args.by) (ten_power c.args.by))
