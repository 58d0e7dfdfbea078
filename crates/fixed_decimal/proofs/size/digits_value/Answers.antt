use Rattle.std.proofs.Common.{◌<◌, ◌^◌, arith}
use Rattle.fixed_decimal.proofs.DigitLaws.{below_power}
use Rattle.fixed_decimal.proofs.size.digits_value.Goals as goal

pub overflow_mul-value : goal.overflow_mul-value
overflow_mul-value c =
    let small : c.loop-byte.value < 10 ^ 30 = below_power c.loop-byte.value c.loop-byte.count c.loop-byte.invariant.small c.loop-byte.invariant.few in
    omega arith

pub overflow_add-value : goal.overflow_add-value
overflow_add-value c =
    let small : c.loop-byte.value < 10 ^ 30 = below_power c.loop-byte.value c.loop-byte.count c.loop-byte.invariant.small c.loop-byte.invariant.few in
    omega (arith, c.from.ensures, c.type_inv.mantissa c.loop-byte.byte-index)

pub returns-clause-small : goal.returns-clause-small
returns-clause-small c = below_power c.loop-byte.value c.loop-byte.count c.loop-byte.invariant.small c.loop-byte.invariant.few
