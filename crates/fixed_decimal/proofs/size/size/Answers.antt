use Rattle.std.proofs.Common.{refl}
use Rattle.fixed_decimal.specs.Value.{size_of, is_out_of_range}
use Rattle.fixed_decimal.proofs.size.size.Goals as goal

pub returns-in-Some-clause-value : goal.returns-in-Some-clause-value
unfolding size_of is_out_of_range
returns-in-Some-clause-value c =
    rw c.in-Some.ensures.short
    (rw (c.in-Some.ensures.digits.0, c.in-Some.ensures.raised.0, c.in-Some.ensures.lowered.0) at c.rounded.ensures.value)

pub returns-in-None-clause-value : goal.returns-in-None-clause-value
unfolding size_of is_out_of_range
returns-in-None-clause-value c = rw c.in-None.ensures.long refl
