use Rattle.std.proofs.Common.{sym, ap, refl}
use Rattle.std.specs.Prelude.{Some}
use Rattle.fixed_decimal.specs.Value.{millionths_of}
use Rattle.fixed_decimal.proofs.ReadingLaws.{fault_of_value, fault_of_fault, size_of-nearest, bits_and_back, size_and_back}
use Rattle.fixed_decimal.proofs.reading.read_millionths.Goals as goal

pub returns-in-Ok-clause-value : goal.returns-in-Ok-clause-value
unfolding millionths_of
returns-in-Ok-clause-value c =
    rw (c.in-Ok.ensures.form.0, c.in-Ok.ensures.form.1, ← c.in-Ok.ensures.sign, ← c.in-Ok.ensures.size.0)
    (ap Some (sym (bits_and_back c.with_sign.result c.in-Ok.rounded.negative c.in-Ok.rounded.size c.with_sign.ensures.value c.in-Ok.ensures.size.1)))

pub returns-in-Ok-clause-nearest : goal.returns-in-Ok-clause-nearest
returns-in-Ok-clause-nearest c =
    rw (size_and_back c.with_sign.result c.in-Ok.rounded.negative c.in-Ok.rounded.size c.with_sign.ensures.value c.in-Ok.ensures.size.1, c.in-Ok.ensures.size.0)
    (size_of-nearest c.args.text.now)

pub returns-in-Ok-clause-bad_byte : goal.returns-in-Ok-clause-bad_byte
returns-in-Ok-clause-bad_byte c = λ k. fault_of_value (c.in-Ok.ensures.bad_byte k)

pub returns-in-Err-clause-none : goal.returns-in-Err-clause-none
unfolding millionths_of
returns-in-Err-clause-none c = rw c.in-Err.ensures.none refl

pub returns-in-Err-clause-bad_byte : goal.returns-in-Err-clause-bad_byte
returns-in-Err-clause-bad_byte c = λ k. fault_of_fault c.in-Err.fault _ _ (c.in-Err.ensures.bad_byte k)
