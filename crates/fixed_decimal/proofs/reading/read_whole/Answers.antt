use Rattle.std.proofs.Common.{◌≡◌, ◌<◌, ◌/◌, ◌%◌, ◌^◌, false, sym, ap, refl, arith}
use Rattle.std.specs.Prelude.{Some, ◌==◌}
use Rattle.std.proofs.lemmas.Grind.{common_steps}
use Rattle.fixed_decimal.specs.Value.{millionths_of, whole_of}
use Rattle.fixed_decimal.proofs.ReadingLaws.{fault_of_value, fault_of_fault, bad_byte_none, signed-times, millions, bits_and_back}
use Rattle.fixed_decimal.proofs.reading.read_whole.Goals as goal

pub returns-in-Ok-clause-value : goal.returns-in-Ok-clause-value
unfolding whole_of
returns-in-Ok-clause-value c =
    let small : c.in-Ok.rounded.size / 1000000 < 10 ^ 15 = omega (arith, c.in-Ok.ensures.size.1) in
    rw (c.in-Ok.ensures.form.0, c.in-Ok.ensures.form.1, ← c.in-Ok.ensures.sign, ← c.in-Ok.ensures.size.0, c.if-rounded-eq0.true)
    (ap Some (sym (bits_and_back c.with_sign.result c.in-Ok.rounded.negative (c.in-Ok.rounded.size / 1000000) c.with_sign.ensures.value small)))

pub returns-in-Ok-clause-millionths : goal.returns-in-Ok-clause-millionths
unfolding millionths_of
returns-in-Ok-clause-millionths c =
    let small : c.in-Ok.rounded.size / 1000000 < 10 ^ 15 = omega (arith, c.in-Ok.ensures.size.1) in
    rw (
      c.in-Ok.ensures.form.0,
      c.in-Ok.ensures.form.1,
      ← c.in-Ok.ensures.sign,
      ← c.in-Ok.ensures.size.0,
      bits_and_back c.with_sign.result c.in-Ok.rounded.negative (c.in-Ok.rounded.size / 1000000) c.with_sign.ensures.value small,
    )
    (ap Some (signed-times c.in-Ok.rounded.negative c.in-Ok.rounded.size (c.in-Ok.rounded.size / 1000000) (millions c.in-Ok.rounded.size c.if-rounded-eq0.true)))

pub returns-in-Ok-clause-bad_byte : goal.returns-in-Ok-clause-bad_byte
returns-in-Ok-clause-bad_byte c = λ k. fault_of_value (c.in-Ok.ensures.bad_byte k)

pub returns-in-Ok-2-clause-none : goal.returns-in-Ok-2-clause-none
unfolding whole_of
returns-in-Ok-2-clause-none c =
    let part : (c.in-Ok.rounded.size % 1000000 == 0) ≡ false = grind (arith, common_steps) in
    rw (c.in-Ok.ensures.form.0, c.in-Ok.ensures.form.1, ← c.in-Ok.ensures.size.0, part) refl

pub returns-in-Ok-2-clause-bad_byte : goal.returns-in-Ok-2-clause-bad_byte
returns-in-Ok-2-clause-bad_byte c = λ k. bad_byte_none _ c.args.text.now k c.in-Ok.ensures.form.0 (λ e. cc)

pub returns-in-Err-clause-none : goal.returns-in-Err-clause-none
unfolding whole_of
returns-in-Err-clause-none c = rw c.in-Err.ensures.none refl

pub returns-in-Err-clause-bad_byte : goal.returns-in-Err-clause-bad_byte
returns-in-Err-clause-bad_byte c = λ k. fault_of_fault c.in-Err.fault _ _ (c.in-Err.ensures.bad_byte k)
