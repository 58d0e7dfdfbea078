use Rattle.std.proofs.Common.{◌≡◌, ◌∙◌, ap, arith}
use Rattle.std.specs.Prelude.{count_by}
use Rattle.std.specs.Char.{is_ascii_digit}
use Rattle.std.specs.List.{after_first}
use Rattle.fixed_decimal.specs.Form.{is_point}
use Rattle.fixed_decimal.proofs.CutLaws.{back_found, back_absent, count_behind}
use Rattle.fixed_decimal.proofs.size.places.Goals as goal

pub overflow_cast-result : goal.overflow_cast-result
overflow_cast-result c =
    let is : c.count_digits.result ≡ count_by is_ascii_digit (after_first is_point c.args.mantissa.now) =
    c.count_digits.ensures
    ∙ ap (count_by is_ascii_digit) (back_found is_point c.args.mantissa.now c.split_at.result.1.now c.in-Some.point c.in-Some.ensures c.split_at.ensures.back) in
    omega (arith, is, count_behind is_ascii_digit is_point c.args.mantissa.now, c.requires)

pub returns-in-Some-clause-value : goal.returns-in-Some-clause-value
returns-in-Some-clause-value c =
    c.count_digits.ensures
    ∙ ap (count_by is_ascii_digit) (back_found is_point c.args.mantissa.now c.split_at.result.1.now c.in-Some.point c.in-Some.ensures c.split_at.ensures.back)

pub returns-in-Some-clause-few : goal.returns-in-Some-clause-few
returns-in-Some-clause-few c =
    let is : c.count_digits.result ≡ count_by is_ascii_digit (after_first is_point c.args.mantissa.now) =
    c.count_digits.ensures
    ∙ ap (count_by is_ascii_digit) (back_found is_point c.args.mantissa.now c.split_at.result.1.now c.in-Some.point c.in-Some.ensures c.split_at.ensures.back) in
    omega (arith, is, count_behind is_ascii_digit is_point c.args.mantissa.now, c.requires)

pub returns-in-None-clause-value : goal.returns-in-None-clause-value
returns-in-None-clause-value c = ap (count_by is_ascii_digit) (back_absent is_point c.args.mantissa.now c.in-None.ensures)
