use Rattle.std.proofs.Common.{◌∙◌}
use Rattle.fixed_decimal.specs.Form.{is_mark}
use Rattle.fixed_decimal.proofs.CutLaws.{front_found, back_found, front_absent, back_absent}
use Rattle.fixed_decimal.proofs.size.split_at_mark.Goals as goal

pub returns-in-Some-clause-front : goal.returns-in-Some-clause-front
returns-in-Some-clause-front c = c.split_at.ensures.front ∙ front_found is_mark c.args.text.now c.in-Some.mark c.in-Some.ensures

pub returns-in-Some-clause-back : goal.returns-in-Some-clause-back
returns-in-Some-clause-back c =
    back_found is_mark c.args.text.now c.split_at.result.1.now c.in-Some.mark c.in-Some.ensures c.split_at.ensures.back

pub returns-in-None-clause-front : goal.returns-in-None-clause-front
returns-in-None-clause-front c = front_absent is_mark c.args.text.now c.in-None.ensures

pub returns-in-None-clause-back : goal.returns-in-None-clause-back
returns-in-None-clause-back c = back_absent is_mark c.args.text.now c.in-None.ensures
