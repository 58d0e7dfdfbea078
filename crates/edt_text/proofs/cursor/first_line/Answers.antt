use Rattle.std.proofs.Common.{◌-◌, length, take, drop, arith, rules}
use Rattle.text_terms.proofs.LineCuts.{lines_of-cut, lines_of-uncut, behind_first}
use Rattle.edt_text.proofs.cursor.first_line.Goals as goal

pub returns-in-Some-clause-line : goal.returns-in-Some-clause-line
returns-in-Some-clause-line c =
    lines_of-cut c.args.bytes.now c.split_at.result.0.now (take (length c.split_at.result.1.now - 1) (drop 1 c.split_at.result.1.now))
    c.in-Some.end c.in-Some.ensures.0.high (search rules)
    (λ j less feed. c.in-Some.ensures.0.before j (omega arith) less (search rules))
    c.split_at.ensures.front
    (behind_first c.args.bytes.now c.split_at.result.1.now c.in-Some.end c.split_at.ensures.back)

pub returns-in-None-clause-line : goal.returns-in-None-clause-line
returns-in-None-clause-line c =
    lines_of-uncut c.args.bytes.now c.requires (λ j less feed. c.in-None.ensures j (omega arith) less (search rules))
