use Rattle.std.proofs.Common.{◌-◌, length, take, drop, arith, rules}
use Rattle.text_terms.proofs.LineCuts.{behind_first}
use Rattle.cover_certificate.proofs.PartLaws.{parts-cut, parts-uncut}
use Rattle.cover_certificate.proofs.line_words.first_part.Goals as goal

pub returns-in-Some : goal.returns-in-Some
returns-in-Some c =
    parts-cut c.args.bytes.now c.split_at.result.0.now (take (length c.split_at.result.1.now - 1) (drop 1 c.split_at.result.1.now))
    c.in-Some.end c.in-Some.ensures.0.high (search rules)
    (λ j less blank. c.in-Some.ensures.0.before j (omega arith) less (search rules))
    c.split_at.ensures.front
    (behind_first c.args.bytes.now c.split_at.result.1.now c.in-Some.end c.split_at.ensures.back)

pub returns-in-None : goal.returns-in-None
returns-in-None c =
    parts-uncut c.args.bytes.now (λ j less blank. c.in-None.ensures j (omega arith) less (search rules))
