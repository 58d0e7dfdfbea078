use Rattle.std.proofs.Common.{◌-◌, length, take, drop, refl}
use Rattle.cover_certificate.proofs.SpacedLaws.{spaced_all}
use Rattle.cover_certificate.proofs.writing.push_spaced.Goals as goal

pub returns-clause-ok : goal.returns-clause-ok
returns-clause-ok c =
    spaced_all c.args.numbers.now (take (length c.args.numbers.now - 1) (drop 1 c.args.numbers.now)) c.args.out.now.items
    c.push_number.new.out.items c.loop-number.out.items c.loop-number.number-index c.in-len1-up.len_at_least refl
    c.loop-number-test.false c.in_ok-push_number.ensures.ok c.loop-number.invariant.appended
