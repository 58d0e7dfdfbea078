use Rattle.std.proofs.Common.{◌≡◌, drop}
use Rattle.cover_certificate.specs.LineWords.{parts}
use Rattle.check_top.proofs.report.line_causes.number_at.Given as goal

abbrev pub invariant-loop : goal.invariant-loop
invariant-loop l = l.words ≡ drop l.counter (parts l.line.bytes.now)
