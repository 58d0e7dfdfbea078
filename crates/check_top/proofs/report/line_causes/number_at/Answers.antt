use Rattle.cover_certificate.specs.LineWords.{parts}
use Rattle.check_top.proofs.WordSteps.{cursor_more, number_some, number_none}
use Rattle.check_top.proofs.report.line_causes.number_at.Goals as goal

pub loop-preserved : goal.loop-preserved
loop-preserved c = cursor_more (parts c.args.line.now.bytes.now) c.loop.words c.next-word.new.self c.loop.counter c.next-word.result c.loop.invariant c.next-word.ensures

pub returns-in-Some : goal.returns-in-Some
returns-in-Some c =
    number_some (parts c.args.line.now.bytes.now) c.loop.words c.next.new.self c.in-Some.word.now c.loop.counter c.args.place c.unwrap_or.result c.read_number.result
    c.loop.invariant c.in-Some.ensures c.loop.auto.counter-end c.loop-test.false c.read_number.ensures c.unwrap_or.ensures

pub returns-in-None : goal.returns-in-None
returns-in-None c =
    number_none (parts c.args.line.now.bytes.now) c.loop.words c.loop.counter c.args.place c.loop.invariant c.in-None.ensures.0 c.loop.auto.counter-end c.loop-test.false
