use Rattle.std.proofs.Common.{sym, ◌∙◌, arith}
use Rattle.cover_certificate.proofs.WordSteps.{all_read, no_word, too_few, too_many}
use Rattle.cover_certificate.proofs.numbers.word_numbers.Goals as goal

pub returns-in_default-clause-fault : goal.returns-in_default-clause-fault
returns-in_default-clause-fault c =
    too_few c.args.slots.now c.args.words c.loop-slot.words c.loop-slot.slot-index (omega (arith, c.loop-slot-test.true))
    c.in_default.ensures.0 c.loop-slot.invariant.plain

pub returns-then-not-is_plain-clause-fault : goal.returns-then-not-is_plain-clause-fault
returns-then-not-is_plain-clause-fault c =
    no_word c.args.slots.now c.args.words c.loop-slot.words c.next.new.self c.in-Some.word.now c.loop-slot.slot-index
    (omega (arith, c.loop-slot-test.true)) c.in-Some.ensures (sym c.is_plain.ensures ∙ c.if-not-is_plain.true)
    c.loop-slot.invariant.plain

pub returns-in-Some-next-clause-fault : goal.returns-in-Some-next-clause-fault
returns-in-Some-next-clause-fault c =
    too_many c.args.slots.now c.args.words c.loop-slot.words c.next-2.new.self c.in-Some-next._extra.now c.loop-slot.slot-index
    (omega (arith, c.loop-slot-test.false)) c.in-Some-next.ensures c.loop-slot.invariant.plain

pub returns-in-None-clause-good : goal.returns-in-None-clause-good
returns-in-None-clause-good c =
    all_read c.args.slots.now c.args.words c.loop-slot.words c.loop-slot.slot-index c.loop-slot.are_numbers c.loop-slot.are_within
    (omega (arith, c.loop-slot-test.false)) c.in_default-next.ensures.0
    c.loop-slot.invariant.plain c.loop-slot.invariant.good c.loop-slot.invariant.within
    ∙ sym c.in-None.ensures

pub returns-in-Some-number_cause-clause-fault : goal.returns-in-Some-number_cause-clause-fault
returns-in-Some-number_cause-clause-fault c =
    all_read c.args.slots.now c.args.words c.loop-slot.words c.loop-slot.slot-index c.loop-slot.are_numbers c.loop-slot.are_within
    (omega (arith, c.loop-slot-test.false)) c.in_default-next.ensures.0
    c.loop-slot.invariant.plain c.loop-slot.invariant.good c.loop-slot.invariant.within
    ∙ sym c.in-Some-number_cause.ensures
