use Rattle.std.proofs.Common.{◌≡◌, ◌<◌, [], length, false, arith}
use Rattle.std.proofs.lemmas.Grind.{common_steps}
use Rattle.fixed_decimal.specs.Form.{has_form}
use Rattle.fixed_decimal.proofs.LeavingLaws.{no_form_left}
use Rattle.fixed_decimal.proofs.ReadingLaws.{no_form_nil, bad_byte_is, bad_byte_none, range_none, unread}
use Rattle.fixed_decimal.proofs.reading.read.Goals as goal

pub returns-then-is_empty-clause-range : goal.returns-then-is_empty-clause-range
returns-then-is_empty-clause-range c =
    let nil : c.args.text.now ≡ [] = grind (arith, common_steps) in
    let formless : has_form c.args.text.now ≡ false = no_form_nil c.args.text.now nil in
    range_none _ c.args.text.now (λ form. cc) (λ e. cc)

pub returns-in-Some-clause-bad_byte : goal.returns-in-Some-clause-bad_byte
returns-in-Some-clause-bad_byte c =
    let some : 0 < length c.args.text.now = grind (arith, common_steps) in
    λ k. bad_byte_is c.args.text.now c.in-Some.place k some c.in-Some.ensures

pub returns-in-Some-clause-range : goal.returns-in-Some-clause-range
returns-in-Some-clause-range c =
    range_none _ c.args.text.now (no_form_left c.args.text.now c.in-Some.place c.in-Some.ensures) (λ e. cc)

pub returns-in-Some-size-clause-bad_byte : goal.returns-in-Some-size-clause-bad_byte
returns-in-Some-size-clause-bad_byte c = λ k. bad_byte_none _ c.args.text.now k c.in_default.ensures (λ e. cc)

pub returns-in-None-clause-bad_byte : goal.returns-in-None-clause-bad_byte
returns-in-None-clause-bad_byte c = λ k. bad_byte_none _ c.args.text.now k c.in_default.ensures (λ e. cc)

pub returns-then-is_empty-clause-none : goal.returns-then-is_empty-clause-none
returns-then-is_empty-clause-none c =
    let nil : c.args.text.now ≡ [] = grind (arith, common_steps) in
    let formless : has_form c.args.text.now ≡ false = no_form_nil c.args.text.now nil in
    unread c.args.text.now (λ form. cc)

pub returns-in-Some-clause-none : goal.returns-in-Some-clause-none
returns-in-Some-clause-none c = unread c.args.text.now (no_form_left c.args.text.now c.in-Some.place c.in-Some.ensures)
