use Rattle.std.proofs.Common.{◌≡◌, length, refl, sym, ap, ◌∙◌, arith}
use Rattle.control_reader.specs.ControlValues.{values_of}
use Rattle.station_table.specs.Using.{skip}
use Rattle.station_table.proofs.DraftLaws.{of_same, follows_used, follows_skipped}
use Rattle.station_table.proofs.draft.take_pick.Goals as goal

pub returns-in_ok-push-in-Ok-clause-picks : goal.returns-in_ok-push-in-Ok-clause-picks
returns-in_ok-push-in-Ok-clause-picks c =
    let rules = c.args.rules.now in
    let pick = c.of-named.result.pick.now in
    let met = c.args.met.now in
    let noted = c.decide.new.met in
    let picks = c.args.picks.now in
    let used = c.in_ok-used-in-Ok.used in
    let count : c.len.result ≡ length picks.used.items = omega (arith, c.len.ensures) in
    λ before follows.
    of_same rules before pick c.args.pick.now noted _ c.of-named.ensures.pick
    (follows_used rules before pick met noted picks _ follows (c.decide.ensures.notes before follows.notes) used c.in-Ok.place
    c.in_ok-push-in-Ok.ensures.items refl c.in_ok-used-in-Ok.ensures c.in-Ok.ensures.place
    (sym (c.in-Ok.ensures.reason before follows.notes (count ∙ ap length follows.used))))

pub returns-in_ok-push-in-Err-clause-picks : goal.returns-in_ok-push-in-Err-clause-picks
returns-in_ok-push-in-Err-clause-picks c =
    let rules = c.args.rules.now in
    let named = c.of-named.result in
    let pick = named.pick.now in
    let met = c.args.met.now in
    let noted = c.decide.new.met in
    let picks = c.args.picks.now in
    let skipped = c.in_ok-skipped-in-Err.skipped in
    let reason = c.in-Err.reason in
    let count : c.len.result ≡ length picks.used.items = omega (arith, c.len.ensures) in
    let is : skipped ≡ skip (values_of rules.control.now) pick reason =
    c.in_ok-skipped-in-Err.ensures ∙ (λ j. record { line = pick.line; station = c.of-named.ensures.named.station j; phase = c.of-named.ensures.named.phase j; reason = reason }) in
    λ before follows.
    of_same rules before pick c.args.pick.now noted _ c.of-named.ensures.pick
    (follows_skipped rules before pick met noted picks _ follows (c.decide.ensures.notes before follows.notes) skipped reason
    c.in_ok-push-in-Err.ensures.items refl is
    (sym (c.in-Err.ensures.reason before follows.notes (count ∙ ap length follows.used))))
