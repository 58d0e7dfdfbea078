use Rattle.std.proofs.Common.{◌≡◌, ◌+◌, ◌++◌, ◌∷◌, [], ◌≤◌, ◌<◌, ℕ, List, length, get_or, map, take, refl, sym, ◌∙◌, ap, subst, arith}
use Rattle.std.specs.Prelude.{zip, ◌||◌}
use Rattle.kernel_table.specs.Falloff.{shape_of}
use Rattle.event_assembly.specs.declared.assembly.Prepared.{Prepared}
use Rattle.event_assembly.specs.AssemblyValues.{EventValues, event_value}
use Rattle.cover_certificate.specs.Blocks.{BlockValue, block_value}
use Rattle.run_input.specs.Inputs.{input_value}
use Rattle.run_input.proofs.NumberedLaws.{item_is}
use Rattle.check_top.specs.EventAnswers.{answer_value, is_refused, IsTrueAnswer}
use Rattle.check_top.specs.Inside.Checks.{IsTrueWith}
use Rattle.check_top.proofs.CheckSteps.{MadeOf, made_more, pairs_upto, pairs_all, pairs_count}
use Rattle.check_top.proofs.checking.check_all.Goals as goal
use Rattle.check_top.proofs.checking.check_all.Goals.{then-refused, else-refused}

pub loop-event-preserved : goal.loop-event-preserved
loop-event-preserved g c =
    let events = c.args.input.now.assembly.events.items in
    let blocks = c.args.blocks.now in
    let i : ℕ = c.loop-event.event-index in
    let shape = shape_of c.args.falloff.now in
    let input = input_value c.args.input.now in
    let pairs : List (EventValues × BlockValue) = zip (map event_value events) (map block_value blocks) in
    let within : i < length events = subst (λ (xs : List Prepared). i < length xs) c.deref-event-items.ensures.value c.loop-event-test.true in
    let inside : i < length blocks = omega (arith, within, c.requires.one_each) in
    let at : c.loop-event.number ≡ i = c.loop-event.invariant.number in
    let event : c.event-item.result ≡ get_or events i c.event-item.result =
    item_is c.deref-event-items.result.now events i c.event-item.result _ c.deref-event-items.ensures.value c.loop-event-test.true c.event-item.is in
    let block : c.index-blocks-number.result ≡ get_or blocks i c.index-blocks-number.result = rw at at c.index-blocks-number.is in
    let pair : EventValues × BlockValue = (event_value c.event-item.result, block_value c.index-blocks-number.result) in
    let here : (event_value (get_or events i c.event-item.result), block_value (get_or blocks i c.index-blocks-number.result)) ≡ pair =
    rw (← event, ← block) refl in
    let more = pairs_upto event_value block_value events blocks i c.event-item.result c.index-blocks-number.result within inside in
    let count : length (take i pairs) ≡ i = pairs_count event_value block_value events blocks i (omega (arith, within)) (omega (arith, inside)) in
    let refused : c.if-refused.refused ≡ (c.loop-event.refused || is_refused (answer_value c.in_ok-found.found)) = elim c.if-refused.branch [
      | then-refused w ↦ w.refused-is ∙ (w.if-refused.true ∙ sym (ap (λ b. b || is_refused (answer_value c.in_ok-found.found)) w.if-refused.true))
      | else-refused w ↦ w.refused-is ∙ w.is_refused-refused.ensures ∙ sym (ap (λ b. b || is_refused (answer_value c.in_ok-found.found)) w.if-refused.false)
    ] in
    let truth : IsTrueWith shape input pair = subst (IsTrueAnswer shape input.assembly.field input.control.margin pair.0.case) c.in_ok-found.ensures.value c.in_ok-found.ensures.truth in
    let made =
    made_more shape input (take i pairs) pair c.loop-event.text.items c.push_line.new.out.items c.loop-event.refused c.if-refused.refused (answer_value c.in_ok-found.found)
    (c.loop-event.number + 1) c.loop-event.invariant.made c.in_ok-found.ensures.value (omega (arith, at, count)) c.in_ok-push_line.ensures refused truth in
    record {
      made = subst (λ (ps : List (EventValues × BlockValue)). MadeOf shape input ps c.push_line.new.out.items c.if-refused.refused) (sym (more ∙ ap (λ p. take i pairs ++ p ∷ []) here)) made;
      number = ap (λ n. n + 1) at;
      marks = c.in_ok-found.ensures.marks ∙ c.loop-event.invariant.marks;
    }

pub returns : goal.returns
returns g c =
    let events = c.args.input.now.assembly.events.items in
    let all : length events ≤ c.loop-event.event-index = subst (λ (xs : List Prepared). length xs ≤ c.loop-event.event-index) c.deref-event-items.ensures.value c.loop-event-test.false in
    let whole = pairs_all event_value events (map block_value c.args.blocks.now) c.loop-event.event-index all in
    let made = subst (λ (ps : List (EventValues × BlockValue)). MadeOf (shape_of c.args.falloff.now) (input_value c.args.input.now) ps c.loop-event.text.items c.loop-event.refused) whole c.loop-event.invariant.made in
    record { text = made.text_is; refused = made.refused_is; truth = made.truth }
