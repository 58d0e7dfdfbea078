use Rattle.std.proofs.Common.{◌≡◌, ◌∙◌, ◌∷◌, [], List, ℕ, Ok, ap, sym}
use Rattle.edt_outside.specs.Sinks.{Appends}
use Rattle.edt_top.specs.declared.writing.WriteFault.TheVariants.{Failed}
use Rattle.edt_top.specs.RunEndings.{demo_ending}
use Rattle.edt_top.proofs.StatusLaws.{all_written, fault_written}
use Rattle.edt_top.proofs.demo.demo.Goals as goal

pub returns-in-Ok-put_part-clause-written : goal.returns-in-Ok-put_part-clause-written
returns-in-Ok-put_part-clause-written g c =
    all_written (λ (parts : List (List ℕ)). demo_ending c.args.seed c.args.side ≡ Ok parts) (c.as_bytes.result.now ∷ []) (Appends (g.O.Sink.taken c.args.out.now) (g.O.Sink.taken c.put_part.new.out))
    (ap (λ text. Ok (text ∷ [])) (sym (c.as_bytes.ensures.value ∙ c.in-Ok.ensures.text))) c.in-Ok-put_part.ensures.told

pub returns-clause-written : goal.returns-clause-written
returns-clause-written g c =
    let kind = c.in-Err.ensures.kinds in
    fault_written (λ (parts : List (List ℕ)). demo_ending c.args.seed c.args.side ≡ Ok parts) (c.as_bytes.result.now ∷ []) Failed (Appends (g.O.Sink.taken c.args.out.now) (g.O.Sink.taken c.put_part.new.out))
    (ap (λ text. Ok (text ∷ [])) (sym (c.as_bytes.ensures.value ∙ c.in-Ok.ensures.text))) (rw kind at c.in-Err.ensures.told)
