use Rattle.std.specs.Fmt.{decimal}
use Rattle.std.proofs.Common.{◌≡◌, ℕ, List, ◌∷◌, ◌++◌, [], append_assoc, append-nil, codes, refl, ◌∙◌, subst, arith}
use Rattle.std.proofs.lemmas.Result.{err_from_is_err_and}
use Rattle.edt_outside.specs.Sinks.{Appends}
use Rattle.edt_top.specs.Inside.Writing.{WritingEnds}
use Rattle.location_report.specs.Texts.{head_line}
use Rattle.edt_top.proofs.LocateLaws.WritingSteps.{writes_none}
use Rattle.edt_top.proofs.locate.text.write_head.Goals as goal

pub returns-in_err-line-clause-told : goal.returns-in_err-line-clause-told
returns-in_err-line-clause-told g c =
    let out = err_from_is_err_and c.from_residual.result c.from_residual.ensures.1 in
    rw (out.1, out.2) (writes_none _ _ _ (omega arith) refl)

-- the pieces of the line, and its words
head_joined : (events control phases : List ℕ)
    → codes "EDTLOC 1 EVENTS " ++ (events ++ (codes " PASSED " ++ (control ++ (codes " " ++ (phases ++ 10 ∷ [])))))
    ≡ ((codes "EDTLOC" ++ 32 ∷ (codes "1" ++ 32 ∷ (codes "EVENTS" ++ 32 ∷ (events ++ 32 ∷ (codes "PASSED" ++ 32 ∷ (control ++ 32 ∷ phases)))))) ++ 10 ∷ []) ++ []
head_joined events control phases = simp (append_assoc, append-nil)

pub returns-clause-told : goal.returns-clause-told
unfolding head_line
returns-clause-told g c =
    subst (λ (p : List ℕ). WritingEnds (p ∷ []) c.put_part.result (λ text. Appends (g.O.Sink.taken c.args.out.now) (g.O.Sink.taken c.put_part.new.out) text))
    (c.as_bytes.ensures.value ∙ (c.in_ok-line.ensures.ok ∙ head_joined (decimal c.args.events) (decimal c.args.control_passed) (decimal c.args.phases_passed))) c.put_part.ensures.told
