use Rattle.std.proofs.Common.{refl, sym, ◌∙◌}
use Rattle.phase_reader.proofs.LimitSteps.{limits_pick}
use Rattle.phase_reader.proofs.draft.PhaseDraft.take_pick.Goals.{in-Ok, in-Err}
use Rattle.phase_reader.proofs.draft.PhaseDraft.take_pick.Goals as goal

pub returns-clause-limits : goal.returns-clause-limits
returns-clause-limits c =
    elim c.match-push.branch [
      | in-Ok w ↦ rw w.result-is (λ limits good. limits_pick c.args.self.now _ c.args.pick refl w.in-Ok.ensures.items (sym c.is_past_limit.ensures ∙ c.if-is_past_limit.false) good limits)
      | in-Err w ↦ rw w.result-is (λ limits good. tt)
    ]
