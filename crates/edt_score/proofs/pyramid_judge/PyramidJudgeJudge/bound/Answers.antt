use Rattle.std.proofs.Common.{sym, subst}
use Rattle.edt_score.specs.Scorer.{area_bound}
use Rattle.edt_score.specs.Inside.KeptFamily.{AreBounds}
use Rattle.edt_score.proofs.KeptFamilies.{child_bound, keeps_bounds, same_bounds}
use Rattle.edt_score.proofs.pyramid_judge.PyramidJudgeJudge.bound.Goals as goal

pub invariant_of-self-2 : goal.invariant_of-self-2
invariant_of-self-2 g c =
    let family = c.in-Some-family_of.family in
    let same = sym (same_bounds _ _ c.fill_bounds.ensures.same) in
    record {
      kept = keeps_bounds (area_bound c.fill_bounds.new.self) family c.fill_bounds.new.bounds
          (subst (λ bound. AreBounds bound family.parent c.fill_bounds.new.bounds) same c.fill_bounds.ensures.bounds);
    }

pub returns-clause-value : goal.returns-clause-value
returns-clause-value g c =
    let found = c.in-Some-family_of in
    child_bound _ found.family.parent c.args.area.now found.place c.fill_bounds.new.bounds found.ensures.child c.fill_bounds.ensures.bounds
