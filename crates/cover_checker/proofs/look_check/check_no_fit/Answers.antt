use Rattle.cover_checker.specs.Inside.Cases.{case_scoring}
use Rattle.cover_checker.proofs.LocatedSteps.{none_cover, none_open, none_proved}
use Rattle.cover_checker.proofs.VerdictSteps.{late, zero_late}
use Rattle.cover_checker.proofs.look_check.check_no_fit.Goals as goal

pub returns-in-Some-clause-value : goal.returns-in-Some-clause-value
returns-in-Some-clause-value g c margin =
    none_cover (case_scoring c.args.case.now (g.L.Look.times c.args.look.now)) margin c.args.boxes.now c.in-Some.verdict c.in-Some.ensures.value

pub returns-in-Some-first_positive-clause-value : goal.returns-in-Some-first_positive-clause-value
returns-in-Some-first_positive-clause-value g c margin =
    none_open (case_scoring c.args.case.now (g.L.Look.times c.args.look.now)) margin c.args.boxes.now c.in-Some-first_positive.verdict
    c.in_default.ensures.value c.in-Some-first_positive.ensures

pub returns-in-Some-first_positive-clause-early : goal.returns-in-Some-first_positive-clause-early
returns-in-Some-first_positive-clause-early g c early = late c.in-Some-first_positive.verdict (zero_late c.args.boxes.now c.in-Some-first_positive.verdict c.in-Some-first_positive.ensures) early

pub returns-clause-value : goal.returns-clause-value
returns-clause-value g c margin =
    none_proved (case_scoring c.args.case.now (g.L.Look.times c.args.look.now)) margin c.args.boxes.now c.in_default.ensures.value c.in_default-first_positive.ensures
