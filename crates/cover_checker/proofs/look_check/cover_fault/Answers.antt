use Rattle.std.proofs.Common.{◌≡◌, sym, arith, length}
use Rattle.std.proofs.Math.Nat.{mul-le-mul_left}
use Rattle.cover_checker.specs.Findings.{wrong_bound}
use Rattle.cover_checker.specs.Inside.Cases.{case_grid, case_picks, case_scoring}
use Rattle.cover_checker.proofs.CoverLaws.{nodes_few, placed_inside}
use Rattle.cover_checker.proofs.VerdictSteps.{early_none, wrong_late}
use Rattle.cover_checker.proofs.look_check.cover_fault.Goals as goal

pub first_wrong-requires-clause-inside : goal.first_wrong-requires-clause-inside
first_wrong-requires-clause-inside g c = placed_inside (case_grid c.args.case.now) c.args.boxes.now (sym c.in_default.ensures.value)

pub first_wrong-requires-clause-looks : goal.first_wrong-requires-clause-looks
first_wrong-requires-clause-looks g c =
    let few = mul-le-mul_left (length (case_picks c.args.case.now)) (nodes_few (case_grid c.args.case.now) c.args.boxes.now (sym c.in_default.ensures.value)) in
    let room = c.requires.room in
    omega arith

pub returns-clause-looked : goal.returns-clause-looked
returns-clause-looked g c =
    let few = mul-le-mul_left (length (case_picks c.args.case.now)) (nodes_few (case_grid c.args.case.now) c.args.boxes.now (sym c.in_default.ensures.value)) in
    let looked = c.first_wrong.ensures.looked in
    omega arith

pub returns-clause-early : goal.returns-clause-early
returns-clause-early g c =
    early_none (g.L.Look.count c.first_wrong.new.look ≡ g.L.Look.count c.args.look.now) (wrong_bound (case_scoring c.args.case.now (g.L.Look.times c.args.look.now)) c.args.boxes.now)
    (wrong_late (case_scoring c.args.case.now (g.L.Look.times c.args.look.now)) c.args.boxes.now) c.first_wrong.result c.first_wrong.ensures.value
