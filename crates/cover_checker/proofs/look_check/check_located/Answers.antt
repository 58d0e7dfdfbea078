use Rattle.std.proofs.Common.{◌≡◌, ◌∙◌, ap, arith, subst, length}
use Rattle.kernel_table.specs.Falloff.{shape_of}
use Rattle.node_boxes.specs.Grid.{node_count}
use Rattle.node_boxes.specs.declared.node_box.BoxBound.{BoxBound}
use Rattle.std.specs.Prelude.{List, option_map}
use Rattle.edt_score.specs.Look.{numbered}
use Rattle.cover_certificate.specs.Blocks.{located_value}
use Rattle.cover_checker.specs.declared.verdict.Verdict.TheVariants.{NearWrong}
use Rattle.cover_checker.specs.Findings.{first_difference, not_closed, wrong_score}
use Rattle.cover_checker.specs.Inside.Cases.{case_falloff, case_grid, case_picks, case_scoring}
use Rattle.cover_checker.specs.Inside.Marking.{IsMarked}
use Rattle.cover_checker.specs.Inside.Walks.{cover_finding, near_walk}
use Rattle.cover_checker.proofs.BoundLaws.{bounds_are}
use Rattle.cover_checker.proofs.LocatedSteps.{Passed, located_better, located_cover, located_near, located_open, located_proved, located_score}
use Rattle.cover_checker.proofs.PassLaws.{cover_is}
use Rattle.cover_checker.proofs.VerdictSteps.{late, open_late, score_late}
use Rattle.cover_checker.proofs.look_check.check_located.Goals as goal

pub returns-in-Some-clause-value : goal.returns-in-Some-clause-value
returns-in-Some-clause-value g c =
    let scoring = case_scoring c.args.case.now (g.L.Look.times c.args.look.now) in
    located_cover scoring c.args.margin (located_value c.args.event.now) c.in-Some.verdict (c.in-Some.ensures.value ∙ ap (cover_finding scoring) c.deref.ensures.value)

pub returns-in-Some-first_open-clause-value : goal.returns-in-Some-first_open-clause-value
returns-in-Some-first_open-clause-value g c =
    let scoring = case_scoring c.args.case.now (g.L.Look.times c.args.look.now) in
    located_open scoring c.args.margin (located_value c.args.event.now) c.threshold-least.result c.in-Some-first_open.verdict c.threshold-least.ensures
    (c.in_default.ensures.value ∙ ap (cover_finding scoring) c.deref.ensures.value)
    (c.in-Some-first_open.ensures ∙ ap (not_closed c.threshold-least.result) c.deref-2.ensures.value)

pub returns-in-Some-first_open-clause-early : goal.returns-in-Some-first_open-clause-early
returns-in-Some-first_open-clause-early g c early =
    late c.in-Some-first_open.verdict (open_late c.threshold-least.result c.deref-2.result.now c.in-Some-first_open.verdict c.in-Some-first_open.ensures) early

pub returns-in-Some-score_fault-clause-value : goal.returns-in-Some-score_fault-clause-value
returns-in-Some-score_fault-clause-value g c =
    let case = c.args.case.now in
    let times = g.L.Look.times c.args.look.now in
    let event = located_value c.args.event.now in
    let scoring = case_scoring case times in
    let passed : Passed scoring c.args.margin c.threshold-least.result event = record {
      bounds = bounds_are (shape_of (case_falloff case)) (case_grid case) times (numbered (case_picks case));
      least_is = c.threshold-least.ensures;
      cover = c.in_default.ensures.value ∙ ap (cover_finding scoring) c.deref.ensures.value;
      closed = c.in_default-first_open.ensures ∙ ap (not_closed c.threshold-least.result) c.deref-2.ensures.value;
    } in
    located_score scoring c.args.margin c.threshold-least.result event passed c.in-Some-score_fault.verdict
    (c.in-Some-score_fault.ensures.value ∙ ap (λ ts. wrong_score (case_scoring case ts) event) c.in_default.ensures.same_times)

pub returns-in-Some-score_fault-clause-early : goal.returns-in-Some-score_fault-clause-early
returns-in-Some-score_fault-clause-early g c early =
    late c.in-Some-score_fault.verdict
    (score_late (case_scoring c.args.case.now (g.L.Look.times c.cover_fault.new.look)) (located_value c.args.event.now) c.in-Some-score_fault.verdict c.in-Some-score_fault.ensures.value) early

pub first_better-requires : goal.first_better-requires
first_better-requires g c =
    let scoring = case_scoring c.args.case.now (g.L.Look.times c.args.look.now) in
    let cover = cover_is scoring c.args.event.now.cover.items (c.in_default.ensures.value ∙ ap (cover_finding scoring) c.deref.ensures.value) in
    record { inside = cover.inside }

pub returns-in-Some-first_better-clause-value : goal.returns-in-Some-first_better-clause-value
returns-in-Some-first_better-clause-value g c =
    let case = c.args.case.now in
    let times = g.L.Look.times c.args.look.now in
    let event = located_value c.args.event.now in
    let scoring = case_scoring case times in
    let passed : Passed scoring c.args.margin c.threshold-least.result event = record {
      bounds = bounds_are (shape_of (case_falloff case)) (case_grid case) times (numbered (case_picks case));
      least_is = c.threshold-least.ensures;
      cover = c.in_default.ensures.value ∙ ap (cover_finding scoring) c.deref.ensures.value;
      closed = c.in_default-first_open.ensures ∙ ap (not_closed c.threshold-least.result) c.deref-2.ensures.value;
    } in
    located_better scoring c.args.margin c.threshold-least.result event passed
    (c.in_default-score_fault.ensures.value ∙ ap (λ ts. wrong_score (case_scoring case ts) event) c.in_default.ensures.same_times)
    c.in-Some-first_better.verdict c.in-Some-first_better.ensures

pub near_fault-requires : goal.near_fault-requires
near_fault-requires g c =
    let grid = c.nodes-nodes.ensures.grid in
    let few = grid.nodes in
    let kept = c.cover_fault.ensures.kept in
    let marks = c.requires.marks in
    record { few = omega arith }

pub returns-in-Some-near_fault-clause-value : goal.returns-in-Some-near_fault-clause-value
returns-in-Some-near_fault-clause-value g c =
    let case = c.args.case.now in
    let times = g.L.Look.times c.args.look.now in
    let event = located_value c.args.event.now in
    let scoring = case_scoring case times in
    let passed : Passed scoring c.args.margin c.threshold-least.result event = record {
      bounds = bounds_are (shape_of (case_falloff case)) (case_grid case) times (numbered (case_picks case));
      least_is = c.threshold-least.ensures;
      cover = c.in_default.ensures.value ∙ ap (cover_finding scoring) c.deref.ensures.value;
      closed = c.in_default-first_open.ensures ∙ ap (not_closed c.threshold-least.result) c.deref-2.ensures.value;
    } in
    let scored = c.in_default-score_fault.ensures.value ∙ ap (λ ts. wrong_score (case_scoring case ts) event) c.in_default.ensures.same_times in
    let marks = c.cover_fault.new.marks in
    let long : length marks ≡ node_count (case_grid case) = c.cover_fault.ensures.kept ∙ c.requires.marks in
    let marked : IsMarked (case_grid case) event.boxes marks = subst (λ (boxes : List BoxBound). IsMarked (case_grid case) boxes marks) c.deref.ensures.value c.in_default.ensures.marked in
    let least = c.threshold-least.result in
    let told : option_map NearWrong (first_difference 0 c.deref-3.result.now (near_walk c.deref-4.result.now least 0 marks))
    ≡ option_map NearWrong (first_difference 0 event.near (near_walk event.boxes least 0 marks)) =
    ap (λ near. option_map NearWrong (first_difference 0 near (near_walk c.deref-4.result.now least 0 marks))) c.deref-3.ensures.value
    ∙ ap (λ boxes. option_map NearWrong (first_difference 0 event.near (near_walk boxes least 0 marks))) c.deref-4.ensures.value in
    located_near scoring c.args.margin least event passed scored c.in_default-first_better.ensures marks long marked c.in-Some-near_fault.verdict
    (c.in-Some-near_fault.ensures ∙ told)

pub returns-clause-value : goal.returns-clause-value
returns-clause-value g c =
    let case = c.args.case.now in
    let times = g.L.Look.times c.args.look.now in
    let event = located_value c.args.event.now in
    let scoring = case_scoring case times in
    let passed : Passed scoring c.args.margin c.threshold-least.result event = record {
      bounds = bounds_are (shape_of (case_falloff case)) (case_grid case) times (numbered (case_picks case));
      least_is = c.threshold-least.ensures;
      cover = c.in_default.ensures.value ∙ ap (cover_finding scoring) c.deref.ensures.value;
      closed = c.in_default-first_open.ensures ∙ ap (not_closed c.threshold-least.result) c.deref-2.ensures.value;
    } in
    let scored = c.in_default-score_fault.ensures.value ∙ ap (λ ts. wrong_score (case_scoring case ts) event) c.in_default.ensures.same_times in
    let marks = c.cover_fault.new.marks in
    let long : length marks ≡ node_count (case_grid case) = c.cover_fault.ensures.kept ∙ c.requires.marks in
    let marked : IsMarked (case_grid case) event.boxes marks = subst (λ (boxes : List BoxBound). IsMarked (case_grid case) boxes marks) c.deref.ensures.value c.in_default.ensures.marked in
    let least = c.threshold-least.result in
    let told : option_map NearWrong (first_difference 0 c.deref-3.result.now (near_walk c.deref-4.result.now least 0 marks))
    ≡ option_map NearWrong (first_difference 0 event.near (near_walk event.boxes least 0 marks)) =
    ap (λ near. option_map NearWrong (first_difference 0 near (near_walk c.deref-4.result.now least 0 marks))) c.deref-3.ensures.value
    ∙ ap (λ boxes. option_map NearWrong (first_difference 0 event.near (near_walk boxes least 0 marks))) c.deref-4.ensures.value in
    located_proved scoring c.args.margin least event passed scored c.in_default-first_better.ensures marks long marked
    (c.in_default-near_fault.ensures ∙ told)
