use Rattle.std.proofs.Common.{rules, ◌≡◌, ◌∙◌, length}
use Rattle.kernel_table.specs.Falloff.{shape_of}
use Rattle.node_boxes.specs.BoxNodes.{box_nodes}
use Rattle.cover_checker.specs.Inside.Cases.{case_falloff, case_grid, case_picks}
use Rattle.cover_checker.proofs.BoundSteps.{spans_bound}
use Rattle.cover_checker.proofs.box_bounds.bound_in.Goals as goal

pub returns-clause-value : goal.returns-clause-value
returns-clause-value g c =
    let case = c.args.case.now in
    let long : length c.fill_spans.new.spans ≡ length (case_picks case) = search rules in
    c.bound.ensures.value
    ∙ spans_bound (shape_of (case_falloff case)) (g.L.Look.times c.args.look.now) (case_picks case) (box_nodes (case_grid case) c.args.area.now)
    c.fill_spans.new.spans long c.fill_spans.ensures.spans
