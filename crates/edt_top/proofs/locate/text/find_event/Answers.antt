use Rattle.std.proofs.Common.{◌∙◌, ap}
use Rattle.kernel_table.specs.declared.kernels.Shape.{Shape}
use Rattle.edt_score.specs.BoxBound.{box_bound}
use Rattle.octree_search.specs.Outcomes.{found_value, outcome_of}
use Rattle.event_assembly.specs.AssemblyValues.{case_value}
use Rattle.control_reader.specs.ControlValues.{values_of}
use Rattle.edt_top.proofs.LocateLaws.FoundLaws.{picks_tellable}
use Rattle.edt_top.proofs.LocateLaws.LaneLaws.{one_lane}
use Rattle.edt_top.proofs.locate.text.find_event.Goals as goal

pub returns-then-several-clause-tellable : goal.returns-then-several-clause-tellable
returns-then-several-clause-tellable g c =
    picks_tellable c.args.input.now c.requires.input c.in_ok-found.ensures.field.are_roots c.in-Ready.problem.picks.items
    (found_value c.in_ok-found.found) c.in_ok-found.ensures.found

pub returns-clause-tellable : goal.returns-clause-tellable
returns-clause-tellable g c =
    let control = c.args.input.now.control in
    let field = c.args.input.now.assembly.field in
    let picks = c.in-Ready.problem.picks.items in
    picks_tellable c.args.input.now c.requires.input c.in_ok-found-2.ensures.field.are_roots picks (found_value c.in_ok-found-2.found)
    (c.in_ok-found-2.ensures.value
    ∙ ap (λ (shape : Shape). outcome_of field.grid field.roots (box_bound shape field picks) control.margin control.budget) c.requires.shape)

pub returns-clause-lanes : goal.returns-clause-lanes
returns-clause-lanes g c =
    one_lane (values_of c.args.input.now.control) c.args.input.now.assembly.field (case_value c.args.event.now.case) c.in-Ready.problem.picks.items
    (ap case_value c.in-Ready.is) c.if-several.false
