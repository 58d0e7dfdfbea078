use Rattle.std.proofs.Common.{◌≡◌, length, SFits, w64, ◌∙◌, ap, rules}
use Rattle.std.specs.Prelude.{count_by}
use Rattle.std.proofs.lemmas.Int.{to_z-of_z}
use Rattle.control_reader.specs.ControlValues.{values_of}
use Rattle.search_lanes.specs.LaneRuns.{is_loss}
use Rattle.search_lanes.specs.Schedule.{schedule}
use Rattle.location_report.specs.Texts.{lane_events}
use Rattle.edt_top.proofs.LocateLaws.LaneLaws.{events_told, judge_bound}
use Rattle.edt_top.proofs.locate.lanes.find_by_lanes.Goals as goal

pub returns-clause-lanes : goal.returns-clause-lanes
returns-clause-lanes g c =
    let control = c.args.control.now in
    let field = c.args.field.now in
    let problem = c.args.problem.now in
    let bound =
    judge_bound c.new-judge.result.scorer c.in_ok-scorer.scorer field problem c.args.falloff.now control.shape c.new-judge.ensures.scorer
    c.in_ok-scorer.ensures.field c.in_ok-scorer.ensures.problem c.in_ok-scorer.ensures.falloff c.requires.shape in
    let roots : c.roots.result.now ≡ field.roots = c.roots.ensures.value in
    let counted : c.len.result ≡ length c.in_ok-run.run'.events.items = search rules in
    let seed_fits : SFits w64 control.seed = search rules in
    let seed = to_z-of_z w64 control.seed seed_fits in
    let events : c.in_ok-run.run'.events.items ≡ lane_events (values_of control) field problem.picks.items =
    c.in_ok-run.ensures.events ∙ (λ i. schedule (bound i) control.margin control.budget control.lanes (seed i) (roots i)) in
    events_told control.lanes c.len.result c.count_losses.result c.in_ok-run.run'.events.items (lane_events (values_of control) field problem.picks.items)
    counted (c.count_losses.ensures ∙ ap (count_by is_loss) c.deref.ensures.value) events
