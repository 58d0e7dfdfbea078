use Rattle.std.proofs.Common.{◌≡◌, ◌∙◌, ◌+◌, ℕ, Option, IfOk, ap, subst}
use Rattle.std.specs.Option.{option_map}
use Rattle.control_reader.specs.ControlValues.{values_of}
use Rattle.octree_search.specs.Outcomes.{Outcome, found_value}
use Rattle.event_assembly.specs.AssemblyValues.{EventValues, case_value}
use Rattle.location_report.specs.Blocks.{block_of}
use Rattle.location_report.specs.Lines.{LaneValues}
use Rattle.location_report.specs.Reports.{event_at, has_problem, lane_values}
use Rattle.location_report.specs.Texts.{lanes_of_case, outcome_of_case}
use Rattle.edt_top.proofs.LocateLaws.FoundLaws.{event_is, lent_outcome, some_where_problem}
use Rattle.edt_top.proofs.locate.text.event_block.Goals as goal

pub report-requires-clause-found : goal.report-requires-clause-found
report-requires-clause-found g c =
    let input = c.args.input.now in
    let event = event_is input.assembly c.args.place c.index.result.now c.requires.place c.index.ensures in
    c.as_ref.ensures.variant
    ∙ (some_where_problem (values_of input.control) input.assembly.field (case_value c.index.result.now.case) c.in_ok-found.found c.in_ok-found.ensures.found
    ∙ ap (λ (e : EventValues). has_problem e.case) event)

pub returns : goal.returns
returns g c =
    let input = c.args.input.now in
    let control = values_of input.control in
    let field = input.assembly.field in
    let frame = input.assembly.frame in
    let number : ℕ = c.args.place + 1 in
    let there = event_at input.assembly number in
    let event = event_is input.assembly c.args.place c.index.result.now c.requires.place c.index.ensures in
    let found =
    lent_outcome c.as_ref.result c.in_ok-found.found c.as_ref.ensures.value
    ∙ (c.in_ok-found.ensures.found ∙ ap (λ (e : EventValues). outcome_of_case control field e.case) event) in
    let lanes : option_map lane_values c.in_ok-found.lanes ≡ lanes_of_case control field there.case =
    c.in_ok-found.ensures.lanes ∙ ap (λ (e : EventValues). lanes_of_case control field e.case) event in
    let told =
    subst (λ (count : Option LaneValues). IfOk c.report.result (λ block. block.items ≡ block_of frame field number there (option_map (λ f. found_value f.now) c.as_ref.result) count))
    lanes c.report.ensures in
    subst (λ (outcome : Option Outcome). IfOk c.report.result (λ block. block.items ≡ block_of frame field number there outcome (lanes_of_case control field there.case))) found told
