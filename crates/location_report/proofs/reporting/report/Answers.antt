use Rattle.std.proofs.Common.{rules, ◌≡◌, ◌++◌, [], ◌∷◌, length}
use Rattle.std.specs.Option.{option_map}
use Rattle.cover_certificate.specs.BlockLines.{block_text, text_of_lines}
use Rattle.octree_search.specs.Outcomes.{found_value}
use Rattle.event_assembly.specs.AssemblyValues.{event_value}
use Rattle.location_report.specs.Blocks.{certificate_value, first_line}
use Rattle.location_report.specs.Reports.{event_at, lane_values}
use Rattle.location_report.proofs.BlockLaws.{event_is, whole_block}
use Rattle.location_report.proofs.reporting.report.Goals as goal

pub returns : goal.returns
returns c =
    let event : event_at c.args.assembly.now c.args.number ≡ event_value c.index-event.result.now =
    event_is c.args.assembly.now c.args.number c.index-event.result.now c.requires.first c.requires.last c.index-event.ensures in
    let used : c.len.result ≡ length c.index-event.result.now.picks.used.items = search rules in
    let skipped : c.len-2.result ≡ length c.index-event.result.now.picks.skipped.items = search rules in
    let one : c.push_event.new.out.items ≡ [] ++ text_of_lines (first_line c.args.number (event_value c.index-event.result.now) ∷ []) =
    rw (c.reserve_block.ensures, c.new-out.ensures.items, used, skipped) at c.in_ok-push_event.ensures in
    let four : c.write_view.new.out.items ≡ c.push_lane_line.new.out.items ++ block_text (certificate_value (event_value c.index-event.result.now).case
    (option_map (λ f. found_value f.now) c.args.found)) =
    rw c.certificate_of-certificate.ensures at c.in_ok-write_view.ensures.ok in
    rw event (whole_block c.args.assembly.now.frame c.args.assembly.now.field c.args.number (event_value c.index-event.result.now)
    (option_map (λ f. found_value f.now) c.args.found) (option_map lane_values c.args.lanes)
    c.push_event.new.out.items c.push_findings.new.out.items c.push_lane_line.new.out.items c.write_view.new.out.items
    one c.in_ok-push_findings.ensures c.in_ok-push_lane_line.ensures four)
