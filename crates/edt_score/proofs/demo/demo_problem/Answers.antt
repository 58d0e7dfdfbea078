use Rattle.std.proofs.Common.{◌≡◌, ◌∙◌, ◌<◌, ap, subst, rules}
use Rattle.node_boxes.specs.Grid.{GridSize, node_count}
use Rattle.edt_score.specs.Field.{FieldTimes}
use Rattle.edt_score.specs.Demo.{cube, demo_field, demo_source, state_after}
use Rattle.edt_score.proofs.DemoDraws.{states_add}
use Rattle.edt_score.proofs.DemoPicks.{early_valid, field_is, picks_from, source_is, twelve_picks, twelve_rows}
use Rattle.edt_score.proofs.demo.demo_problem.Goals as goal

pub draw_picks-requires-clause-rows : goal.draw_picks-requires-clause-rows
draw_picks-requires-clause-rows c = twelve_rows c.args.seed c.args.side c.in_ok-field.field c.add_stations.new.field c.in_ok-add_stations.ensures.rows

pub returns-clause-field : goal.returns-clause-field
returns-clause-field c =
    field_is c.args.seed c.args.side c.unwrap-grid.result c.in_ok-roots.roots.items c.in_ok-field.field c.add_stations.new.field (search rules)
    c.in_ok-roots.ensures.value c.in_ok-field.ensures c.in_ok-add_stations.ensures.rows

pub returns-clause-grid : goal.returns-clause-grid
returns-clause-grid c =
    let grid : c.unwrap-grid.result ≡ cube c.args.side = search rules in
    ap (λ (f : FieldTimes). f.grid) c.in_ok-add_stations.ensures.rows ∙ (ap (λ (f : FieldTimes). f.grid) c.in_ok-field.ensures ∙ grid)

pub returns-clause-picks : goal.returns-clause-picks
returns-clause-picks c =
    let grid : c.unwrap-grid.result ≡ cube c.args.side = search rules in
    let field : c.add_stations.new.field ≡ demo_field c.args.seed c.args.side =
    field_is c.args.seed c.args.side c.unwrap-grid.result c.in_ok-roots.roots.items c.in_ok-field.field c.add_stations.new.field grid
    c.in_ok-roots.ensures.value c.in_ok-field.ensures c.in_ok-add_stations.ensures.rows in
    let source : c.draw_node-source.result ≡ demo_source c.args.seed c.args.side =
    source_is c.args.seed c.args.side c.unwrap-grid.result c.add_stations.new.state c.draw_node-source.result grid c.in_ok-add_stations.ensures.state c.draw_node-source.ensures.node in
    let state : c.draw_node-source.new.state ≡ state_after c.args.seed 27 =
    c.draw_node-source.ensures.state ∙ (ap (λ s. state_after s 3) c.in_ok-add_stations.ensures.state ∙ states_add c.args.seed 24 3) in
    picks_from c.args.seed c.args.side c.add_stations.new.field c.draw_node-source.result c.draw_node-source.new.state c.in_ok-picks.picks.items field source state
    (subst (λ (g : GridSize). c.draw_node-source.result < node_count g) grid c.draw_node-source.ensures.below) c.in_ok-picks.ensures.picks

pub returns-clause-source : goal.returns-clause-source
returns-clause-source c =
    let grid : c.unwrap-grid.result ≡ cube c.args.side = search rules in
    source_is c.args.seed c.args.side c.unwrap-grid.result c.add_stations.new.state c.draw_node-source.result grid c.in_ok-add_stations.ensures.state c.draw_node-source.ensures.node

pub returns-clause-valid : goal.returns-clause-valid
returns-clause-valid c =
    early_valid c.add_stations.new.field (record { picks = c.in_ok-picks.picks })
    (twelve_picks c.add_stations.new.field c.draw_node-source.result c.args.side c.draw_node-source.new.state c.in_ok-picks.picks.items c.in_ok-picks.ensures.picks)
    c.in_ok-picks.ensures.early
