use Rattle.std.proofs.Common.{◌≡◌, ◌∙◌, ℕ, ◌+◌, ◌*◌, ◌%◌, ap, sym, arith, map, length}
use Rattle.std.specs.List.{range_with_len}
use Rattle.std.proofs.lemmas.List.FromFn.{length-map-range_with_len}
use Rattle.node_boxes.specs.Grid.{node_count}
use Rattle.edt_score.specs.Field.{FieldTimes}
use Rattle.edt_score.specs.Demo.{cube, draw, draw_at, next_state, state_after, station_row, stations}
use Rattle.edt_score.specs.Inside.DemoParts.{time_from}
use Rattle.edt_score.proofs.DemoDraws.{no_draws, one_draw}
use Rattle.edt_score.proofs.DemoRows.{one_more_row, row_is}
use Rattle.edt_score.proofs.demo.add_stations.Goals as goal

pub loop-station-init : goal.loop-station-init
loop-station-init c = record {
  rows = ap (λ rows. record { grid = c.args.field.now.grid; roots = c.args.field.now.roots; rows = rows }) c.requires.empty;
  state = sym (no_draws c.args.state.now);
}

pub push_row-requires-clause-row : goal.push_row-requires-clause-row
push_row-requires-clause-row c = record {
  one_a_node = ap length c.in_ok-row.ensures.times
      ∙ (length-map-range_with_len (time_from c.grid.result.now (c.draw_below-x.result, c.draw_below-y.result, 0)) 0 (node_count c.grid.result.now)
      ∙ ap node_count c.grid.ensures.value);
  limit = c.in_ok-row.ensures.limit;
}

pub push_row-requires-clause-room : goal.push_row-requires-clause-room
push_row-requires-clause-room c =
    let rows = ap (λ (f : FieldTimes). length f.rows) c.loop-station.invariant.rows
    ∙ length-map-range_with_len (station_row c.args.state.now c.args.side) 0 c.loop-station._station in
    omega (arith, rows, c.loop-station-test.true)

pub loop-station-preserved : goal.loop-station-preserved
loop-station-preserved c =
    let seed : ℕ = c.args.state.now in
    let side : ℕ = c.args.side in
    let station : ℕ = c.loop-station._station in
    let at : c.loop-station.state ≡ state_after seed (2 * station) = c.loop-station.invariant.state in
    let next : c.draw_below-x.new.state ≡ state_after seed (2 * station + 1) = c.draw_below-x.ensures.state ∙ (ap next_state at ∙ one_draw seed (2 * station)) in
    let last : c.draw_below-y.new.state ≡ state_after seed (2 * station + 1 + 1) = c.draw_below-y.ensures.state ∙ (ap next_state next ∙ one_draw seed (2 * station + 1)) in
    let x : c.draw_below-x.result ≡ draw_at seed (2 * station) % side = c.draw_below-x.ensures.answer ∙ ap (λ s. draw s % side) at in
    let y : c.draw_below-y.result ≡ draw_at seed (2 * station + 1) % side = c.draw_below-y.ensures.answer ∙ ap (λ s. draw s % side) next in
    let grid : c.grid.result.now ≡ cube side = c.grid.ensures.value ∙ (ap (λ (f : FieldTimes). f.grid) c.loop-station.invariant.rows ∙ c.requires.cube) in
    let more : 2 * station + 1 + 1 ≡ 2 * (station + 1) = omega arith in
    record {
      rows = one_more_row seed side station c.args.field.now.grid c.args.field.now.roots c.loop-station.field _ c.in_ok-row.row.items
          c.loop-station.invariant.rows c.in_ok-push_row.ensures.pushed
          (row_is seed side station c.draw_below-x.result c.draw_below-y.result c.grid.result.now c.in_ok-row.row.items grid x y c.in_ok-row.ensures.times);
      state = last ∙ ap (state_after seed) more;
    }

pub returns-clause-rows : goal.returns-clause-rows
unfolding stations
returns-clause-rows c =
    let all : c.loop-station._station ≡ 12 = omega arith in
    c.loop-station.invariant.rows
    ∙ ap (λ n. record { grid = c.args.field.now.grid; roots = c.args.field.now.roots; rows = map (station_row c.args.state.now c.args.side) (range_with_len 0 n) }) all
