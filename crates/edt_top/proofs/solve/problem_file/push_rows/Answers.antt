use Rattle.std.proofs.Common.{◌≡◌, ◌∙◌, ℕ, ◌+◌, ◌*◌, ap, sym, arith, List, [], ◌∷◌, ◌++◌, map, length}
use Rattle.std.specs.List.{range_with_len}
use Rattle.std.proofs.lemmas.List.FromFn.{map-range_with_len_more, length-map-range_with_len}
use Rattle.node_boxes.specs.declared.node_box.NodeBox.{NodeBox}
use Rattle.node_boxes.specs.Grid.{GridSize, node_count}
use Rattle.edt_score.specs.Field.{FieldTimes}
use Rattle.edt_top.specs.Solve.ProblemFile.{Words, nodes_in, first_time}
use Rattle.edt_top.specs.Inside.ProblemCursor.{Reading}
use Rattle.edt_top.specs.Solve.ProblemValues.{time_in, row_in}
use Rattle.edt_top.proofs.solve.problem_file.push_rows.Goals as goal

-- one more row
one_more : (words : Words) (r : Reading) (k row : ℕ) (grid : GridSize) (roots : List NodeBox) (field more : FieldTimes) (times : List ℕ)
    → field ≡ record { grid = grid; roots = roots; rows = map (row_in words) (range_with_len 0 row) } → more ≡ record field { rows = field.rows ++ times ∷ [] }
    → r ≡ record { words = words; place = k } → times ≡ row_in r.words row
    → more ≡ record { grid = grid; roots = roots; rows = map (row_in words) (range_with_len 0 (row + 1)) }
one_more words r k row grid roots field more times all pushed at is =
    let times_is : times ≡ row_in words row = is ∙ ap (λ (x : Reading). row_in x.words row) at in
    pushed ∙ (ap (λ (f : FieldTimes). record f { rows = f.rows ++ times ∷ [] }) all
    ∙ (ap (λ t. record { grid = grid; roots = roots; rows = map (row_in words) (range_with_len 0 row) ++ t ∷ [] }) times_is
    ∙ ap (λ rows. record { grid = grid; roots = roots; rows = rows }) (sym (map-range_with_len_more (row_in words) 0 row row (omega arith)))))

pub push_row-requires-clause-row : goal.push_row-requires-clause-row
push_row-requires-clause-row c =
    let words : c.loop-row.cursor.words ≡ c.args.cursor.now.words = ap (λ (r : Reading). r.words) c.loop-row.invariant.moved in
    let grid : c.loop-row.field.grid ≡ c.args.field.now.grid = ap (λ (f : FieldTimes). f.grid) c.loop-row.invariant.rows in
    let times : c.in_ok-times.times.items ≡ row_in c.args.cursor.now.words c.loop-row.row = c.in_ok-times.ensures.times ∙ ap (λ ws. row_in ws c.loop-row.row) words in
    record {
      one_a_node = ap length times ∙ (length-map-range_with_len (time_in c.args.cursor.now.words c.loop-row.row) 0 (nodes_in c.args.cursor.now.words)
          ∙ (sym c.requires.nodes ∙ ap node_count (sym grid)));
      limit = c.in_ok-times.ensures.limit;
    }

pub push_row-requires-clause-room : goal.push_row-requires-clause-room
push_row-requires-clause-room c =
    let rows = ap (λ (f : FieldTimes). length f.rows) c.loop-row.invariant.rows ∙ length-map-range_with_len (row_in c.args.cursor.now.words) 0 c.loop-row.row in
    omega (arith, rows, c.ranges.picks.fits)

pub loop-row-preserved : goal.loop-row-preserved
loop-row-preserved c = record {
  rows = one_more c.args.cursor.now.words c.loop-row.cursor _ c.loop-row.row c.args.field.now.grid c.args.field.now.roots c.loop-row.field _ c.in_ok-times.times.items
      c.loop-row.invariant.rows c.in_ok-push_row.ensures.pushed c.loop-row.invariant.moved c.in_ok-times.ensures.times;
  moved = c.in_ok-times.ensures.moved
      ∙ (ap (λ (r : Reading). record r { place = first_time r.words + (c.loop-row.row + 1) * c.nodes-nodes.result }) c.loop-row.invariant.moved
      ∙ ap (λ n. record { words = c.args.cursor.now.words; place = first_time c.args.cursor.now.words + (c.loop-row.row + 1) * n })
      (c.nodes-nodes.ensures.value ∙ (ap node_count c.grid.ensures.value ∙ c.requires.nodes)));
  sound = c.in_ok-times.ensures.sound;
}
