-- The parts of a judge by a table.
use Rattle.std.specs.Prelude.{ℕ, List}
use Rattle.node_boxes.specs.declared.node_box.NodeBox.{NodeBox}
use Rattle.node_boxes.specs.Grid.{GridSize}
use Rattle.edt_trials.specs.declared.table_judge.TableJudge.{TableJudge}

-- its grid
abbrev pub judge_grid : TableJudge → GridSize
judge_grid judge = judge.grid

-- its roots
abbrev pub judge_roots : TableJudge → List NodeBox
judge_roots judge = judge.roots.items

-- its table
abbrev pub judge_table : TableJudge → List ℕ
judge_table judge = judge.scores.items

-- how often it was asked
abbrev pub judge_asked : TableJudge → ℕ
judge_asked judge = judge.asked
