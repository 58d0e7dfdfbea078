-- No time that a look-up in a field tells is above 2,000,000,000 microseconds.
use Rattle.std.specs.Prelude.{◌≡◌, ℕ, [], ◌<◌, ◌≤◌, pos, length, Option, option_map, unwrap_or}
use Rattle.std.proofs.Common.{get_or, subst, sym, ap}
use Rattle.std.proofs.lemmas.Option.{slice_get-get_or}
use Rattle.node_boxes.specs.declared.limits.TheConstants.{GREATEST_TIME}
use Rattle.node_boxes.specs.Grid.{node_count}
use Rattle.edt_score.specs.declared.look.FieldLook.{FieldLook}
use Rattle.edt_score.specs.declared.problem.ProblemPick.{ProblemPick}
use Rattle.edt_score.specs.Look.{look_field, look_problem, pick_time, row_at}

-- what stands for a pick past the end of a list
no_pick : ProblemPick
no_pick = record { time = pos 0; weight = 0; variance = 0; row = 0 }

pub look_limit : (look : FieldLook) (pick node : ℕ) → pick < length (look_problem look).picks.items
    → node < node_count (look_field look).grid
    → pick_time (look_field look) (look_problem look).picks.items pick node ≤ GREATEST_TIME
look_limit look pick node in_picks in_nodes =
    let picks = (look_problem look).picks.items in
    let rows = (look_field look).rows in
    let row_is : row_at picks pick ≡ (get_or picks pick no_pick).row =
    ap (λ (found : Option ProblemPick). unwrap_or (option_map (λ (p : ProblemPick). p.row) found) 0) (slice_get-get_or picks pick no_pick in_picks) in
    let in_rows : row_at picks pick < length rows = subst (λ n. n < length rows) (sym row_is) (look.valid.picks pick no_pick in_picks).row in
    let row = look.rows (row_at picks pick) [] in_rows in
    let within : node < length (get_or rows (row_at picks pick) []) = subst (λ n. node < n) (sym row.one_a_node) in_nodes in
    row.limit node 0 within
