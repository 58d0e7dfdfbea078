use Rattle.std.proofs.Common.{◌≡◌, ◌∙◌, subst, length, IfSome, Ok}
use Rattle.std.specs.Prelude.{⊤}
use Rattle.node_boxes.specs.Grid.{node_count}
use Rattle.time_grid.specs.Alignment.{search_times, time_grid_size}
use Rattle.time_grid.specs.GridFaults.{ReadsBody}
use Rattle.time_grid.specs.Numbers.{body_times}
use Rattle.time_grid.specs.Inside.Selections.{AreTaken}
use Rattle.time_grid.proofs.AnswerLaws.{selected_search_times, stream_good, taken_are_selected}
use Rattle.time_grid.proofs.streaming.stream_times.Goals as goal

pub read_body-requires-in-Err-clause-selection : goal.read_body-requires-in-Err-clause-selection
read_body-requires-in-Err-clause-selection g c = c.none-none.ensures.selection c.node_total-nodes.result

pub returns-in_ok-read_body-in-Ok-clause-told : goal.returns-in_ok-read_body-in-Ok-clause-told
returns-in_ok-read_body-in-Ok-clause-told g c =
    let found = c.in-Ok.ensures in
    let into = c.read_body.new.into in
    let header = c.args.header.now in
    let frame = c.args.frame.now in
    let nodes = node_count (time_grid_size header) in
    let chosen = c.in-Ok.selection in
    let order = c.args.order in
    let long : length into ≡ node_count frame.grid = c.read_body.auto.into ∙ c.requires.places in
    stream_good (g.S.Shelf.files c.args.shelf.now) c.args.name.now order nodes (λ bytes _. AreTaken order chosen bytes into)
    (λ bytes. into ≡ search_times header frame (body_times order bytes nodes)) _ _
    (λ bytes taken. selected_search_times header frame (body_times order bytes nodes) chosen into found.size found.nodes long
    (taken_are_selected order bytes nodes chosen into found.selection taken))
    (subst (λ n. IfSome (g.S.Shelf.files c.args.shelf.now) (λ file. ReadsBody {T = ⊤} order n (λ bytes _. AreTaken order chosen bytes into) (file c.args.name.now) (Ok _)))
    c.node_total-nodes.ensures.value c.in_ok-read_body-in-Ok.ensures.told)
