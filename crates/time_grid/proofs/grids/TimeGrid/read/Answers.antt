use Rattle.std.proofs.Common.{arith, ◌≡◌, ◌∙◌, ◌++◌, ap, subst, length, take, drop, IfSome, Ok, Err}
use Rattle.std.specs.Prelude.{⊤}
use Rattle.node_boxes.specs.Grid.{node_count}
use Rattle.time_grid.specs.Alignment.{time_grid_size}
use Rattle.time_grid.specs.GridFaults.{ReadsBody}
use Rattle.time_grid.specs.Numbers.{body_times}
use Rattle.time_grid.specs.Inside.Selections.{AreTaken}
use Rattle.time_grid.specs.TimeGrids.{HeldTimes}
use Rattle.time_grid.proofs.AnswerLaws.{same_refusal, same_good, are_body_times, grid_is_kept, whole_items}
use Rattle.time_grid.proofs.grids.TimeGrid.read.Goals as goal

pub invariant_of-result : goal.invariant_of-result
invariant_of-result g c =
    grid_is_kept c.args.header.now c.in_ok-times.times.len c.read_body.new.into c.in_ok-times.times.items c.requires.header
    (omega (arith, c.read_body.auto.into, c.deref_mut-2.ensures.len)) (c.in_ok-times.ensures.len ∙ c.node_total-nodes.ensures.value) c.in-Ok.ensures.limit

pub returns-in-Ok-clause-told : goal.returns-in-Ok-clause-told
returns-in-Ok-clause-told g c =
    let into = c.read_body.new.into in
    let rest = c.in_ok-times.times.items in
    let n = c.in_ok-times.times.len in
    let nodes = node_count (time_grid_size c.args.header.now) in
    let total = c.node_total-nodes.ensures.value in
    let long : length into ≡ n = omega (arith, c.read_body.auto.into, c.deref_mut-2.ensures.len) in
    let every = c.whole-every.ensures in
    same_good {S = ⊤} {T = HeldTimes} (g.S.Shelf.files c.args.shelf.now) c.args.name.now c.args.order nodes
    (λ bytes _. AreTaken c.args.order c.whole-every.result bytes into) (λ bytes grid. grid.times ≡ body_times c.args.order bytes nodes) c.in-Ok.field-0
    (record { header = c.args.header.now; times = take n (into ++ drop (length into) rest) })
    (λ bytes taken. whole_items n into rest long
    ∙ are_body_times c.args.order bytes nodes c.whole-every.result into (ap node_count every.size) every.nodes (long ∙ c.in_ok-times.ensures.len ∙ total) taken)
    (subst (λ k. IfSome (g.S.Shelf.files c.args.shelf.now) (λ file.
    ReadsBody {T = ⊤} c.args.order k (λ bytes _. AreTaken c.args.order c.whole-every.result bytes into) (file c.args.name.now) (Ok c.in-Ok.field-0))) total c.in-Ok.ensures.told)

pub returns-in-Ok-clause-kept : goal.returns-in-Ok-clause-kept
returns-in-Ok-clause-kept g c =
    grid_is_kept c.args.header.now c.in_ok-times.times.len c.read_body.new.into c.in_ok-times.times.items c.requires.header
    (omega (arith, c.read_body.auto.into, c.deref_mut-2.ensures.len)) (c.in_ok-times.ensures.len ∙ c.node_total-nodes.ensures.value) c.in-Ok.ensures.limit

pub returns-in-Err-clause-told : goal.returns-in-Err-clause-told
returns-in-Err-clause-told g c =
    let nodes = node_count (time_grid_size c.args.header.now) in
    let into = c.read_body.new.into in
    same_refusal {S = ⊤} {T = HeldTimes} (g.S.Shelf.files c.args.shelf.now) c.args.name.now c.args.order nodes
    (λ bytes _. AreTaken c.args.order c.whole-every.result bytes into) (λ bytes grid. grid.times ≡ body_times c.args.order bytes nodes) c.in-Err.fault
    (subst (λ k. IfSome (g.S.Shelf.files c.args.shelf.now) (λ file.
    ReadsBody {T = ⊤} c.args.order k (λ bytes _. AreTaken c.args.order c.whole-every.result bytes into) (file c.args.name.now) (Err c.in-Err.fault)))
    c.node_total-nodes.ensures.value c.in-Err.ensures.told)
