use Rattle.std.proofs.Common.{◌∙◌, ap, subst, sym}
use Rattle.node_boxes.specs.Grid.{node_count}
use Rattle.time_grid.specs.Inside.Selections.{IsSelection}
use Rattle.time_grid.proofs.AnswerLaws.{selected_search_times, selected_within}
use Rattle.time_grid.proofs.grids.TimeGrid.on_search_grid.Goals as goal

pub returns-in_ok-selected_times-in-Ok-clause-value : goal.returns-in_ok-selected_times-in-Ok-clause-value
returns-in_ok-selected_times-in-Ok-clause-value c =
    let found = c.in-Ok.ensures in
    let taken = c.in_ok-selected_times-in-Ok.ensures in
    rw (sym c.self.view_is) (selected_search_times c.self.inside.header c.args.frame.now c.self.inside.times.items c.in-Ok.selection c.in_ok-selected_times-in-Ok.field-0.items
    found.size found.nodes (taken.one_a_node ∙ ap node_count found.size) (rw c.deref.ensures.value at taken.value))

pub returns-in_ok-selected_times-in-Ok-clause-limit : goal.returns-in_ok-selected_times-in-Ok-clause-limit
returns-in_ok-selected_times-in-Ok-clause-limit c =
    let found = c.in-Ok.ensures in
    let taken = c.in_ok-selected_times-in-Ok.ensures in
    selected_within c.self.inside.times.items c.in-Ok.selection c.in_ok-selected_times-in-Ok.field-0.items
    (subst (λ n. IsSelection n c.in-Ok.selection) (sym c.self.invariant.one_a_node) found.selection) c.self.invariant.limit taken.one_a_node (rw c.deref.ensures.value at taken.value)
