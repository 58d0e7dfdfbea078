use Rattle.std.proofs.Common.{arith, ◌≡◌, ◌∙◌, ◌<◌, sym}
use Rattle.std.proofs.lemmas.List.{get_or-set_other}
use Rattle.node_boxes.specs.Grid.{node_count}
use Rattle.time_grid.specs.Inside.Selections.{selected_node, selection_size}
use Rattle.time_grid.proofs.SelectionLaws.{cursor_inside, cursor_node}
use Rattle.time_grid.proofs.TakeLaws.{taken_more}
use Rattle.time_grid.proofs.cursors.Cursor.take.Goals as goal

pub advance-requires-clause-cursor : goal.advance-requires-clause-cursor
advance-requires-clause-cursor c =
    (c.requires.cursor.0, c.requires.cursor.1, c.loop-self.invariant.cursor c.requires.cursor.0 c.requires.cursor.2)

pub loop-self-preserved : goal.loop-self-preserved
loop-self-preserved c =
    let kept = c.loop-self.invariant in
    let before = c.loop-self.self in
    let after = c.advance.new.self in
    let nodes = c.requires.cursor.0 in
    let old_cursor = kept.cursor nodes c.requires.cursor.2 in
    let new_cursor = c.advance.ensures.cursor nodes old_cursor in
    let left : before.done < node_count (selection_size before.selection) = rw kept.selection (omega (arith, c.requires.places, c.loop-self.auto.into, c.loop-self-test.true)) in
    let on = kept.on in
    let from = kept.ahead left in
    let node : before.node ≡ selected_node c.args.self.now.selection before.done = rw (sym kept.selection) (cursor_node nodes before old_cursor) in
    record {
      cursor = λ nodes first. c.advance.ensures.cursor nodes (kept.cursor nodes first);
      selection = c.advance.ensures.selection ∙ kept.selection;
      ahead = λ left. let rises = c.advance.ensures.rises (cursor_inside nodes after new_cursor left) in omega arith;
      on = omega (arith, c.advance.ensures.done, kept.on);
      kept = λ k b. get_or-set_other c.loop-self.into before.done k c.number_at.result 0 (λ e. absurd (omega arith)) ∙ kept.kept k b;
      taken = taken_more c.args.order c.args.first c.args.piece.now c.args.self.now.selection c.loop-self.into c.args.self.now.done before.done after.done c.number_at.result c.loop-self-test.true
          (rw (sym node) (record { from = from; to = c.if-self-end.true; value = c.number_at.ensures })) kept.taken c.advance.ensures.done;
    }
