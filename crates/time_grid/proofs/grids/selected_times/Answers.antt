use Rattle.std.proofs.Common.{arith, ◌≡◌, ◌+◌, ◌∙◌, length, ap, refl, sym}
use Rattle.time_grid.specs.Inside.Selections.{selected_node}
use Rattle.time_grid.proofs.AnswerLaws.{selected_below, selected_more}
use Rattle.time_grid.proofs.grids.selected_times.Goals as goal

pub loop-init : goal.loop-init
loop-init c = record {
  cursor = c.new-cursor.ensures.cursor (length c.args.times.now) c.requires.selection;
  selection = c.new-cursor.ensures.selection;
  done = c.new-cursor.ensures.done;
  long = rw c.in_ok-taken.ensures.items refl;
  taken = λ k below. absurd (omega arith);
}

pub bounds-times-node : goal.bounds-times-node
bounds-times-node c =
    let kept = c.loop.invariant in
    let at : c.node.result ≡ selected_node c.args.selection c.loop.cursor.done = rw (sym kept.selection) c.node.ensures in
    rw at (selected_below (length c.args.times.now) c.args.selection c.loop.cursor.done c.requires.selection (omega (arith, kept.done, c.loop-test.true)))

pub offset_bounds-times-node : goal.offset_bounds-times-node
offset_bounds-times-node c =
    let kept = c.loop.invariant in
    let at : c.node.result ≡ selected_node c.args.selection c.loop.cursor.done = rw (sym kept.selection) c.node.ensures in
    let inside = selected_below (length c.args.times.now) c.args.selection c.loop.cursor.done c.requires.selection (omega (arith, kept.done, c.loop-test.true)) in
    omega (arith, c.requires.few)

pub loop-preserved : goal.loop-preserved
loop-preserved c =
    let kept = c.loop.invariant in
    let at : c.node.result ≡ selected_node c.args.selection c.loop.counter = rw (sym kept.selection, sym kept.done) c.node.ensures in
    record {
      cursor = c.advance.ensures.cursor (length c.args.times.now) kept.cursor;
      selection = c.advance.ensures.selection ∙ kept.selection;
      done = c.advance.ensures.done ∙ ap (λ n. n + 1) kept.done;
      long = omega (arith, kept.long, c.in_ok-push.ensures.len);
      taken = λ k below. rw c.in_ok-push.ensures.items (selected_more c.args.times.now c.args.selection c.loop.taken.items c.loop.counter c.node.result kept.long at kept.taken k below);
    }
