use Rattle.std.proofs.Common.{get_or, false, refl}
use Rattle.event_assembly.proofs.NumberLaws.{AreNumberedTo-more}
use Rattle.event_assembly.proofs.rows.Rows.of_marks.Goals as goal

pub loop-key-preserved : goal.loop-key-preserved
loop-key-preserved c =
    let one = c.in_ok-take_key.ensures in
    AreNumberedTo-more c.args.marks.now c.loop-key.key c.loop-key.rows.keys.items c.loop-key.rows.row_of_key.items c.take_key.new.self.keys.items
    c.take_key.new.self.row_of_key.items (get_or c.args.marks.now c.loop-key.key false) c.loop-key.invariant refl one.keys one.row
