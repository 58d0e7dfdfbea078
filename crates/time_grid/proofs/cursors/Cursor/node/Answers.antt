use Rattle.time_grid.proofs.SelectionLaws.{cursor_node}
use Rattle.time_grid.proofs.cursors.Cursor.node.Goals as goal

pub returns : goal.returns
returns c = cursor_node c.requires.cursor.0 c.args.self.now c.requires.cursor.1
