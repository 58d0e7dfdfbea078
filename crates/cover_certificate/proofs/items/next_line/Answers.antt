use Rattle.std.proofs.Common.{arith}
use Rattle.edt_text.specs.LineCursor.{lines_passed}
use Rattle.cover_certificate.proofs.items.next_line.Goals as goal

pub overflow_add-number : goal.overflow_add-number
unfolding lines_passed
overflow_add-number c = omega (arith, c.args.lines.now.numbered, c.passed-number.ensures)
