use Rattle.std.proofs.Common.{◌/◌, length}
use Rattle.time_grid.specs.Numbers.{number_at}
use Rattle.time_grid.proofs.BodyLaws.{none_over, one_over}
use Rattle.time_grid.proofs.body.later_over.Goals as goal

pub returns-in_err-first_over-in-None-clause-first : goal.returns-in_err-first_over-in-None-clause-first
returns-in_err-first_over-in-None-clause-first c times same before =
    rw c.from_residual.ensures
    (none_over times (number_at c.args.order c.args.piece.now) c.args.passed (length c.args.piece.now / 4) same (rw c.in-None.is at before) c.in_err-first_over-in-None.ensures)

pub returns-in_ok-first_over-in-None-clause-first : goal.returns-in_ok-first_over-in-None-clause-first
returns-in_ok-first_over-in-None-clause-first c times same before =
    one_over times (number_at c.args.order c.args.piece.now) c.args.passed (length c.args.piece.now / 4) c.in_ok-first_over-in-None.field-0 same (rw c.in-None.is at before)
    c.in_ok-first_over-in-None.ensures
