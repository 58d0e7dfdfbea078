use Rattle.std.proofs.Common.{◌≡◌, ℕ, List, None, subst}
use Rattle.std.specs.List.{position}
use Rattle.control_reader.specs.ControlValues.{values_of}
use Rattle.time_grid.specs.Numbers.{is_over}
use Rattle.event_assembly.proofs.RowLaws.{none_over, times_for-plain}
use Rattle.event_assembly.proofs.bodies.convert_for.Goals as goal

pub returns-else-key : goal.returns-else-key
returns-else-key c =
    let same = times_for-plain (values_of c.args.control.now) c.args.key.now c.args.times.now c.if-key.false in
    (same, subst (λ (times : List ℕ). position is_over times ≡ None) same (none_over c.args.times.now c.requires.times))
